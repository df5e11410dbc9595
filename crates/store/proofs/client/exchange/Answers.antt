use Rattle.store.proofs.Frames.{put_field, read_back}
use Rattle.store.proofs.client.exchange.Goals as goal

pub returns : goal.returns
returns g c =
    let m = g.S.Store.model c.args.store.now in
    let o = put_field m _ c.args.cell c.args.field c.args.value tt c.put.result c.in_ok-put.was c.put.ensures.answer c.put.ensures.after in
    read_back m _ c.args.cell c.args.field c.args.value c.value.result o c.value.ensures
