use Rattle.std.proofs.Common.{List, ap}
use Rattle.std.proofs.lemmas.List.{take-replicate}
use Rattle.values.specs.declared.value.Value.{Value}
use Rattle.values.specs.declared.value.Value.TheVariants.{Null}
use Rattle.store.specs.Model.{StoredCell}
use Rattle.even_store.proofs.even.Place.new.Goals as goal

pub returns : goal.returns
returns c =
    let cell : List Value → StoredCell = λ vs. record { head = c.args.head; fields = vs } in
    ap cell (take-replicate c.args.fields 8 Null c.requires)
