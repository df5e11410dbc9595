use Rattle.std.proofs.Common.{refl}
use Rattle.probe_table.specs.Probing.{along, start}
use Rattle.probe_table.proofs.Probing.{along_below}
use Rattle.probe_table.proofs.probe.Goals as goal

pub returns : goal.returns
unfolding along start
returns c = record { place = refl; below = along_below c.args.link.relationship c.args.link.from c.args.link.to c.args.k }
