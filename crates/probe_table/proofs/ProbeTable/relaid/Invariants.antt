use Rattle.std.proofs.Common.{◌≡◌, take}
use Rattle.probe_table.specs.Probing.{held, Same}
use Rattle.probe_table.proofs.ProbeTable.relaid.Given as goal

abbrev pub invariant-loop-place : goal.invariant-loop-place
invariant-loop-place l = Same (held (take l.place-index l.self.places)) (held l.fresh.places) × (l.fresh.spent ≡ l.fresh.count)
