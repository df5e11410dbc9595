use Rattle.std.proofs.Common.{refl, rules}
use Rattle.std.proofs.lemmas.Iterator.{YieldsList-from_range}
use Rattle.std.proofs.lemmas.Iterator.Search.{all_from_yields_List}
use Rattle.values.specs.Admits.{member_fits_to, members_fit_to}
use Rattle.values.specs.Lines.{ancestry}
use Rattle.values.proofs.Members.{all_told}
use Rattle.values.proofs.admission.Fitting.members.Goals as goal

pub returns : goal.returns
unfolding members_fit_to
returns g c =
    let s = c.args.self.now in
    let f = member_fits_to (ancestry s.lines.now) (g.R.CellRows.rows s.cells.now) c.args.set s.row.lineage s.row.number in
    all_told f 128 c.all.result (all_from_yields_List f _ _ _ c.all.ensures.ran (YieldsList-from_range 0 128 128 refl refl) (λ x b q e. search rules))
