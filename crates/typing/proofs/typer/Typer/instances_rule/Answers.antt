use Rattle.typing.proofs.typer.Typer.instances_rule.Goals as goal

pub returns : goal.returns
returns c =
    let e = c.in_ok-r.ensures in
    let f = c.in_ok-ends.ensures in
    let h = c.fits_row.ensures in
    let g = c.set_of.ensures in
    let t = c.typed_if.ensures in
    simp (t, ← e, ← f, h, g)
