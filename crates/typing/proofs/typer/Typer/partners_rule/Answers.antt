use Rattle.typing.proofs.typer.Typer.partners_rule.Goals as goal

pub returns : goal.returns
returns c =
    let f = c.in_ok-ends.ensures in
    let h = c.fits_row.ensures in
    let g = c.set_of_row.ensures in
    let t = c.typed_if.ensures in
    simp (t, ← f, h, g)
