use Rattle.typing.proofs.typer.Typer.from_rule.Goals as goal

pub returns : goal.returns
returns c =
    let e = c.in_ok-relationship_of.ensures in
    let f = c.in_ok-ends.ensures in
    let g = c.type_of_row.ensures in
    simp (← e, ← f, g)
