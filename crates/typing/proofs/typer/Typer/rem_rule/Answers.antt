use Rattle.typing.proofs.typer.Typer.rem_rule.Goals as goal

pub returns : goal.returns
returns c =
    let f = c.in_ok-r.ensures in
    let g = c.relationship_type.ensures in
    simp (← f, g)
