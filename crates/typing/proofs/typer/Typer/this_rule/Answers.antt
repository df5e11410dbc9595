use Rattle.typing.proofs.typer.Typer.this_rule.Goals as goal

pub returns : goal.returns
returns c =
    let f = c.in_ok-method.ensures in
    let g = c.type_of_row.ensures in
    simp (← f, g)
