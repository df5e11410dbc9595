use Rattle.typing.proofs.typer.Typer.new_rule.Goals as goal

pub returns : goal.returns
returns c =
    let f = c.in_ok-n.ensures in
    let g = c.of_row.ensures in
    simp (← f, g)
