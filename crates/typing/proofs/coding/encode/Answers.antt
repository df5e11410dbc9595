use Rattle.std.proofs.Common.{sym, ◌∙◌}
use Rattle.typing.specs.Coding.{decoded}
use Rattle.typing.proofs.coding.encode.Goals as goal

pub returns-in-None : goal.returns-in-None
unfolding decoded
returns-in-None c = sym c.in-None.is

pub returns-in-Some : goal.returns-in-Some
returns-in-Some c = c.type_code.ensures ∙ sym c.in-Some.is
