use Rattle.std.proofs.Common.{Some, sym, ap, ◌∙◌, arith, rules}
use Rattle.typing.proofs.Decoding.{at_plain, at_class, at_relationship, at_class_set, at_relationship_set, at_none}
use Rattle.typing.proofs.coding.decode.Goals as goal

pub returns-in-1 : goal.returns-in-1
returns-in-1 c = search (rules, at_plain)

pub returns-in-2 : goal.returns-in-2
returns-in-2 c = search (rules, at_plain)

pub returns-in-256-to-511 : goal.returns-in-256-to-511
returns-in-256-to-511 c = ap Some c.of_row.ensures ∙ sym (at_class c.args.n (omega arith) (omega arith))

pub returns-in-512-to-767 : goal.returns-in-512-to-767
returns-in-512-to-767 c = ap Some c.of_row-in-512-to-767.ensures ∙ sym (at_relationship c.args.n (omega arith) (omega arith))

pub returns-in-768-to-1023 : goal.returns-in-768-to-1023
returns-in-768-to-1023 c = ap Some c.set_of.ensures ∙ sym (at_class_set c.args.n (omega arith) (omega arith))

pub returns-in-1024-to-1279 : goal.returns-in-1024-to-1279
returns-in-1024-to-1279 c = ap Some c.set_of-in-1024-to-1279.ensures ∙ sym (at_relationship_set c.args.n (omega arith) (omega arith))

pub returns-in_default : goal.returns-in_default
returns-in_default c = search (rules, at_plain)

pub returns-in_default-2 : goal.returns-in_default-2
returns-in_default-2 c = sym (at_none c.args.n (omega arith))
