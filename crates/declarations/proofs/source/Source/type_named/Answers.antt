use Rattle.std.proofs.Common.{refl, rules}
use Rattle.declarations.specs.Rows.{of_row, of_set}
use Rattle.declarations.proofs.Options.{mapped}
use Rattle.declarations.proofs.source.Source.type_named.Goals as goal

pub returns-in-SetOf : goal.returns-in-SetOf
returns-in-SetOf c = rw c.in-SetOf.is (mapped of_set _ _ _ refl (λ x y k. search rules) c.row_named.ensures c.map.ensures.cases)

pub returns-in-Row : goal.returns-in-Row
returns-in-Row c = rw c.in-Row.is (mapped of_row _ _ _ refl (λ x y k. search rules) c.row_named-in-Row.ensures c.map-in-Row.ensures.cases)
