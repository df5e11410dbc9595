use Rattle.std.proofs.Common.{arith}
use Rattle.typing.proofs.Decoding.{code_boolean, code_null, code_row, code_set}
use Rattle.typing.proofs.coding.type_code.Goals as goal

pub returns-in-Boolean : goal.returns-in-Boolean
returns-in-Boolean c = code_boolean c.args.t c.in-Boolean.ensures

pub returns-in-Null : goal.returns-in-Null
returns-in-Null c = code_null c.args.t c.in-Null.ensures

pub returns-in-Row : goal.returns-in-Row
returns-in-Row c = code_row c.in-Row.lineage c.args.t c.row.result c.row_code.result c.in-Row.ensures c.row.ensures (omega arith) c.row_code.ensures

pub returns-in-Set : goal.returns-in-Set
returns-in-Set c =
    code_set c.in-Set.lineage c.args.t c.row-in-Set.result c.row_code-in-Set.result c.in-Set.ensures c.row-in-Set.ensures (omega arith) c.row_code-in-Set.ensures
