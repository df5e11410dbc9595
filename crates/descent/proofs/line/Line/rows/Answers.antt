use Rattle.std.proofs.Common.{sym}
use Rattle.descent.proofs.Rows.{rows_are, is_line}
use Rattle.descent.proofs.line.Line.rows.Goals as goal

pub returns : goal.returns
returns c = record { count = sym (rows_are c.args.self.now); line = is_line c.args.self.now }
