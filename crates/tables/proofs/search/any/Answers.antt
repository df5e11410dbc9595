use Rattle.std.proofs.Common.{false, sym, ◌∙◌, arith}
use Rattle.tables.proofs.Found.{any_start, any_more, some_any}
use Rattle.tables.proofs.search.any.Goals as goal

pub loop-i-init : goal.loop-i-init
loop-i-init g c = λ t k. any_start t

pub returns-then-passes : goal.returns-then-passes
returns-then-passes g c = λ t k. sym (some_any t _ c.loop-i.i (omega arith) (sym (k c.loop-i.i _ (omega arith) c.if-passes.ensures)))

pub loop-i-preserved : goal.loop-i-preserved
loop-i-preserved g c = λ t k. any_more t c.loop-i.i (c.loop-i.invariant t k) (sym (k c.loop-i.i false (omega arith) c.if-passes.ensures))
