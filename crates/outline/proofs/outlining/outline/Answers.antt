use Rattle.std.proofs.Common.{sym, ap, ◌∙◌}
use Rattle.outline.specs.Contents.{contents}
use Rattle.outline.proofs.Following.{builds, same_limits, same_tables}
use Rattle.outline.proofs.outlining.outline.Goals as goal

pub returns-in-Some : goal.returns-in-Some
returns-in-Some c =
    let j = c.in_ok-judge.ensures in
    let t = j.1.tree in
    let b = builds t c.new-builder.result c.judge.new.sink c.new-builder.ensures j.1.log in
    record {
      tree = t;
      program = record { extent = c.in_ok-judge.field-0; readable = j.0; parsed = j.1.parsed };
      limit = sym (same_limits t _ b) ∙ sym c.limit.ensures ∙ c.in-Some.is;
    }

pub returns-in-None : goal.returns-in-None
returns-in-None c =
    let j = c.in_ok-judge.ensures in
    let t = j.1.tree in
    let b = builds t c.new-builder.result c.judge.new.sink c.new-builder.ensures j.1.log in
    let e = sym (same_limits t _ b) ∙ sym c.limit.ensures ∙ c.in-None.is in
    record {
      tree = t;
      program = record { extent = c.in_ok-judge.field-0; readable = j.0; parsed = j.1.parsed };
      limit = e;
      tables = ap contents c.into_outline.ensures ∙ same_tables t _ b e;
    }
