use Rattle.std.proofs.Common.{◌<◌, false, eqb, get_or, Decides, refl, arith}
use Rattle.std.proofs.lemmas.Bool.{eqb-true, eq-eqb, both_ways}
use Rattle.descent.specs.Descent.{itself, upward, Descends}
use Rattle.descent.specs.Rows.{line_of}
use Rattle.descent.proofs.Order.{starts, laws, descends_same, transitive, over, falling, parent_smaller}
use Rattle.descent.proofs.Rows.{rows_are, is_line, parent_there}
use Rattle.descent.proofs.line.Line.descends.Goals as goal

pub returns-then-row-self : goal.returns-then-row-self
returns-then-row-self c =
    let l = c.args.self.now in
    let n = rows_are l in
    let i = is_line l in
    let d : Decides false (Descends (line_of l) c.args.row c.args.to) =
    (λ e. absurd (both_ways false refl e), λ d. let h = starts d in absurd (omega arith)) in
    record { relation = d; same = descends_same i _ _ _ d; order = laws i }

pub loop-at-init : goal.loop-at-init
loop-at-init c = let n = rows_are c.args.self.now in (omega arith, itself (omega arith), λ d. d)

-- one row up
pub loop-at-preserved : goal.loop-at-preserved
loop-at-preserved c =
    let l = c.args.self.now in
    let n = rows_are l in
    let at = c.loop-at.at in
    let inv = c.loop-at.invariant in
    let p = parent_there l at (omega arith) inv.0 in
    let m = parent_smaller (is_line l) p in
    let k : get_or l.parents at 0 < l.rows = omega (arith, inv.0) in
    let up : Descends (line_of l) at (get_or l.parents at 0) = upward p (itself (omega arith)) in
    (k, transitive inv.1 up, λ d. over p (inv.2 d) (omega arith))

pub returns : goal.returns
returns c =
    let l = c.args.self.now in
    let at = c.loop-at.at in
    let to = c.args.to in
    let inv = c.loop-at.invariant in
    let i = is_line l in
    let d : Decides (eqb at to) (Descends (line_of l) c.args.row to) =
    (λ e. let z = eqb-true at to e in rw z at inv.1, λ d. let h = falling i (inv.2 d) in eq-eqb at to (omega arith)) in
    record { relation = d; same = descends_same i _ _ _ d; order = laws i }
