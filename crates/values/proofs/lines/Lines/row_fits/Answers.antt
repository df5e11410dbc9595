use Rattle.std.proofs.Common.{◌≡◌, rules, sym}
use Rattle.std.proofs.lemmas.Bool.{eq-eqb, ne_eqb}
use Rattle.values.specs.Lines.{ancestry}
use Rattle.values.proofs.Fitting.{are_lines, row_told, fits_in_line, class_fits_none, relationship_fits}
use Rattle.values.proofs.lines.Lines.row_fits.Goals as goal

pub returns-then-eq : goal.returns-then-eq
returns-then-eq c =
    let same : c.args.from ≡ c.args.to = search rules in
    row_told (are_lines c.args.self.now) (cc (c.descends.ensures.same, c.line.ensures, fits_in_line (ancestry c.args.self.now) _ _ c.args.m c.args.n same))

pub returns-in-Class : goal.returns-in-Class
returns-in-Class c =
    let apart : c.args.from ≡ c.args.to → ⊥ = search rules in
    let is = c.in-Class.is in
    row_told (are_lines c.args.self.now) (simp is (sym (class_fits_none _ _ c.args.m c.args.n (rw is at apart))))

pub returns-then-n-eq0 : goal.returns-then-n-eq0
unfolding ancestry
returns-then-n-eq0 c =
    let apart : c.args.from ≡ c.args.to → ⊥ = search rules in
    let is = c.in-Relationship.is in
    let z = eq-eqb c.args.n 0 c.if-n-eq0.true in
    let far = relationship_fits (ancestry c.args.self.now) c.args.to c.args.m c.args.n (rw is at apart) in
    row_told (are_lines c.args.self.now) (simp (is, far, z, c.rows.ensures.count))

pub returns-else-n-eq0 : goal.returns-else-n-eq0
returns-else-n-eq0 c =
    let apart : c.args.from ≡ c.args.to → ⊥ = search rules in
    let is = c.in-Relationship.is in
    let z = ne_eqb c.args.n 0 c.if-n-eq0.false in
    let far = relationship_fits (ancestry c.args.self.now) c.args.to c.args.m c.args.n (rw is at apart) in
    row_told (are_lines c.args.self.now) (simp (is, far, z))
