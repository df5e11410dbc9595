use Rattle.std.proofs.Common.{◌≡◌, rules, Decides}
use Rattle.std.proofs.lemmas.Bool.Decides.{Decides-at, not_from_Decides}
use Rattle.values.specs.Fits.{Fits, fits_itself}
use Rattle.values.specs.Lines.{ancestry}
use Rattle.values.proofs.Fitting.{are_lines, fits_apart, fits_same}
use Rattle.values.proofs.Admitting.{fit_laws}
use Rattle.values.proofs.SameType.{ty_told}
use Rattle.values.proofs.lines.Lines.fits.Goals as goal

pub returns-then-eq : goal.returns-then-eq
returns-then-eq c =
    let l = are_lines c.args.self.now in
    let same : Decides c.eq.result (c.args.s ≡ c.args.t) = ty_told (search rules) in
    let d : Decides c.eq.result (Fits (ancestry c.args.self.now) c.args.s c.args.t) =
    (λ e. fits_itself (same.0 e), λ f. c.if-eq.true) in
    record { relation = d; same = fits_same l c.args.s c.args.t c.eq.result d; laws = fit_laws l }

pub returns-else-eq : goal.returns-else-eq
returns-else-eq c =
    let l = are_lines c.args.self.now in
    let same : Decides c.eq.result (c.args.s ≡ c.args.t) = ty_told (search rules) in
    let ne = not_from_Decides c.eq.result same c.if-eq.false in
    let r = c.kind_fits.result in
    let d : Decides r (Fits (ancestry c.args.self.now) c.args.s c.args.t) =
    Decides-at r _ c.kind_fits.ensures (fits_apart l c.args.s c.args.t ne) in
    record { relation = d; same = fits_same l c.args.s c.args.t r d; laws = fit_laws l }
