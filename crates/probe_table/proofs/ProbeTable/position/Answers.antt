use Rattle.std.proofs.Common.{◌≡◌, Some, None, sym, ap, ◌∙◌, inl, inr, arith, rules}
use Rattle.probe_table.specs.Probing.{row_in, ends, is_free, place_at}
use Rattle.probe_table.proofs.Probing.{not_met, first_below, ends_past, ends_free, ends_held}
use Rattle.probe_table.proofs.ProbeTable.position.Goals as goal

pub returns-in_err-place : goal.returns-in_err-place
returns-in_err-place c =
    let self = c.args.self.now in
    let link = c.args.link in
    let none = c.in_err-place.ensures (ends link.relationship link.from link.to) (λ place answer e. search rules) in
    let absent = not_met self.places self.whole self.reached link.relationship link.from link.to 512 (λ i l. ends_past link.relationship link.from link.to _ (none i l)) (inr (omega arith)) in
    search (rules, absent)

pub returns-in_err-row : goal.returns-in_err-row
returns-in_err-row c =
    let self = c.args.self.now in
    let link = c.args.link in
    let at = c.in_ok-place.ensures (ends link.relationship link.from link.to) (λ place answer e. search rules) in
    let none : row_in c.in_ok-place.here ≡ None = search rules in
    let free = ends_free link.relationship link.from link.to _ at.0.passes (ap row_in (sym at.1) ∙ none) in
    let absent = not_met self.places self.whole self.reached link.relationship link.from link.to at.0.steps (λ i l. ends_past link.relationship link.from link.to _ (at.0.before i l))
    (inl (ap (λ p. is_free (place_at self.places p)) (sym at.0.here) ∙ free)) in
    search (rules, absent)

pub returns : goal.returns
returns c =
    let self = c.args.self.now in
    let link = c.args.link in
    let at = c.in_ok-place.ensures (ends link.relationship link.from link.to) (λ place answer e. search rules) in
    let held : row_in c.in_ok-place.here ≡ Some c.in_ok-row.row = search rules in
    (first_below at.0, ends_held link.relationship link.from link.to (place_at self.places c.in_ok-place.place) c.in_ok-row.row at.0.passes (ap row_in (sym at.1) ∙ held))
