use Rattle.std.proofs.Common.{rules, sym, ◌∙◌, subst, refl}
use Rattle.std.proofs.lemmas.Iterator.{YieldsList-from_range, YieldsList-from_map}
use Rattle.std.proofs.lemmas.Iterator.Search.{find_from_yields_List}
use Rattle.std.proofs.lemmas.Iterator.Adapters.{option_map_id}
use Rattle.std.proofs.lemmas.Fn.{says_at}
use Rattle.probe_table.specs.Probing.{First}
use Rattle.probe_table.proofs.Probing.{step_of, first_found}
use Rattle.probe_table.proofs.ProbeTable.first.Goals as goal

pub returns : goal.returns
returns g c test tells =
    let link = c.args.link in
    let places = c.args.self.now.places in
    let found = find_from_yields_List (λ x. test x.1) _ _ c.find.result c.find.ensures.ran
    (YieldsList-from_map _ (step_of places link.relationship link.from link.to) (YieldsList-from_range 0 512 512 c.map.ensures.source refl) c.map.ensures.closure (λ k p q e. search rules))
    (λ x answer q e. (search (rules, e.called.met) depth 8, tells x.1 answer (search (rules, e.called.met, says_at) depth 8))) in
    subst (First test places link.relationship link.from link.to) (sym (sym (option_map_id c.find.result) ∙ found)) (first_found test places link.relationship link.from link.to)
