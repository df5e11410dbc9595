use Rattle.std.proofs.Common.{◌≡◌, slice_get, refl, sym, ◌∙◌, rules}
use Rattle.std.specs.Vec.Iter.{into_iter_items}
use Rattle.std.proofs.lemmas.Iterator.Adapters.{YieldsList-from_vec, option_map_id}
use Rattle.std.proofs.lemmas.Iterator.Consumers.{nth_from_yields_List}
use Rattle.program_tools.proofs.arguments.first_is.Goals as goal

pub returns : goal.returns
returns c =
    let first : c.nth.result ≡ slice_get (into_iter_items c.args.arguments) 1 = sym (option_map_id _) ∙ nth_from_yields_List c.nth.result c.nth.new.self 1 c.nth.ensures.ran (YieldsList-from_vec {s = c.args.arguments} _ refl c.args.arguments.rest.ok.0) in
    rw (← first) (search rules)
