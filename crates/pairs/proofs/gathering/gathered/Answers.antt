use Rattle.std.proofs.Common.{◌≡◌, ◌∙◌, ◌||◌, ◌&&◌, eqb, ltb, refl, sym, ap, subst, rules, ℕ}
use Rattle.std.specs.List.{fold, filter_map}
use Rattle.cells.specs.Members.{has, Words}
use Rattle.std.proofs.lemmas.Fn.{serves_by}
use Rattle.std.proofs.lemmas.Iterator.{YieldsList-from_slice}
use Rattle.std.proofs.lemmas.Iterator.Consumers.{YieldsList-from_filter_map, fold_from_yields_List}
use Rattle.pairs.specs.Gathering.{Gathered}
use Rattle.pairs.proofs.Told.{put_in, is_put_in, gathered_folded}
use Rattle.pairs.proofs.gathering.gathered.Goals as goal

pub fold-requires-clause-can : goal.fold-requires-clause-can
fold-requires-clause-can g c = (
  tt,
  tt,
  serves_by _ (λ xs q. q ≡ c.args.cell)
      (λ xs q x v same e. g.met.F.Fn.1.step_stays q (x, tt) e.0 v e.1 ∙ same) _ _ _ _ c.filter_map.ensures.closure
      (λ xs t q x u y e same. subst (λ f. g.F.Fn.pre f (x, tt)) (sym same) (c.requires.at (x, tt))),
)

pub returns : goal.returns
returns g c told tells =
    let yields = YieldsList-from_filter_map _ told (YieldsList-from_slice c.args.items.now cc) c.filter_map.ensures.closure (λ x r q k. (g.met.F.Fn.1.step_stays c.args.cell (x, tt) r q k, tells x.now r (record { shown = x; shows = refl; says = record { met = (g.met.F.FnMut.1.post_iff c.args.cell (x, tt) r).1 (q, k) } }))) in
    let folded = fold_from_yields_List _ put_in c.empty.result c.fold.result c.fold.ensures.ran yields (λ a x b q k.
    let members : (d : ℕ) → has b d ≡ (has a d || (eqb x d && ltb d 128)) = search rules in
    let words : Words b = search rules in
    (refl, is_put_in a b x members words)) in
    subst (Gathered (filter_map told c.args.items.now)) (sym (folded ∙ ap (λ s. fold put_in s (filter_map told c.args.items.now)) c.empty.ensures.value)) (gathered_folded _)
