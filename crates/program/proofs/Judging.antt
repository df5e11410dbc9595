-- The verdict on a program, from what each part of a check found.
use Rattle.std.proofs.Common.{◌≡◌, ℕ, ◌<◌, ◌≤◌, min, Bool, true, false, cond, ltb, List, length, IsErrAnd, Some, None, Err, Option, Result, sym, refl, ap, ◌∙◌, arith, le-ltb, lt-ltb}
use Rattle.std.proofs.lemmas.Result.{err_from_is_err_and}
use Rattle.grammar.specs.Trees.{Program}
use Rattle.outline.specs.declared.contents.Outline.{Outline}
use Rattle.outline.specs.declared.limit.Limit.{Limit}
use Rattle.outline.specs.declared.outlining.Unlisted.TheVariants as unlisted
use Rattle.outline.specs.Contents.{contents}
use Rattle.outline.specs.Layout.{contents_of}
use Rattle.outline.specs.Limits.{limit_passed}
use Rattle.outline.specs.Outlined.{Listed, TooLarge}
use Rattle.declarations.specs.declared.refusal.Misdeclared.{Misdeclared}
use Rattle.declarations.specs.Faults.{misdeclared_of}
use Rattle.declarations.specs.Resolved.{Declared, declared_of}
use Rattle.typing.specs.Passing.{first_untyped}
use Rattle.program.specs.declared.code.Code.{Code}
use Rattle.program.specs.declared.refusal.Refusal.{Refusal}
use Rattle.program.specs.declared.refusal.Refusal.TheVariants as refusal
use Rattle.program.specs.Model.{model, model_of}
use Rattle.program.specs.Verdict.{refused, verdict, Accepted, Rejected}

-- what `?` answers with
pub failed : {A : Type 0} {e : Refusal} (r : Result A Refusal) → IsErrAnd r (λ y. y ≡ e) → r ≡ Err e
failed r h = let z = err_from_is_err_and r h in z.1 ∙ ap Err z.2

abbrev whole : Option Limit → Bool → Option Misdeclared → Option ℕ → Option Refusal
whole a b m u =
    refused a (λ l. refusal.Unlisted (unlisted.Limit l))
    (cond b (Some refusal.ScratchTooSmall) (refused m refusal.Misdeclared (refused u refusal.Untyped None)))

verdict_whole : (text : List ℕ) (n : ℕ) (t : Program) {a : Option Limit} {b : Bool} {m : Option Misdeclared} {u : Option ℕ}
    → limit_passed t ≡ a → ltb n (length (contents_of t).nodes) ≡ b → misdeclared_of text (contents_of t) (declared_of text (contents_of t)) ≡ m
    → first_untyped text (contents_of t) (declared_of text (contents_of t)) (length (contents_of t).nodes) ≡ u → verdict text n t ≡ whole a b m u
unfolding verdict
verdict_whole text n t {a} {b} {m} {u} p q r s =
    let k = contents_of t in
    let d = declared_of text k in
    ap (λ x. whole x (ltb n (length k.nodes)) (misdeclared_of text k d) (first_untyped text k d (length k.nodes))) p
    ∙ ap (λ x. whole a x (misdeclared_of text k d) (first_untyped text k d (length k.nodes))) q
    ∙ ap (λ x. whole a b x (first_untyped text k d (length k.nodes))) r
    ∙ ap (λ x. whole a b m x) s

-- a limit is passed
pub too_large : {text : List ℕ} {l : Limit} (n : ℕ) → TooLarge text l → Rejected text n (refusal.Unlisted (unlisted.Limit l))
too_large {text} n h = record { tree = h.tree; program = h.program; verdict_is = verdict_whole text n h.tree h.limit refl refl refl }

-- What is found in a text's tables o, with what they declare, is found in its tree's.
module _ {text : List ℕ} {o : Outline} (n : ℕ) (h : Listed text o) where
  few_nodes : (b : Bool) → ltb n (length (contents o).nodes) ≡ b → ltb n (length (contents_of h.tree).nodes) ≡ b
  few_nodes b e = ap (λ y. ltb n (length y.nodes)) (sym h.tables) ∙ e

  pub scratch_small : n < length (contents o).nodes → Rejected text n refusal.ScratchTooSmall
  scratch_small few =
      record { tree = h.tree; program = h.program; verdict_is = verdict_whole text n h.tree h.limit (few_nodes true (lt-ltb n _ few)) refl refl }

  moved_faults : (d : Declared) → d ≡ declared_of text (contents o) → (m : Option Misdeclared) → m ≡ misdeclared_of text (contents o) d
      → misdeclared_of text (contents_of h.tree) (declared_of text (contents_of h.tree)) ≡ m
  moved_faults d e m f =
      ap (λ y. misdeclared_of text y (declared_of text y)) (sym h.tables) ∙ ap (misdeclared_of text (contents o)) (sym e) ∙ sym f

  moved_types : (d : Declared) → d ≡ declared_of text (contents o) → (u : Option ℕ) → u ≡ first_untyped text (contents o) d (min (length (contents o).nodes) n)
      → length (contents o).nodes ≤ n
      → first_untyped text (contents_of h.tree) (declared_of text (contents_of h.tree)) (length (contents_of h.tree).nodes) ≡ u
  moved_types d e u f few =
      let m : min (length (contents o).nodes) n ≡ length (contents o).nodes = omega arith in
      ap (λ y. first_untyped text y (declared_of text y) (length y.nodes)) (sym h.tables)
      ∙ ap (λ y. first_untyped text (contents o) y (length (contents o).nodes)) (sym e)
      ∙ ap (λ y. first_untyped text (contents o) d y) (sym m) ∙ sym f

  pub faulty : (d : Declared) (m : Misdeclared) → length (contents o).nodes ≤ n → d ≡ declared_of text (contents o) → Some m ≡ misdeclared_of text (contents o) d
      → Rejected text n (refusal.Misdeclared m)
  faulty d m few e f =
      record {
        tree = h.tree;
        program = h.program;
        verdict_is = verdict_whole text n h.tree h.limit (few_nodes false (le-ltb n _ few)) (moved_faults d e (Some m) f) refl;
      }

  pub mistyped : (d : Declared) (p : ℕ) → length (contents o).nodes ≤ n → d ≡ declared_of text (contents o) → None ≡ misdeclared_of text (contents o) d
      → Some p ≡ first_untyped text (contents o) d (min (length (contents o).nodes) n) → Rejected text n (refusal.Untyped p)
  mistyped d p few e f g =
      record {
        tree = h.tree;
        program = h.program;
        verdict_is = verdict_whole text n h.tree h.limit (few_nodes false (le-ltb n _ few)) (moved_faults d e None f) (moved_types d e (Some p) g few);
      }

  pub accepted : (d : Declared) (c : Code) → length (contents o).nodes ≤ n → d ≡ declared_of text (contents o) → None ≡ misdeclared_of text (contents o) d
      → None ≡ first_untyped text (contents o) d (min (length (contents o).nodes) n) → model c ≡ model_of text (contents o) → Accepted text n c
  accepted d c few e f g m =
      record {
        tree = h.tree;
        program = h.program;
        verdict_is = verdict_whole text n h.tree h.limit (few_nodes false (le-ltb n _ few)) (moved_faults d e None f) (moved_types d e None g few);
        code = m ∙ ap (model_of text) h.tables;
      }
