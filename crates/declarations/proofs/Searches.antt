-- Chains over a table's items, as the searches that definitions speak of.
use Rattle.std.proofs.Common.{◌≡◌, ℕ, zero, suc, Bool, true, false, cond, ◌||◌, ltb, List, length, Some, None, Option, refl, ap, ◌∙◌, ltb-false, MatchOption}
use Rattle.std.specs.Prelude.{position, nat_eq}
use Rattle.std.specs.List.{find, slice_get, position_or_len}
use Rattle.std.specs.Option.{is_some}
use Rattle.std.proofs.lemmas.List.Folds.{find_at}
use Rattle.std.proofs.lemmas.Option.{slice_get_past}
use Rattle.values.specs.declared.types.Ty.{Ty}
use Rattle.values.specs.Types.{boolean}
use Rattle.outline.specs.declared.entry.Variable.{Variable}
use Rattle.outline.specs.Contents.{Contents}
use Rattle.tables.specs.Below.{any_below, first_below, or_else}
use Rattle.tables.specs.Items.{given, holds}
use Rattle.tables.proofs.Chains.{position_all}
use Rattle.declarations.specs.Resolved.{type_or, parameter_type}

module _ {X Y : Type 0} (p : X → Bool) (xs : List X) (y : Y) (f : X → Y) where
  past : (n : ℕ) (b : Bool) → ltb n (length xs) ≡ b → given (slice_get xs n) y f ≡ given (cond b (Some n) None) y (λ i. given (slice_get xs i) y f)
  past n true e = refl
  past n false e = ap (λ o. given o y f) (slice_get_past xs n (ltb-false n (length xs) e))

  -- what is made of `xs.iter().find(p)`
  pub find_all : given (find p xs) y f ≡ given (first_below (λ i. holds (slice_get xs i) p) (length xs)) y (λ i. given (slice_get xs i) y f)
  find_all =
      ap (λ o. given o y f) (find_at p xs)
      ∙ past (position_or_len p xs) _ refl
      ∙ ap (λ o. given o y (λ i. given (slice_get xs i) y f)) (position_all p xs)

made : {X Y : Type 0} {P : X → Type 0} (f : X → Y) (d y : Y) (a : Option X) (r : Y) → d ≡ y → ((x : X) → P x → r ≡ f x) → MatchOption a (r ≡ d) P → r ≡ given a y f
made f d y None r e h m = m ∙ e
made f d y (Some x) r e h m = h x m

-- the type of a method's parameter, found as the method's first variable
pub found_type : {P : Variable → Type 0} (text : List ℕ) (k : Contents) (i : ℕ) (a : Option Variable) (d t : Ty)
    → ((v : Variable) → P v → t ≡ type_or text k v.typed) → a ≡ find (λ v. nat_eq v.method i) k.variables → d ≡ boolean → MatchOption a (t ≡ d) P → t ≡ parameter_type text k i
found_type text k i a d t h e b m =
    made (λ v. type_or text k v.typed) d boolean a t b h m
    ∙ ap (λ o. given o boolean (λ v. type_or text k v.typed)) e
    ∙ find_all (λ v. nat_eq v.method i) k.variables boolean (λ v. type_or text k v.typed)

first_step : (o : Option ℕ) (b : Bool) (n : ℕ) → is_some (or_else o (cond b (Some n) None)) ≡ is_some o || b
first_step (Some i) b n = refl
first_step None true n = refl
first_step None false n = refl

first_any : (f : ℕ → Bool) (n : ℕ) → is_some (first_below f n) ≡ any_below f n
unfolding first_below any_below
first_any f zero = refl
first_any f (suc n) = first_step (first_below f n) (f n) n ∙ ap (λ b. b || f n) (first_any f n)

-- `xs.iter().position(p).is_some()`
pub found_any : {X : Type 0} (p : X → Bool) (xs : List X) → is_some (position p xs) ≡ any_below (λ i. holds (slice_get xs i) p) (length xs)
found_any p xs = ap is_some (position_all p xs) ∙ first_any _ (length xs)
