-- A table whose list is known newest first.
use Rattle.std.proofs.Common.{◌≡◌, ℕ, ◌-◌, ◌<◌, List, [], ◌∷◌, ◌++◌, reverse, length, take, Some, None, sym, ap, ◌∙◌, arith}
use mathlib.Core.List.{reverse-cons}
use Rattle.std.proofs.lemmas.List.{length-reverse}
use Rattle.tables.specs.declared.table.Table.{Table}
use Rattle.tables.specs.Listed.{listed, pushed, shortened, newest}
use Rattle.tables.proofs.Laws.{listed_room, listed_shortened, newest_push, shorten_push}

-- the table lists xs, newest first
pub record Shows {T : Type 0} {N : ℕ} (t : Table T N) (xs : List T) : Type 0 where
  pub is : listed t ≡ reverse xs

module _ {T : Type 0} {N : ℕ} where
  pub show_length : {t : Table T N} {xs : List T} → Shows t xs → length (listed t) ≡ length xs
  show_length {xs = xs} h = ap length h.is ∙ length-reverse xs

  pub show_push : {t : Table T N} {xs : List T} {x y : T} → x ≡ y → Shows t xs → length xs < N → Shows (pushed t x) (y ∷ xs)
  show_push {t} {xs} {x} {y} e h room =
      let n = show_length h in
      record {
        is = listed_room t x (omega arith) ∙ ap (λ ys. ys ++ x ∷ []) h.is ∙ ap (λ z. reverse xs ++ z ∷ []) e ∙ sym (reverse-cons y xs);
      }

  pub show_drop : {t : Table T N} {x : T} {xs : List T} → Shows t (x ∷ xs) → Shows (shortened t) xs
  show_drop {t} {x} {xs} h =
      record {
        is = listed_shortened t ∙ ap (λ ys. take (length ys - 1) ys) (h.is ∙ reverse-cons x xs) ∙ shorten_push (reverse xs) x;
      }

  pub show_drop_none : {t : Table T N} → Shows t [] → Shows (shortened t) []
  show_drop_none {t} h = record { is = listed_shortened t ∙ ap (λ ys. take (length ys - 1) ys) h.is }

  pub show_newest : {t : Table T N} {x : T} {xs : List T} → Shows t (x ∷ xs) → newest (listed t) ≡ Some x
  show_newest {t} {x} {xs} h = ap newest (h.is ∙ reverse-cons x xs) ∙ newest_push (reverse xs) x

  pub show_none : {t : Table T N} → Shows t [] → newest (listed t) ≡ None
  show_none {t} h = ap newest h.is
