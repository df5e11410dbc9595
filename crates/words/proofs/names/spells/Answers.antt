use Rattle.std.proofs.Common.{◌≡◌, ℕ, suc, ◌+◌, ◌<◌, Bool, true, false, cond, ◌&&◌, List, [], ◌∷◌, length, get_or, take, drop, sym, refl, ap, ◌∙◌, arith, drop-cons, rules}
use Rattle.std.specs.List.{prefix_len}
use Rattle.std.specs.Str.{bytes_eq}
use Rattle.std.proofs.lemmas.Bool.{ne_eqb}
use Rattle.words.specs.Bytes.{name_byte}
use Rattle.words.specs.Names.{name_at, is_name}
use Rattle.words.proofs.names.spells.Goals as goal

-- a run of bytes that begins with x, if it begins with any, is not one that begins with b
apart : (run : Bool) (n x b : ℕ) (r bs : List ℕ) → (x ≡ b → ⊥) → false ≡ bytes_eq (take (cond run (1 + n) 0) (x ∷ r)) (b ∷ bs)
apart false n x b r bs ne = refl
apart true n x b r bs ne =
    let one : 1 + n ≡ suc n = omega arith in
    sym (ap (λ m. bytes_eq (take m (x ∷ r)) (b ∷ bs)) one ∙ ap (λ t. t && bytes_eq (take n r) bs) (ne_eqb x b ne))

begins_apart : (text bytes : List ℕ) (p : ℕ) → p < length text → 0 < length bytes → (get_or text p 0 ≡ get_or bytes 0 0 → ⊥) → false ≡ is_name text p bytes
unfolding name_at
begins_apart text [] p h k ne = absurd (omega arith)
begins_apart text (b ∷ bs) p h k ne =
    rw (drop-cons text p 0 h) (apart (name_byte (get_or text p 0)) (prefix_len name_byte (drop (suc p) text)) (get_or text p 0) b (drop (suc p) text) bs ne)

pub returns-in-Some-Some : goal.returns-in-Some-Some
returns-in-Some-Some c =
    let there : c.args.place < length c.args.text.now = search rules in
    let some : 0 < length c.args.bytes.now = search rules in
    let differs : get_or c.args.text.now c.args.place 0 ≡ get_or c.args.bytes.now 0 0 → ⊥ = search rules in
    begins_apart _ _ _ there some differs
