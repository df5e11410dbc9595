-- One word is passed, or cannot come.
use Rattle.std.proofs.Common.{◌≡◌, ℕ, ◌≤◌, true, false, List, [], ◌∷◌, length, Some, None, Option, sym, refl, ap, ◌∙◌, arith, rules}
use Rattle.std.proofs.lemmas.Option.{none-some}
use Rattle.std.proofs.lemmas.Bool.{false≢true}
use Rattle.std.proofs.lemmas.Bool.Decides.{same_from_decides}
use Rattle.std.specs.Option.{option_eq}
use denote.Enum.Bare.{sameb, same_true, true_same}
use Rattle.words.specs.contracts.kind.Kind.{the_type}
use Rattle.words.specs.declared.kind.Kind.{Kind}
use Rattle.words.specs.declared.cursor.Cursor.{Cursor}
use Rattle.words.specs.declared.cursor.Word.{Word}
use Rattle.words.specs.Kinds.{is}
use Rattle.words.specs.Words.{Token, unread, Reads}
use Rattle.grammar.specs.declared.parser.Parser.{Parser}
use Rattle.grammar.specs.declared.parser.reading.Unexpected.{Unexpected}
use Rattle.grammar.specs.Machine.{Sym, word, runs, step, ends}
use Rattle.grammar.specs.Told.{rest, kind_at, seen, place_at, Passed, Took, Fails}
use Rattle.grammar.specs.Trees.{Mark, tok}
use Rattle.grammar.proofs.WordKinds.{is_same, is_other, is_true}

-- what is left is no more than before
pub fewer : (c d : Cursor) (r : Option Word) (n : ℕ) → Reads c r d → length (unread c) ≤ n → length (unread d) ≤ n
fewer c d None n e h = omega (arith, ap length e.1)
fewer c d (Some w) n e h = omega (arith, ap length e)

-- a word that is expected
pub word_passes : (k : Kind) (m : Mark) (α : List Sym) (ws : List Token) → runs (word k ∷ α) (tok k m ∷ ws) ≡ runs α ws
unfolding runs step
word_passes k m α ws = let h : is k k ≡ true = is_same k k refl in simp h

-- another word, or the end, where a word is expected
pub word_stops : (k : Kind) (α : List Sym) (ws : List Token) → (kind_at ws ≡ Some k → ⊥) → runs (word k ∷ α) ws ≡ Some ws
unfolding runs step ends
word_stops k α [] ne = refl
word_stops k α (w ∷ ws) ne = let h : is k w.kind ≡ false = is_other k w.kind (λ e. ne (ap Some (sym e))) in simp h

-- the first word, by its kind
pub first_word : (k : Kind) (ws : List Token) → kind_at ws ≡ Some k → (m : Mark) × (us : List Token) × (ws ≡ tok k m ∷ us)
first_word k [] e = absurd (none-some k e)
first_word k (w ∷ ws) e = let f : w.kind ≡ k = cc in (record { place = w.place; bytes = w.bytes }, ws, λ i. record { kind = f i; place = w.place; bytes = w.bytes } ∷ ws)

pub seen_first : (k : Kind) (ws : List Token) → seen k ws ≡ true → kind_at ws ≡ Some k
seen_first k [] e = absurd (false≢true e)
seen_first k (w ∷ ws) e = ap Some (is_true k w.kind e)

first_seen : (k : Kind) (ws : List Token) → kind_at ws ≡ Some k → seen k ws ≡ true
first_seen k [] e = absurd (none-some k e)
first_seen k (w ∷ ws) e = let g : k ≡ w.kind = cc in is_same k w.kind g

pub unseen_first : (k : Kind) (ws : List Token) → seen k ws ≡ false → kind_at ws ≡ Some k → ⊥
unseen_first k ws e f = absurd (false≢true (sym e ∙ first_seen k ws f))

pub seen_is : (k : Kind) (ws : List Token) → option_eq (sameb the_type) (kind_at ws) (Some k) ≡ seen k ws
seen_is k [] = refl
seen_is k (w ∷ ws) =
    same_from_decides (sameb the_type w.kind k) (is k w.kind)
    (same_true the_type (search rules) w.kind k, true_same the_type w.kind k) (is_true k w.kind, λ e. is_same k w.kind (sym e))

-- the next word is of kind k, and is passed
pub took : (k : Kind) (p q : Parser) → kind_at (rest p) ≡ Some k → Passed p q → Took k p q (place_at p.end (rest p))
took k p q e h =
    let f = first_word k (rest p) e in
    record {
      mark = f.0;
      words = f.2 ∙ ap (λ ws. tok k f.0 ∷ ws) (sym (h.rest_is _ _ f.2));
      place_is = ap (place_at p.end) f.2;
      end_is = h.end_is;
    }

pub fails : (k : Kind) (p : Parser) (e : Unexpected) → (kind_at (rest p) ≡ Some k → ⊥) → e.place ≡ place_at p.end (rest p) → Fails p (word k) e
fails k p e ne h = record { from = rest p; stuck = λ α. word_stops k α (rest p) ne; place_is = h }
