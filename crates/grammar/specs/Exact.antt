-- What a text's parse answers, in the grammar's own words.
use Rattle.std.specs.Prelude.{◌≡◌, ℕ, List, [], ◌∷◌, ◌++◌, map, Some, None, Ok, Err, Option, Result}
use Rattle.words.specs.Words.{Token}
use Rattle.grammar.specs.declared.event.Event.{Event}
use Rattle.grammar.specs.declared.parser.reading.Unexpected.{Unexpected}
use Rattle.grammar.specs.Events.{events, fed}
use Rattle.grammar.specs.Trees.{Program, spell}

-- the second list begins with the first
abbrev pub Begins : {X : Type 0} → List X → List X → Type 0
Begins [] ys = Unit {0}
Begins (x ∷ xs) [] = ⊥
Begins (x ∷ xs) (y ∷ ys) = (x ≡ y) × Begins xs ys

-- the words and then the end, which counts as a word
abbrev pub marked : List Token → List (Option Token)
marked [] = None ∷ []
marked (w ∷ ws) = Some w ∷ marked ws

-- the first of these words, or the end
abbrev pub next : List Token → Option Token
next [] = None
next (w ∷ ws) = Some w

-- after the words `before`, the first of the words `rest`, or the end, cannot come: some program begins with the words
-- before it, and none with the words up to it
pub record Refused (before rest : List Token) : Type 0 where
  pub some : (t : Program) × Begins (map Some before) (marked (spell t))
  pub none : (t : Program) → Begins (map Some before ++ next rest ∷ []) (marked (spell t)) → ⊥

-- these words are a program's, and no other's
pub record Parsed (ws : List Token) (t : Program) : Type 0 where
  pub words : ws ≡ spell t
  pub only : (u : Program) → ws ≡ spell u → u ≡ t

-- the place of the first of these words; at the end, `last`
abbrev pub place_of : ℕ → List Token → ℕ
place_of last [] = last
place_of last (w ∷ ws) = w.place

-- a text with these words is a program, and its one tree's events take the sink from l to m
pub record Accepted {X : Type 0} (after : X → Event → X) (ws : List Token) (l m : X) : Type 0 where
  pub tree : Program
  pub parsed : Parsed ws tree
  pub log : m ≡ fed after l (events 0 tree)

-- a text with these words is no program, and p is the place of the first word that cannot come
pub record RefusedAt (ws : List Token) (last p : ℕ) : Type 0 where
  pub before : List Token
  pub rest : List Token
  pub split : ws ≡ before ++ rest
  pub refused : Refused before rest
  pub place : p ≡ place_of last rest

-- what a parse of a text answers, the text's end standing at the place `last`
abbrev pub Parses : {X : Type 0} → (X → Event → X) → List Token → ℕ → X → Result (Unit {0}) Unexpected → X → Type 0
Parses after ws last l (Ok _) m = Accepted after ws l m
Parses after ws last l (Err e) m = RefusedAt ws last e.place
