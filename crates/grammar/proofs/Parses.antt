-- A parse, by the answer of the whole program.
use Rattle.std.proofs.Common.{◌≡◌, ℕ, List, [], ◌∷◌, Ok, Err, Result, sym, refl, ap, ◌∙◌}
use Rattle.words.specs.Words.{Token}
use Rattle.grammar.specs.declared.event.Event.{Event}
use Rattle.grammar.specs.declared.parser.Parser.{Parser}
use Rattle.grammar.specs.declared.parser.reading.Unexpected.{Unexpected}
use Rattle.grammar.specs.Bodies.{GivesProgram}
use Rattle.grammar.specs.Exact.{Parses, place_of}
use Rattle.grammar.specs.Machine.{runs, decls}
use Rattle.grammar.specs.Told.{rest, place_at}
use Rattle.grammar.proofs.Exact.{exact}
use Rattle.grammar.proofs.Unique.{parsed}

same_place : (n : ℕ) (ws : List Token) → place_at n ws ≡ place_of n ws
same_place n [] = refl
same_place n (w ∷ ws) = refl

module _ {X : Type 0} (after : X → Event → X) where
  pub parses : (r : Result (Unit {0}) Unexpected) (p : Parser) (ws : List Token) (last : ℕ) (l m : X) → rest p ≡ ws → p.end ≡ last → GivesProgram after p l r m → Parses after ws last l r m
  parses (Ok _) p ws last l m e f t = record { tree = t.tree; parsed = parsed ws t.tree (sym e ∙ t.words); log = t.log }
  parses (Err x) p ws last l m e f t =
      let s = exact ws t.from (ap (runs (decls ∷ [])) (sym e) ∙ t.stuck) in
      record {
        before = s.0;
        rest = t.from;
        split = s.1;
        refused = s.2;
        place = t.place_is ∙ same_place p.end t.from ∙ ap (λ n. place_of n t.from) f;
      }
