-- The machine stops exactly at the first word that cannot come, and nowhere in a program.
use Rattle.std.proofs.Common.{◌≡◌, List, [], ◌∷◌, ◌++◌, map, Some, None, subst}
use Rattle.words.specs.Words.{Token}
use Rattle.grammar.specs.Trees.{Program, spell}
use Rattle.grammar.specs.Machine.{decls, runs}
use Rattle.grammar.specs.Exact.{Begins, marked, Refused}
use Rattle.grammar.proofs.Accepting.{accepted_from, passes, stuck_from, none_such}
use Rattle.grammar.proofs.Complete.{complete_program}
use Rattle.grammar.proofs.Finishing.{last, some_such}
use Rattle.grammar.proofs.Sound.{sound_program}

pub exact : (ws rest : List Token) → runs (decls ∷ []) ws ≡ Some rest → (before : List Token) × (ws ≡ before ++ rest) × Refused before rest
exact ws rest e =
    let (before, words, s) = stuck_from ws rest (decls ∷ []) e in
    let (vs, a, b) = some_such before rest (decls ∷ []) (last, tt) s in
    let (t, d) = sound_program vs a in (
      before,
      words,
      record {
        some = (t, subst (λ us. Begins (map Some before) (marked us)) d b);
        none = λ u. none_such before rest (spell u) (decls ∷ []) s (complete_program u);
      },
    )

-- it lets pass exactly the words of programs
pub whole_program : (ws : List Token) → runs (decls ∷ []) ws ≡ None → (t : Program) × (ws ≡ spell t)
whole_program ws e = sound_program ws (accepted_from ws (decls ∷ []) e)

pub program_passes : (t : Program) → runs (decls ∷ []) (spell t) ≡ None
program_passes t = passes (spell t) (decls ∷ []) (complete_program t)
