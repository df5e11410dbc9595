-- The smallest program is accepted.
use Rattle.std.proofs.Common.{◌≡◌, ℕ, List, [], ◌∷◌, ◌++◌, map, Some, None, Ok, Err, codes, Option, sym, refl, ap, ◌∙◌, subst, arith}
use Rattle.words.specs.Words.{Token, words, cut}
use Rattle.words.specs.Names.{name_at}
use Rattle.words.specs.Nesting.{open_after, too_deep, deepest}
use Rattle.words.specs.Surveys.{first_fault, surveyed, extent}
use Rattle.words.specs.declared.refusal.Unreadable.{Unreadable}
use Rattle.grammar.specs.declared.judge.TextRefusal.TheVariants.{Unreadable as Unread, Unexpected}
use Rattle.grammar.specs.Exact.{Begins, marked, next}
use Rattle.grammar.specs.Judged.{NoProgram}
use Rattle.grammar.specs.Trees.{Mark, Program, spell, none, more, name, boolean, chain, alone, method_of, class}
use Rattle.outline.specs.declared.outlining.Unlisted.TheVariants.{Text, Limit}
use Rattle.outline.specs.Layout.{add_class, add_relationship, add_declared, add_method, add_node, add_block, laid, contents_of}
use Rattle.outline.specs.Limits.{height, how_many, crowd, limit_passed}
use Rattle.declarations.specs.Faults.{misdeclared_of}
use Rattle.declarations.specs.Resolved.{declared_of}
use Rattle.declarations.specs.Rows.{row_among, row_called}
use Rattle.typing.specs.Lookup.{variable_named, variable_number, field_of, field_upward, method_of_row, method_upward}
use Rattle.typing.specs.Passing.{types_to, ruling_at, type_at, untyped}
use Rattle.tables.specs.Below.{any_below, first_below, count_below, least_below, tabulated}
use Rattle.values.specs.Fits.{row_fits_to, same_type, fits_to}
use Rattle.descent.specs.Descent.{climbs, descends_to}
use Rattle.descent.specs.Nearest.{climb, nearest_up}
use Rattle.program.specs.declared.refusal.Refusal.{Refusal}
use Rattle.program.specs.declared.refusal.Refusal.TheVariants.{Unlisted, ScratchTooSmall, Misdeclared, Untyped}
use Rattle.program.specs.Verdict.{verdict, Rejected, Compiled}

abbrev pub smallest : List ℕ
smallest = codes "class Main extends Object {boolean main(boolean b) {return b;}}"

abbrev at : ℕ → List ℕ → Mark
at p bs = record { place = p; bytes = bs }

abbrev tree : Program
tree =
    more
    (class (at 0 (codes "class")) (at 6 (codes "Main")) (at 11 (codes "extends")) (at 19 (codes "Object")) (at 26 (codes "{")) none
    (more
    (method_of (boolean (at 27 (codes "boolean"))) (at 35 (codes "main")) (at 39 (codes "(")) (boolean (at 40 (codes "boolean"))) (at 48 (codes "b")) (at 49 (codes ")"))
    (at 51 (codes "{")) none none (at 52 (codes "return")) (alone (chain (name (at 59 (codes "b"))) none)) (at 60 (codes ";")) (at 61 (codes "}")))
    none)
    (at 62 (codes "}")))
    none

spelled : words smallest ≡ spell tree
unfolding cut spell
spelled = refl

readable : surveyed smallest ≡ Ok (extent 17 2)
unfolding surveyed first_fault too_deep deepest open_after cut
readable = refl

good : verdict smallest 2 tree ≡ None
unfolding verdict limit_passed contents_of laid add_class add_relationship add_declared add_method add_node add_block height how_many crowd misdeclared_of declared_of row_among row_called variable_named variable_number field_of field_upward method_of_row method_upward types_to ruling_at type_at untyped any_below first_below count_below least_below tabulated row_fits_to same_type fits_to climbs descends_to climb nearest_up name_at
good = refl

-- words that are a program's begin as it does
begins : (b r : List Token) → Begins (map Some b ++ next r ∷ []) (marked (b ++ r))
begins [] [] = (refl, tt)
begins [] (w ∷ r) = (refl, tt)
begins (w ∷ b) r = (refl, begins b r)

no_program : (p : ℕ) → NoProgram smallest p → ⊥
no_program p h =
    let r = h.refused in
    let P : List Token → Type 0 = λ ws. Begins (map Some r.before ++ next r.rest ∷ []) (marked ws) in
    r.refused.none tree (subst P (sym r.split ∙ spelled) (begins r.before r.rest))

clash : {X : Type 0} {x : X} {y : Option X} → y ≡ None → y ≡ Some x → ⊥
clash {X} {x} {y} e f = let z : ◌≡◌ {A = ℕ} 0 1 = cc in omega arith

rejected : (e : Refusal) → Rejected smallest 2 e → ⊥
rejected e h =
    let same = h.program.parsed.only tree spelled in
    clash good (ap (verdict smallest 2) same ∙ h.verdict_is)

unread : (u : Unreadable) → surveyed smallest ≡ Err u → ⊥
unread u e = let r = readable in let z : ◌≡◌ {A = ℕ} 0 1 = cc in omega arith

-- no refusal is right
pub never_refused : (e : Refusal) → Compiled smallest 2 (Err e) → ⊥
never_refused (Unlisted (Text (Unread u))) h = unread u h
never_refused (Unlisted (Text (Unexpected w))) h = no_program w.place h
never_refused (Unlisted (Limit l)) h = rejected _ h
never_refused ScratchTooSmall h = rejected _ h
never_refused (Misdeclared m) h = rejected _ h
never_refused (Untyped p) h = rejected _ h
