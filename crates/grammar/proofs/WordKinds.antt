-- Kinds of words are told apart by their numbers.
use Rattle.std.proofs.Common.{◌≡◌, ℕ, true, false, List, [], ◌∷◌, get_or, sym, refl, ap, ◌∙◌}
use Rattle.std.proofs.lemmas.Bool.{eq-eqb, ne_eqb, eqb-true}
use Rattle.words.specs.declared.kind.Kind.{Kind}
use Rattle.words.specs.declared.kind.Kind.TheVariants as kind
use Rattle.words.specs.Kinds.{code, is}

-- the kinds in the order of their numbers
abbrev kinds : List Kind
kinds =
    kind.Name ∷ kind.Class ∷ kind.Extends ∷ kind.Relationship ∷ kind.Boolean ∷ kind.Set
    ∷ kind.Return ∷ kind.If ∷ kind.Else ∷ kind.True ∷ kind.False ∷ kind.Null
    ∷ kind.This ∷ kind.New ∷ kind.Add ∷ kind.Rem ∷ kind.From ∷ kind.To
    ∷ kind.OpenBrace ∷ kind.CloseBrace ∷ kind.OpenParen ∷ kind.CloseParen ∷ kind.Comma ∷ kind.Semicolon
    ∷ kind.Less ∷ kind.Greater ∷ kind.Dot ∷ kind.Colon ∷ kind.Assign ∷ kind.Equal
    ∷ kind.Fault ∷ []

abbrev decode : ℕ → Kind
decode n = get_or kinds n kind.Fault

decode_code : (k : Kind) → decode (code k) ≡ k
decode_code kind.Name = refl
decode_code kind.Class = refl
decode_code kind.Extends = refl
decode_code kind.Relationship = refl
decode_code kind.Boolean = refl
decode_code kind.Set = refl
decode_code kind.Return = refl
decode_code kind.If = refl
decode_code kind.Else = refl
decode_code kind.True = refl
decode_code kind.False = refl
decode_code kind.Null = refl
decode_code kind.This = refl
decode_code kind.New = refl
decode_code kind.Add = refl
decode_code kind.Rem = refl
decode_code kind.From = refl
decode_code kind.To = refl
decode_code kind.OpenBrace = refl
decode_code kind.CloseBrace = refl
decode_code kind.OpenParen = refl
decode_code kind.CloseParen = refl
decode_code kind.Comma = refl
decode_code kind.Semicolon = refl
decode_code kind.Less = refl
decode_code kind.Greater = refl
decode_code kind.Dot = refl
decode_code kind.Colon = refl
decode_code kind.Assign = refl
decode_code kind.Equal = refl
decode_code kind.Fault = refl

pub is_same : (j k : Kind) → j ≡ k → is j k ≡ true
is_same j k e = eq-eqb _ _ (ap code e)

pub is_other : (j k : Kind) → (j ≡ k → ⊥) → is j k ≡ false
is_other j k ne = ne_eqb _ _ (λ e. ne (sym (decode_code j) ∙ ap decode e ∙ decode_code k))

pub is_true : (j k : Kind) → is j k ≡ true → k ≡ j
is_true j k e = sym (decode_code k) ∙ ap decode (sym (eqb-true _ _ e)) ∙ decode_code j
