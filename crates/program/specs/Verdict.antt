-- Which texts are accepted, and why the others are refused.
use Rattle.std.specs.Prelude.{◌≡◌, ℕ, cond, List, length, Some, None, Ok, Err, Option, Result, nat_lt}
use Rattle.grammar.specs.Trees.{Program}
use Rattle.outline.specs.declared.outlining.Unlisted.TheVariants.{Text, Limit}
use Rattle.outline.specs.Layout.{contents_of}
use Rattle.outline.specs.Limits.{limit_passed}
use Rattle.outline.specs.Outlined.{IsProgram, Outlined}
use Rattle.declarations.specs.Faults.{misdeclared_of}
use Rattle.declarations.specs.Resolved.{declared_of}
use Rattle.typing.specs.Passing.{first_untyped}
use Rattle.program.specs.declared.code.Code.{Code}
use Rattle.program.specs.declared.refusal.Refusal.{Refusal}
use Rattle.program.specs.declared.refusal.Refusal.TheVariants.{Unlisted, ScratchTooSmall, Misdeclared, Untyped}
use Rattle.program.specs.Model.{model, model_of}

-- refused so, where there is such a fault
abbrev pub refused : {X : Type 0} → Option X → (X → Refusal) → Option Refusal → Option Refusal
refused None f other = other
refused (Some x) f other = Some (f x)

-- The first of these that applies to a program, with a scratch of n entries: a limit passed; fewer entries than nodes; a
-- fault of a declaration; a node without a type.
unfoldable pub verdict : List ℕ → ℕ → Program → Option Refusal
verdict text n t =
    let k = contents_of t in
    let d = declared_of text k in
    refused (limit_passed t) (λ l. Unlisted (Limit l))
    (cond (nat_lt n (length k.nodes)) (Some ScratchTooSmall)
    (refused (misdeclared_of text k d) Misdeclared
    (refused (first_untyped text k d (length k.nodes)) Untyped None)))

-- a text is accepted with a scratch of n entries, and these are its tables
pub record Accepted (text : List ℕ) (n : ℕ) (c : Code) : Type 0 where
  pub tree : Program
  pub program : IsProgram text tree
  pub verdict_is : verdict text n tree ≡ None
  pub code : model c ≡ model_of text (contents_of tree)

-- a text is a program, and is refused so
pub record Rejected (text : List ℕ) (n : ℕ) (e : Refusal) : Type 0 where
  pub tree : Program
  pub program : IsProgram text tree
  pub verdict_is : verdict text n tree ≡ Some e

-- what is said of a text, with a scratch of n entries
abbrev pub Compiled : List ℕ → ℕ → Result Code Refusal → Type 0
Compiled text n (Ok c) = Accepted text n c
Compiled text n (Err (Unlisted (Text u))) = Outlined text (Err (Text u))
Compiled text n (Err (Unlisted (Limit l))) = Rejected text n (Unlisted (Limit l))
Compiled text n (Err ScratchTooSmall) = Rejected text n ScratchTooSmall
Compiled text n (Err (Misdeclared m)) = Rejected text n (Misdeclared m)
Compiled text n (Err (Untyped p)) = Rejected text n (Untyped p)

-- the tables of some accepted text
pub record Sound (c : Code) : Type 0 where
  pub text : List ℕ
  pub scratch : ℕ
  pub accepted : Accepted text scratch c
