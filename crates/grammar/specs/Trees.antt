-- The trees of the language, and the words that each spells.
use Rattle.std.specs.Prelude.{ℕ, List, [], ◌∷◌, ◌++◌}
use Rattle.words.specs.declared.kind.Kind.{Kind}
use Rattle.words.specs.declared.kind.Kind.TheVariants as kind
use Rattle.words.specs.Words.{Token}

-- a word of a known kind: its place and its bytes
pub record Mark : Type 0 where
  pub place : ℕ
  pub bytes : List ℕ

abbrev pub tok : Kind → Mark → Token
tok k m = record { kind = k; place = m.place; bytes = m.bytes }

pub data Literal : Type 0 where
  true false null this : Literal

-- what is done to a pair of objects
pub data Pairing : Type 0 where
  add rem : Pairing

-- the two ends of a relationship instance
pub data End : Type 0 where
  from to : End

pub data Sort : Type 0 where
  expr item atom creation suffix place action stmt typed variable method decl : Sort
  many : Sort → Sort

pub data Tree : Sort → Type 0 where
  -- any number of one sort
  none : {s : Sort} → Tree (many s)
  more : {s : Sort} → Tree s → Tree (many s) → Tree (many s)
  -- W
  name : Mark → Tree atom
  -- true | false | null | this
  literal : Literal → Mark → Tree atom
  -- ( expr )
  paren : Mark → Tree expr → Mark → Tree atom
  -- a new object, or a pair related or unrelated
  made : Tree creation → Tree atom
  -- new W ( )
  new : (w n o c : Mark) → Tree creation
  -- W . add ( expr , expr ), W . rem ( expr , expr )
  pair : Pairing → (n d w o : Mark) → Tree expr → (m : Mark) → Tree expr → (c : Mark) → Tree creation
  -- . W
  member : (d n : Mark) → Tree suffix
  -- . W ( expr )
  call : (d n o : Mark) → Tree expr → (c : Mark) → Tree suffix
  -- : W
  instances : (c n : Mark) → Tree suffix
  -- . from | . to
  end : End → (d w : Mark) → Tree suffix
  -- an atom and its suffixes
  chain : Tree atom → Tree (many suffix) → Tree item
  -- W alone, or an item that ends in . W
  bare : Mark → Tree place
  inside : Tree item → (d n : Mark) → Tree place
  -- item | item == item | place = expr
  alone : Tree item → Tree expr
  equal : Tree item → Mark → Tree item → Tree expr
  assign : Tree place → Mark → Tree expr → Tree expr
  -- an assignment, an item that ends in . W ( expr ), or a creation alone
  assigns : Tree place → Mark → Tree expr → Tree action
  calls : Tree item → (d n o : Mark) → Tree expr → (c : Mark) → Tree action
  creates : Tree creation → Tree action
  -- action ;
  act : Tree action → Mark → Tree stmt
  -- if ( expr ) { stmt* } else { stmt* } ;
  branch : (i o : Mark) → Tree expr → (c b : Mark) → Tree (many stmt) → (f l g : Mark) → Tree (many stmt) → (h s : Mark) → Tree stmt
  -- boolean | set < W > | W
  boolean : Mark → Tree typed
  set_of : (w l n g : Mark) → Tree typed
  row : Mark → Tree typed
  -- type W ;
  declares : Tree typed → (n s : Mark) → Tree variable
  -- type W ( type W ) { variable* stmt* return expr ; }
  method_of : Tree typed → (n o : Mark) → Tree typed → (p c b : Mark) → Tree (many variable) → Tree (many stmt) → (r : Mark) → Tree expr → (s f : Mark) → Tree method
  -- class W extends W { variable* method* }
  class : (w n x p b : Mark) → Tree (many variable) → Tree (many method) → (f : Mark) → Tree decl
  -- relationship W extends W ( W , W ) { variable* method* }
  relationship : (w n x p o y m z c b : Mark) → Tree (many variable) → Tree (many method) → (f : Mark) → Tree decl

abbrev pub literal_kind : Literal → Kind
literal_kind true = kind.True
literal_kind false = kind.False
literal_kind null = kind.Null
literal_kind this = kind.This

abbrev pub pairing_kind : Pairing → Kind
pairing_kind add = kind.Add
pairing_kind rem = kind.Rem

abbrev pub end_kind : End → Kind
end_kind from = kind.From
end_kind to = kind.To

-- the words that a tree spells
unfoldable pub spell : {s : Sort} → Tree s → List Token
spell none = []
spell (more t ts) = spell t ++ spell ts
spell (name n) = tok kind.Name n ∷ []
spell (literal l w) = tok (literal_kind l) w ∷ []
spell (paren o e c) = tok kind.OpenParen o ∷ (spell e ++ tok kind.CloseParen c ∷ [])
spell (made c) = spell c
spell (new w n o c) = tok kind.New w ∷ tok kind.Name n ∷ tok kind.OpenParen o ∷ tok kind.CloseParen c ∷ []
spell (pair p n d w o a m b c) =
    tok kind.Name n ∷ tok kind.Dot d ∷ tok (pairing_kind p) w ∷ tok kind.OpenParen o
    ∷ (spell a ++ tok kind.Comma m ∷ (spell b ++ tok kind.CloseParen c ∷ []))
spell (member d n) = tok kind.Dot d ∷ tok kind.Name n ∷ []
spell (call d n o e c) = tok kind.Dot d ∷ tok kind.Name n ∷ tok kind.OpenParen o ∷ (spell e ++ tok kind.CloseParen c ∷ [])
spell (instances c n) = tok kind.Colon c ∷ tok kind.Name n ∷ []
spell (end f d w) = tok kind.Dot d ∷ tok (end_kind f) w ∷ []
spell (chain a ss) = spell a ++ spell ss
spell (bare n) = tok kind.Name n ∷ []
spell (inside i d n) = spell i ++ tok kind.Dot d ∷ tok kind.Name n ∷ []
spell (alone i) = spell i
spell (equal i q j) = spell i ++ tok kind.Equal q ∷ spell j
spell (assign x q e) = spell x ++ tok kind.Assign q ∷ spell e
spell (assigns x q e) = spell x ++ tok kind.Assign q ∷ spell e
spell (calls i d n o e c) = spell i ++ tok kind.Dot d ∷ tok kind.Name n ∷ tok kind.OpenParen o ∷ (spell e ++ tok kind.CloseParen c ∷ [])
spell (creates c) = spell c
spell (act a s) = spell a ++ tok kind.Semicolon s ∷ []
spell (branch i o e c b ss f l g us h s) =
    tok kind.If i ∷ tok kind.OpenParen o
    ∷ (spell e ++ tok kind.CloseParen c ∷ tok kind.OpenBrace b
    ∷ (spell ss ++ tok kind.CloseBrace f ∷ tok kind.Else l ∷ tok kind.OpenBrace g
    ∷ (spell us ++ tok kind.CloseBrace h ∷ tok kind.Semicolon s ∷ [])))
spell (boolean w) = tok kind.Boolean w ∷ []
spell (set_of w l n g) = tok kind.Set w ∷ tok kind.Less l ∷ tok kind.Name n ∷ tok kind.Greater g ∷ []
spell (row n) = tok kind.Name n ∷ []
spell (declares t n s) = spell t ++ tok kind.Name n ∷ tok kind.Semicolon s ∷ []
spell (method_of t n o u p c b vs ss r e s f) =
    spell t ++ tok kind.Name n ∷ tok kind.OpenParen o
    ∷ (spell u ++ tok kind.Name p ∷ tok kind.CloseParen c ∷ tok kind.OpenBrace b
    ∷ (spell vs ++ (spell ss ++ tok kind.Return r ∷ (spell e ++ tok kind.Semicolon s ∷ tok kind.CloseBrace f ∷ []))))
spell (class w n x p b vs ms f) =
    tok kind.Class w ∷ tok kind.Name n ∷ tok kind.Extends x ∷ tok kind.Name p ∷ tok kind.OpenBrace b
    ∷ (spell vs ++ (spell ms ++ tok kind.CloseBrace f ∷ []))
spell (relationship w n x p o y m z c b vs ms f) =
    tok kind.Relationship w ∷ tok kind.Name n ∷ tok kind.Extends x ∷ tok kind.Name p ∷ tok kind.OpenParen o ∷ tok kind.Name y
    ∷ tok kind.Comma m ∷ tok kind.Name z ∷ tok kind.CloseParen c ∷ tok kind.OpenBrace b
    ∷ (spell vs ++ (spell ms ++ tok kind.CloseBrace f ∷ []))

-- a program is any number of declarations
abbrev pub Program : Type 0
Program = Tree (many decl)
