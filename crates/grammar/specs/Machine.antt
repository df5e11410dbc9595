-- Which words may come next, by what is still expected.
use Rattle.std.specs.Prelude.{Bool, true, false, cond, ◌&&◌, ◌||◌, List, [], ◌∷◌, Some, None, Option}
use Rattle.words.specs.declared.kind.Kind.{Kind}
use Rattle.words.specs.declared.kind.Kind.TheVariants as kind
use Rattle.words.specs.Kinds.{is}
use Rattle.words.specs.Words.{Token}

-- what an item is read for: a whole expression, the right side of ==, or an action
pub data Use : Type 0 where
  whole operand acting : Use

-- what an item is so far: a name alone, one that ends in . W, one that may stand as an action, or any other
pub data Form : Type 0 where
  bare inner done plain : Form

-- what is expected: a word; an item; the rest of an item; what may follow its dot, where `true` says that a name alone
-- stands before it; the rest of it after a dot and a name; a type; declarations; fields and methods, or with `false`
-- methods alone; the rest of one after its type and name; a method's variables and statements; the rest of one of
-- these after a name; statements
pub data Sym : Type 0 where
  word : Kind → Sym
  start : Use → Sym
  more : Use → Form → Sym
  dotted : Use → Bool → Sym
  named : Use → Sym
  typed : Sym
  decls : Sym
  members : Bool → Sym
  member : Bool → Sym
  body : Sym
  opening : Sym
  stmts : Sym

-- the words of two expressions in brackets
abbrev pub two : List Sym → List Sym
two α = word kind.OpenParen ∷ start whole ∷ word kind.Comma ∷ start whole ∷ word kind.CloseParen ∷ α

-- the words after `new`
abbrev pub fresh : List Sym → List Sym
fresh α = word kind.Name ∷ word kind.OpenParen ∷ word kind.CloseParen ∷ α

abbrev pub inner_set : List Sym → List Sym
inner_set α = word kind.Less ∷ word kind.Name ∷ word kind.Greater ∷ α

-- the words after `if`
abbrev pub branches : List Sym → List Sym
branches α =
    word kind.OpenParen ∷ start whole ∷ word kind.CloseParen ∷ word kind.OpenBrace ∷ stmts ∷ word kind.CloseBrace
    ∷ word kind.Else ∷ word kind.OpenBrace ∷ stmts ∷ word kind.CloseBrace ∷ word kind.Semicolon ∷ α

-- the words after a method's name and `(`
abbrev pub method_rest : List Sym → List Sym
method_rest α =
    typed ∷ word kind.Name ∷ word kind.CloseParen ∷ word kind.OpenBrace ∷ body ∷ word kind.Return ∷ start whole
    ∷ word kind.Semicolon ∷ word kind.CloseBrace ∷ α

-- the words after `class`
abbrev pub class_rest : List Sym → List Sym
class_rest α = word kind.Name ∷ word kind.Extends ∷ word kind.Name ∷ word kind.OpenBrace ∷ members true ∷ word kind.CloseBrace ∷ α

-- the words after `relationship`
abbrev pub relationship_rest : List Sym → List Sym
relationship_rest α =
    word kind.Name ∷ word kind.Extends ∷ word kind.Name ∷ word kind.OpenParen ∷ word kind.Name ∷ word kind.Comma
    ∷ word kind.Name ∷ word kind.CloseParen ∷ word kind.OpenBrace ∷ members true ∷ word kind.CloseBrace ∷ α

abbrev pub settable : Form → Bool
settable bare = true
settable inner = true
settable done = false
settable plain = false

abbrev pub alone_is : Form → Bool
alone_is bare = true
alone_is inner = false
alone_is done = false
alone_is plain = false

-- whether an item of this form may end here
abbrev pub closes : Use → Form → Bool
closes whole f = true
closes operand f = true
closes acting bare = false
closes acting inner = false
closes acting done = true
closes acting plain = false

abbrev pub compares : Use → Bool
compares whole = true
compares operand = false
compares acting = false

abbrev pub assigns : Use → Bool
assigns whole = true
assigns operand = false
assigns acting = true

abbrev pub literal_word : Kind → Bool
literal_word k = is kind.True k || is kind.False k || is kind.Null k || is kind.This k

-- an item begins, else what `other` says
unfoldable pub begin : Use → List Sym → Kind → Option (List Sym) → Option (List Sym)
begin m α k other =
    cond (is kind.Name k) (Some (more m bare ∷ α))
    (cond (literal_word k) (Some (more m plain ∷ α))
    (cond (is kind.New k) (Some (fresh (more m done ∷ α)))
    (cond (is kind.OpenParen k) (Some (start whole ∷ word kind.CloseParen ∷ more m plain ∷ α)) other)))

-- an item goes on, else what `other` says
unfoldable pub onward : Use → Form → List Sym → Kind → Option (List Sym) → Option (List Sym)
onward m f α k other =
    cond (is kind.Dot k) (Some (dotted m (alone_is f) ∷ α))
    (cond (is kind.Colon k) (Some (word kind.Name ∷ more m plain ∷ α))
    (cond (is kind.Equal k && compares m) (Some (start operand ∷ α))
    (cond (is kind.Assign k && (assigns m && settable f)) (Some (start whole ∷ α))
    (cond (closes m f) other None))))

-- after the dot of an item
unfoldable pub after_dot : Use → Bool → List Sym → Kind → Option (List Sym)
after_dot m b α k =
    cond (is kind.Name k) (Some (named m ∷ α))
    (cond (is kind.From k || is kind.To k) (Some (more m plain ∷ α))
    (cond ((is kind.Add k || is kind.Rem k) && b) (Some (two (more m done ∷ α))) None))

-- a type begins and ψ comes after it, else what `other` says
unfoldable pub type_then : List Sym → Kind → Option (List Sym) → Option (List Sym)
type_then ψ k other =
    cond (is kind.Boolean k) (Some ψ)
    (cond (is kind.Set k) (Some (inner_set ψ))
    (cond (is kind.Name k) (Some ψ) other))

-- a statement begins, else what `other` says
unfoldable pub statement : List Sym → Kind → Option (List Sym) → Option (List Sym)
statement α k other = cond (is kind.If k) (Some (branches (stmts ∷ α))) (begin acting (word kind.Semicolon ∷ stmts ∷ α) k other)

-- what is expected after a word of kind k
unfoldable pub step : List Sym → Kind → Option (List Sym)
step [] k = None
step (word j ∷ α) k = cond (is j k) (Some α) None
step (start m ∷ α) k = begin m α k None
step (more m f ∷ α) k = onward m f α k (step α k)
step (dotted m b ∷ α) k = after_dot m b α k
step (named m ∷ α) k =
    cond (is kind.OpenParen k) (Some (start whole ∷ word kind.CloseParen ∷ more m done ∷ α)) (onward m inner α k (step α k))
step (typed ∷ α) k = type_then α k None
step (decls ∷ α) k =
    cond (is kind.Class k) (Some (class_rest (decls ∷ α))) (cond (is kind.Relationship k) (Some (relationship_rest (decls ∷ α))) (step α k))
step (members b ∷ α) k = type_then (word kind.Name ∷ member b ∷ α) k (step α k)
step (member b ∷ α) k =
    cond (is kind.Semicolon k && b) (Some (members true ∷ α)) (cond (is kind.OpenParen k) (Some (method_rest (members false ∷ α))) None)
step (body ∷ α) k =
    cond (is kind.Boolean k) (Some (word kind.Name ∷ word kind.Semicolon ∷ body ∷ α))
    (cond (is kind.Set k) (Some (inner_set (word kind.Name ∷ word kind.Semicolon ∷ body ∷ α)))
    (cond (is kind.Name k) (Some (opening ∷ α)) (statement α k (step α k))))
step (opening ∷ α) k =
    cond (is kind.Name k) (Some (word kind.Semicolon ∷ body ∷ α)) (onward acting bare (word kind.Semicolon ∷ stmts ∷ α) k None)
step (stmts ∷ α) k = statement α k (step α k)

-- whether the text may end here
unfoldable pub ends : List Sym → Bool
ends [] = true
ends (word j ∷ α) = false
ends (start m ∷ α) = false
ends (more m f ∷ α) = closes m f && ends α
ends (dotted m b ∷ α) = false
ends (named m ∷ α) = closes m inner && ends α
ends (typed ∷ α) = false
ends (decls ∷ α) = ends α
ends (members b ∷ α) = ends α
ends (member b ∷ α) = false
ends (body ∷ α) = ends α
ends (opening ∷ α) = false
ends (stmts ∷ α) = ends α

abbrev pub either : {A B : Type 0} → Option A → B → (A → B) → B
either None b f = b
either (Some a) b f = f a

-- the words from the first on that may not come, if there is one; at the end there are none left
unfoldable pub runs : List Sym → List Token → Option (List Token)
runs α [] = cond (ends α) None (Some [])
runs α (w ∷ ws) = either (step α w.kind) (Some (w ∷ ws)) (λ β. runs β ws)
