-- How large a program may be.
use Rattle.std.specs.Prelude.{ℕ, ◌+◌, max, Bool, cond, length, Some, None, Option, nat_lt}
use Rattle.grammar.specs.Trees.{Sort, many, variable, Tree, Program, none, more, name, literal, paren, made, new, pair, member, call, instances, end, chain, bare, inside, alone, equal, assign, assigns, calls, creates, act, branch, boolean, set_of, row, declares, method_of, class, relationship}
use Rattle.outline.specs.declared.limit.Limit.{Limit}
use Rattle.outline.specs.declared.limit.Limit.TheVariants as limit
use Rattle.outline.specs.Layout.{contents_of}

-- The height of an expression: a leaf has 1, any other node is one above its highest part, and so is a pair of brackets
-- around an expression. An assigned variable has 0, an assigned field that of its object.
-- h is the height of the item so far, for its suffixes; for statements, methods and declarations the greatest height of
-- the statements and returns before them.
unfoldable pub height : {s : Sort} → ℕ → Tree s → ℕ
height h none = h
height h (more t ts) = height (height h t) ts
height h (name n) = 1
height h (literal v w) = 1
height h (paren o e c) = height 0 e + 1
height h (made c) = height 0 c
height h (new w n o c) = 1
height h (pair x n d w o a m b c) = max (height 0 a) (height 0 b) + 1
height h (member d n) = h + 1
height h (call d n o e c) = max h (height 0 e) + 1
height h (instances c n) = h + 1
height h (end f d w) = h + 1
height h (chain a ss) = height (height 0 a) ss
height h (bare n) = 0
height h (inside i d n) = height 0 i
height h (alone i) = height 0 i
height h (equal i q j) = max (height 0 i) (height 0 j) + 1
height h (assign x q e) = max (height 0 x) (height 0 e) + 1
height h (assigns x q e) = max (height 0 x) (height 0 e) + 1
height h (calls i d n o e c) = max (height 0 i) (height 0 e) + 1
height h (creates c) = height 0 c
height h (act a s) = max h (height 0 a + 1)
height h (branch i o e c b ss f g k us m s) = max h (height (height (height 0 e) ss) us + 1)
height h (boolean w) = h
height h (set_of w o n c) = h
height h (row n) = h
height h (declares t n s) = h
height h (method_of t n o u v c b vs ss r e s f) = max (height h ss) (height 0 e + 1)
height h (class w n x q b vs ms f) = height h ms
height h (relationship w n x q o y m z c b vs ms f) = height h ms

-- how many variables are declared
unfoldable pub how_many : Tree (many variable) → ℕ
how_many none = 0
how_many (more t ts) = how_many ts + 1

-- The most variables of a method, this and the parameter included, where the most of the methods before is h.
unfoldable pub crowd : {s : Sort} → ℕ → Tree s → ℕ
crowd h none = h
crowd h (more t ts) = crowd (crowd h t) ts
crowd h (name n) = h
crowd h (literal v w) = h
crowd h (paren o e c) = h
crowd h (made c) = h
crowd h (new w n o c) = h
crowd h (pair x n d w o a m b c) = h
crowd h (member d n) = h
crowd h (call d n o e c) = h
crowd h (instances c n) = h
crowd h (end f d w) = h
crowd h (chain a ss) = h
crowd h (bare n) = h
crowd h (inside i d n) = h
crowd h (alone i) = h
crowd h (equal i q j) = h
crowd h (assign x q e) = h
crowd h (assigns x q e) = h
crowd h (calls i d n o e c) = h
crowd h (creates c) = h
crowd h (act a s) = h
crowd h (branch i o e c b ss f g k us m s) = h
crowd h (boolean w) = h
crowd h (set_of w o n c) = h
crowd h (row n) = h
crowd h (declares t n s) = h
crowd h (method_of t n o u v c b vs ss r e s f) = max h (2 + how_many vs)
crowd h (class w n x q b vs ms f) = crowd h ms
crowd h (relationship w n x q o y m z c b vs ms f) = crowd h ms

abbrev pub limit_number : Limit → ℕ
limit_number limit.Classes = 1
limit_number limit.Relationships = 2
limit_number limit.Fields = 3
limit_number limit.Methods = 4
limit_number limit.Variables = 5
limit_number limit.Nodes = 6
limit_number limit.Height = 7

-- the first of these limits that is passed
abbrev pub passed : Bool → Limit → Option Limit → Option Limit
passed b n other = cond b (Some n) other

unfoldable pub limit_passed : Program → Option Limit
limit_passed t =
    passed (nat_lt 31 (length (contents_of t).classes)) limit.Classes
    (passed (nat_lt 31 (length (contents_of t).relationships)) limit.Relationships
    (passed (nat_lt 128 (length (contents_of t).fields)) limit.Fields
    (passed (nat_lt 64 (length (contents_of t).methods)) limit.Methods
    (passed (nat_lt 12 (crowd 0 t)) limit.Variables
    (passed (nat_lt 2048 (length (contents_of t).nodes)) limit.Nodes
    (passed (nat_lt 16 (height 0 t)) limit.Height None))))))
