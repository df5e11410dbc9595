-- What is expected, in other symbols.
use Rattle.std.proofs.Common.{◌≡◌, Bool, true, false, cond, ◌&&◌, ◌||◌, List, [], ◌∷◌, Some, None, Option, sym, refl, ap, ◌∙◌}
use Rattle.std.proofs.lemmas.Bool.{false≢true}
use Rattle.std.proofs.lemmas.Bool.{and_right, or_parts}
use Rattle.words.specs.declared.kind.Kind.{Kind}
use Rattle.words.specs.declared.kind.Kind.TheVariants as kind
use Rattle.words.specs.Kinds.{is}
use Rattle.words.specs.Words.{Token}
use Rattle.grammar.specs.Machine.{Sym, word, start, more, typed, decls, members, member, body, opening, stmts, runs, step, begin, onward, type_then, statement, ends, either, method_rest, branches, whole, acting, Form, bare, done, plain, fresh, inner_set, closes, settable, literal_word}
use Rattle.grammar.specs.Told.{kind_at, seen, variable_begins, type_begins, statement_begins, statement_word}
use Rattle.grammar.proofs.Steps.{ne_first}
use Rattle.grammar.proofs.WordKinds.{is_true}

-- a type that begins with no keyword is a name
pub typed_name : (α : List Sym) (ws : List Token) → (kind_at ws ≡ Some kind.Boolean → ⊥) → (kind_at ws ≡ Some kind.Set → ⊥) → runs (typed ∷ α) ws ≡ runs (word kind.Name ∷ α) ws
unfolding runs step ends type_then
typed_name α [] nb ns = refl
typed_name α (w ∷ ws) nb ns = let b = ne_first kind.Boolean w ws nb in let s = ne_first kind.Set w ws ns in simp (b, s)

type_step : (ψ : List Sym) (k : Kind) (x y : Option (List Sym)) → (is kind.Boolean k || (is kind.Set k || is kind.Name k)) ≡ true → type_then ψ k x ≡ type_then ψ k y
unfolding type_then
type_step ψ k x y e = go (is kind.Boolean k) (is kind.Set k) (is kind.Name k) e
  where
    go : (a b c : Bool) → (a || (b || c)) ≡ true → cond a (Some ψ) (cond b (Some (inner_set ψ)) (cond c (Some ψ) x)) ≡ cond a (Some ψ) (cond b (Some (inner_set ψ)) (cond c (Some ψ) y))
    go true b c e = refl
    go false true c e = refl
    go false false true e = refl
    go false false false e = absurd (false≢true e)

no_type_step : (ψ : List Sym) (k : Kind) (x : Option (List Sym)) → (is kind.Boolean k || (is kind.Set k || is kind.Name k)) ≡ false → type_then ψ k x ≡ x
unfolding type_then
no_type_step ψ k x e = go (is kind.Boolean k) (is kind.Set k) (is kind.Name k) e
  where
    go : (a b c : Bool) → (a || (b || c)) ≡ false → cond a (Some ψ) (cond b (Some (inner_set ψ)) (cond c (Some ψ) x)) ≡ x
    go true b c e = absurd (false≢true (sym e))
    go false true c e = absurd (false≢true (sym e))
    go false false true e = absurd (false≢true (sym e))
    go false false false e = refl

pub members_type : (b : Bool) (α : List Sym) (ws : List Token) → type_begins ws ≡ true → runs (members b ∷ α) ws ≡ runs (typed ∷ word kind.Name ∷ member b ∷ α) ws
unfolding runs step
members_type b α [] e = absurd (false≢true e)
members_type b α (w ∷ ws) e = ap (λ o. either o (Some (w ∷ ws)) (λ γ. runs γ ws)) (type_step (word kind.Name ∷ member b ∷ α) w.kind (step α w.kind) None e)

pub members_done : (b : Bool) (α : List Sym) (ws : List Token) → type_begins ws ≡ false → runs (members b ∷ α) ws ≡ runs α ws
unfolding runs step ends
members_done b α [] e = refl
members_done b α (w ∷ ws) e = ap (λ o. either o (Some (w ∷ ws)) (λ γ. runs γ ws)) (no_type_step (word kind.Name ∷ member b ∷ α) w.kind (step α w.kind) e)

-- what is no field is a method
pub member_method : (b : Bool) (α : List Sym) (ws : List Token) → (seen kind.Semicolon ws && b) ≡ false
    → runs (member b ∷ α) ws ≡ runs (word kind.OpenParen ∷ method_rest (members false ∷ α)) ws
unfolding runs step ends
member_method b α [] e = refl
member_method b α (w ∷ ws) e = rw e

-- a statement that is no `if` is an action
item_step : (β : List Sym) (k : Kind) (x y : Option (List Sym)) → (is kind.Name k || (literal_word k || (is kind.New k || is kind.OpenParen k))) ≡ true → begin acting β k x ≡ begin acting β k y
unfolding begin
item_step β k x y e = go (is kind.Name k) (literal_word k) (is kind.New k) (is kind.OpenParen k) e
  where
    go : (a b c d : Bool) → (a || (b || (c || d))) ≡ true
        → cond a (Some (more acting bare ∷ β)) (cond b (Some (more acting plain ∷ β)) (cond c (Some (fresh (more acting done ∷ β))) (cond d (Some (start whole ∷ word kind.CloseParen ∷ more acting plain ∷ β)) x)))
        ≡ cond a (Some (more acting bare ∷ β)) (cond b (Some (more acting plain ∷ β)) (cond c (Some (fresh (more acting done ∷ β))) (cond d (Some (start whole ∷ word kind.CloseParen ∷ more acting plain ∷ β)) y)))
    go true b c d e = refl
    go false true c d e = refl
    go false false true d e = refl
    go false false false true e = refl
    go false false false false e = absurd (false≢true e)

no_item_step : (β : List Sym) (k : Kind) (x : Option (List Sym)) → (is kind.Name k || (literal_word k || (is kind.New k || is kind.OpenParen k))) ≡ false → begin acting β k x ≡ x
unfolding begin
no_item_step β k x e = go (is kind.Name k) (literal_word k) (is kind.New k) (is kind.OpenParen k) e
  where
    go : (a b c d : Bool) → (a || (b || (c || d))) ≡ false
        → cond a (Some (more acting bare ∷ β)) (cond b (Some (more acting plain ∷ β)) (cond c (Some (fresh (more acting done ∷ β))) (cond d (Some (start whole ∷ word kind.CloseParen ∷ more acting plain ∷ β)) x))) ≡ x
    go true b c d e = absurd (false≢true (sym e))
    go false true c d e = absurd (false≢true (sym e))
    go false false true d e = absurd (false≢true (sym e))
    go false false false true e = absurd (false≢true (sym e))
    go false false false false e = refl

pub stmts_item : (α : List Sym) (ws : List Token) → statement_begins ws ≡ true → (kind_at ws ≡ Some kind.If → ⊥) → runs (stmts ∷ α) ws ≡ runs (start acting ∷ word kind.Semicolon ∷ stmts ∷ α) ws
unfolding runs step statement
stmts_item α [] e ni = absurd (false≢true e)
stmts_item α (w ∷ ws) e ni =
    let i = ne_first kind.If w ws ni in
    let h : (is kind.Name w.kind || (literal_word w.kind || (is kind.New w.kind || is kind.OpenParen w.kind))) ≡ true = rw i at e in
    rw i (ap (λ o. either o (Some (w ∷ ws)) (λ γ. runs γ ws)) (item_step (word kind.Semicolon ∷ stmts ∷ α) w.kind (step α w.kind) None h))

statement_none : (α : List Sym) (k : Kind) (x : Option (List Sym)) → statement_word k ≡ false → statement α k x ≡ x
unfolding statement
statement_none α k x e =
    let a = or_parts (is kind.If k) (is kind.Name k || (literal_word k || (is kind.New k || is kind.OpenParen k))) e in
    ap (λ b. cond b (Some (branches (stmts ∷ α))) (begin acting (word kind.Semicolon ∷ stmts ∷ α) k x)) a.0 ∙ no_item_step (word kind.Semicolon ∷ stmts ∷ α) k x a.1

pub stmts_done : (α : List Sym) (ws : List Token) → statement_begins ws ≡ false → runs (stmts ∷ α) ws ≡ runs α ws
unfolding runs step ends
stmts_done α [] e = refl
stmts_done α (w ∷ ws) e = ap (λ o. either o (Some (w ∷ ws)) (λ γ. runs γ ws)) (statement_none α w.kind (step α w.kind) e)

pub decls_done : (α : List Sym) (ws : List Token) → (kind_at ws ≡ Some kind.Class → ⊥) → (kind_at ws ≡ Some kind.Relationship → ⊥) → runs (decls ∷ α) ws ≡ runs α ws
unfolding runs step ends
decls_done α [] nc nr = refl
decls_done α (w ∷ ws) nc nr = let c = ne_first kind.Class w ws nc in let r = ne_first kind.Relationship w ws nr in simp (c, r)

-- an action whose item is a place goes on with `=`
pub acting_place : (f : Form) (β : List Sym) (ws : List Token) → settable f ≡ true → closes acting f ≡ false → (kind_at ws ≡ Some kind.Dot → ⊥) → (kind_at ws ≡ Some kind.Colon → ⊥)
    → runs (more acting f ∷ β) ws ≡ runs (word kind.Assign ∷ start whole ∷ β) ws
unfolding runs step ends onward
acting_place f β [] s c nd nc = rw c
acting_place f β (w ∷ ws) s c nd nc =
    let d = ne_first kind.Dot w ws nd in
    let e = ne_first kind.Colon w ws nc in
    let q : (is kind.Equal w.kind && false) ≡ false = and_right _ _ refl in
    rw (d, e, q, s, c) (go (is kind.Assign w.kind))
  where
    go : (b : Bool) → either (cond (b && true) (Some (start whole ∷ β)) None) (Some (w ∷ ws)) (λ γ. runs γ ws) ≡ either (cond b (Some (start whole ∷ β)) None) (Some (w ∷ ws)) (λ γ. runs γ ws)
    go true = refl
    go false = refl

-- and no other item may end an action, but one that is done
pub acting_stuck : (f : Form) (β : List Sym) (ws : List Token) → settable f ≡ false → closes acting f ≡ false → (kind_at ws ≡ Some kind.Dot → ⊥) → (kind_at ws ≡ Some kind.Colon → ⊥)
    → runs (more acting f ∷ β) ws ≡ Some ws
unfolding runs step ends onward
acting_stuck f β [] s c nd nc = rw c
acting_stuck f β (w ∷ ws) s c nd nc =
    let d = ne_first kind.Dot w ws nd in
    let e = ne_first kind.Colon w ws nc in
    let q : (is kind.Equal w.kind && false) ≡ false = and_right _ _ refl in
    let a : (is kind.Assign w.kind && false) ≡ false = and_right _ _ refl in
    rw (d, e, q, s, a, c)

-- after a name in a method's body, a second name makes a variable, and anything else an action
opening_name : (α : List Sym) (ws : List Token) → seen kind.Name ws ≡ true → runs (opening ∷ α) ws ≡ runs (word kind.Name ∷ word kind.Semicolon ∷ body ∷ α) ws
unfolding runs step
opening_name α [] e = absurd (false≢true e)
opening_name α (w ∷ ws) e = rw e

opening_other : (α : List Sym) (ws : List Token) → seen kind.Name ws ≡ false → runs (opening ∷ α) ws ≡ runs (more acting bare ∷ word kind.Semicolon ∷ stmts ∷ α) ws
unfolding runs step ends onward
opening_other α [] e = refl
opening_other α (w ∷ ws) e = rw e

name_statement : (α : List Sym) (k : Kind) (x : Option (List Sym)) → is kind.Name k ≡ true → statement α k x ≡ Some (more acting bare ∷ word kind.Semicolon ∷ stmts ∷ α)
unfolding statement begin
name_statement α k x e = let h = is_true kind.Name k e in rw h

-- a method's body goes on with a variable, or with statements
pub body_variable : (α : List Sym) (ws : List Token) → variable_begins ws ≡ true → runs (body ∷ α) ws ≡ runs (typed ∷ word kind.Name ∷ word kind.Semicolon ∷ body ∷ α) ws
unfolding runs step ends type_then
body_variable α [] e = absurd (false≢true e)
body_variable α (w ∷ ws) e = go (is kind.Boolean w.kind) (is kind.Set w.kind) (is kind.Name w.kind) (seen kind.Name ws) e (opening_name α ws)
  where
    go : (a b c d : Bool) → (a || (b || (c && d))) ≡ true → (d ≡ true → runs (opening ∷ α) ws ≡ runs (word kind.Name ∷ word kind.Semicolon ∷ body ∷ α) ws)
        → either (cond a (Some (word kind.Name ∷ word kind.Semicolon ∷ body ∷ α)) (cond b (Some (inner_set (word kind.Name ∷ word kind.Semicolon ∷ body ∷ α))) (cond c (Some (opening ∷ α)) (statement α w.kind (step α w.kind))))) (Some (w ∷ ws)) (λ β. runs β ws)
        ≡ either (cond a (Some (word kind.Name ∷ word kind.Semicolon ∷ body ∷ α)) (cond b (Some (inner_set (word kind.Name ∷ word kind.Semicolon ∷ body ∷ α))) (cond c (Some (word kind.Name ∷ word kind.Semicolon ∷ body ∷ α)) None))) (Some (w ∷ ws)) (λ β. runs β ws)
    go true b c d e h = refl
    go false true c d e h = refl
    go false false true true e h = h refl
    go false false true false e h = absurd (false≢true e)
    go false false false d e h = absurd (false≢true e)

pub body_stmts : (α : List Sym) (ws : List Token) → variable_begins ws ≡ false → runs (body ∷ α) ws ≡ runs (stmts ∷ α) ws
unfolding runs step ends
body_stmts α [] e = refl
body_stmts α (w ∷ ws) e =
    go (is kind.Boolean w.kind) (is kind.Set w.kind) (is kind.Name w.kind) (seen kind.Name ws) e
    (λ t d. opening_other α ws d ∙ ap (λ o. either o (Some (w ∷ ws)) (λ β. runs β ws)) (sym (name_statement α w.kind (step α w.kind) t)))
  where
    go : (a b c d : Bool) → (a || (b || (c && d))) ≡ false
        → (c ≡ true → d ≡ false → runs (opening ∷ α) ws ≡ either (statement α w.kind (step α w.kind)) (Some (w ∷ ws)) (λ β. runs β ws))
        → either (cond a (Some (word kind.Name ∷ word kind.Semicolon ∷ body ∷ α)) (cond b (Some (inner_set (word kind.Name ∷ word kind.Semicolon ∷ body ∷ α))) (cond c (Some (opening ∷ α)) (statement α w.kind (step α w.kind))))) (Some (w ∷ ws)) (λ β. runs β ws)
        ≡ either (statement α w.kind (step α w.kind)) (Some (w ∷ ws)) (λ β. runs β ws)
    go true b c d e h = absurd (false≢true (sym e))
    go false true c d e h = absurd (false≢true (sym e))
    go false false true true e h = absurd (false≢true (sym e))
    go false false true false e h = h refl refl
    go false false false d e h = refl
