-- What the fields of a `Line` say of its list of parents.
use Rattle.std.proofs.Common.{◌≡◌, ℕ, ◌<◌, length, get_or, ◌∙◌, arith, length-take, get_or-take}
use Rattle.descent.specs.declared.line.Line.{Line}
use Rattle.descent.specs.Descent.{IsLine, Parent}
use Rattle.descent.specs.Rows.{line_of}

pub rows_are : (l : Line) → length (line_of l) ≡ l.rows
unfolding line_of
rows_are l = simp length-take (omega arith)

pub parent_is : (l : Line) (a : ℕ) → a < l.rows → get_or (line_of l) a 0 ≡ get_or l.parents a 0
unfolding line_of
parent_is l a h = get_or-take l.rows l.parents a 0 h

pub is_line : (l : Line) → IsLine (line_of l)
is_line l =
    let n = rows_are l in
    record {
      rooted = omega arith;
      plain = let r = l.rooted in parent_is l 0 r ∙ l.plain;
      smaller = λ a h k. let e = parent_is l a (omega arith) in let s = l.smaller a h (omega arith) in omega arith;
    }

-- the parent that stands at a row's place, and nothing else, is its parent
pub parent_there : (l : Line) (a : ℕ) → 0 < a → a < l.rows → Parent (line_of l) a (get_or l.parents a 0)
parent_there l a h k = let n = rows_are l in record { under = h; there = omega arith; is = parent_is l a k }
