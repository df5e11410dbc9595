-- The words of a text.
use Rattle.std.specs.Prelude.{◌≡◌, ℕ, zero, suc, pred, ◌+◌, cond, List, [], ◌∷◌, take, drop, Some, None, Option}
use Rattle.words.specs.declared.kind.Kind.{Kind}
use Rattle.words.specs.declared.spelling.Front.{Front}
use Rattle.words.specs.declared.cursor.Cursor.{Cursor}
use Rattle.words.specs.declared.cursor.Word.{Word}
use Rattle.words.specs.Bytes.{begins, separator}
use Rattle.words.specs.Spelling.{begun}

-- a word of a text: what it is, the place of its first byte, and its bytes
pub record Token : Type 0 where
  pub kind : Kind
  pub place : ℕ
  pub bytes : List ℕ

-- the word f at the front of the bytes s, which stand at place p
abbrev pub token : ℕ → List ℕ → Front → Token
token p s f = record { kind = f.kind; place = p; bytes = take f.size s }

-- the words of bytes that stand at place p, the first n of which belong to a word before them
unfoldable pub cut : ℕ → ℕ → List ℕ → List Token
cut p n [] = []
cut p (suc n) (b ∷ bs) = cut (p + 1) n bs
cut p zero (b ∷ bs) =
    cond (separator b) (cut (p + 1) 0 bs)
    (token p (b ∷ bs) (begun (begins b) (b ∷ bs)) ∷ cut (p + 1) (pred (begun (begins b) (b ∷ bs)).size) bs)

-- the words of a text, from its first byte on
abbrev pub words : List ℕ → List Token
words text = cut 0 0 text

-- the words that a cursor has still to hand out
abbrev pub unread : Cursor → List Token
unread c = cut c.at 0 (drop c.at c.text.now)

-- the word that a cursor handed out
abbrev pub told : Word → Token
told w = record { kind = w.kind; place = w.place; bytes = w.bytes.now }

-- a cursor c hands out r and is then d: none exactly at the end, else the next word
abbrev pub Reads : Cursor → Option Word → Cursor → Type 0
Reads c None d = (unread c ≡ []) × (unread d ≡ [])
Reads c (Some w) d = unread c ≡ told w ∷ unread d
