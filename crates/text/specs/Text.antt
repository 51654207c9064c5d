-- What a writer does: it puts a text at the front of what it is lent, and leaves the rest as it was.
use Rattle.std.specs.Prelude.{cond, ◌≡◌, List, [], ◌∷◌, ◌++◌, ℕ, ◌≤◌, eqb, ltb, length, drop}

-- `text` at the front of `before`, and `before` from there on
abbrev pub over : List ℕ → List ℕ → List ℕ
over text before = text ++ drop (length text) before

-- a call wrote `text`, of at most `most` bytes, at the front of `before`, left the rest, and answered how many bytes that is
pub record Wrote (text : List ℕ) (most : ℕ) (before after : List ℕ) (count : ℕ) : Type 0 where
  pub out : after ≡ over text before
  pub counted : count ≡ length text
  pub within : count ≤ most

-- "Text bytes outside 20 to 7E print as `?`" (document 01, Words and numbers); 63 is `?`
abbrev pub shown : ℕ → ℕ
shown b = cond (ltb b 0x20) 63 (cond (ltb 0x7E b) 63 b)

-- a text up to its first null: the bytes before it, or all of them where none is null
unfoldable pub before_null : List ℕ → List ℕ
before_null [] = []
before_null (b ∷ bs) = cond (eqb b 0) [] (b ∷ before_null bs)

-- the name that a table has for a code; nothing for a code that it has not
unfoldable pub named : List (ℕ × List ℕ) → ℕ → List ℕ
named [] code = []
named (n ∷ ns) code = cond (eqb code n.0) n.1 (named ns code)
