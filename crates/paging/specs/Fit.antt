-- "as many whole lines as fit" (document 01, What the converter takes), of any lines.
use Rattle.std.specs.Prelude.{cond, ◌≡◌, List, [], ◌∷◌, ◌++◌, ℕ, suc, ◌-◌, ◌≤◌, ◌<◌, leb, eqb, length, take, Option, Some, None}
use Rattle.paging.specs.declared.fit.Progress.{Progress}
use Rattle.std.specs.Fn.{Once}
use denote.Ref.{MutBor}
use Rattle.text.specs.Text.{Wrote}

-- how many lines fit into `room` bytes: from the first on, whole, until one is longer than what is left
unfoldable pub fit : ℕ → List (List ℕ) → ℕ
fit room [] = 0
fit room (l ∷ ls) = cond (leb (length l) room) (suc (fit (room - length l) ls)) 0

-- the lines one after another
unfoldable pub joined : List (List ℕ) → List ℕ
joined [] = []
joined (l ∷ ls) = l ++ joined ls

-- a call wrote `text` where it fits, and nothing where it does not
abbrev pub TriedTo : List ℕ → List ℕ → List ℕ → Option ℕ → Type 0
TriedTo text before after (Some n) = Wrote text (length before) before after n
TriedTo text before after None = (length before < length text) × (after ≡ before)

-- a call wrote as many of the lines as fit, and says how many lines and bytes these are and whether they are all
pub record Filled (lines : List (List ℕ)) (before after : List ℕ) (p : Progress) : Type 0 where
  pub most : p.lines ≡ fit (length before) lines
  pub wrote : Wrote (joined (take p.lines lines)) (length before) before after p.bytes
  pub finished : p.finished ≡ eqb p.lines (length lines)

-- a call of `put` writes the line, of a byte at least and `most` at most, into what it is lent
pub record Puts {W : Type 0} (g : Once W (MutBor (List ℕ) × Unit {0}) (ℕ × (MutBor (List ℕ) × Unit {0}))) (put : W) (most : ℕ) (line : List ℕ) : Type 0 where
  pub some : 1 ≤ length line
  pub takes : (s : MutBor (List ℕ)) → most ≤ length s.now → g.pre put (s, tt)
  pub wrote : (s t : MutBor (List ℕ)) (n : ℕ) → most ≤ length s.now → g.post put (s, tt) (n, (t, tt)) → Wrote line most s.now t.now n
