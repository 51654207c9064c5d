-- What the writers of slim forms do, and what they ask of a row and a block.
use Rattle.std.specs.Prelude.{true, false, List, ◌≡◌, ℕ, ◌*◌, ◌≤◌, ◌<◌, length, drop, Ok}
use Rattle.words.specs.Words.{bytes_of}
use Rattle.text.specs.Text.{Wrote}
use Rattle.file_rules.specs.declared.Row.{Row}
use Rattle.file_rules.specs.Block.{least_of, records, nulled}
use Rattle.file_rules.specs.Sound.{Sound}

-- a call wrote these words, and answered how many bytes they are
abbrev pub WroteWords : List ℕ → List ℕ → List ℕ → ℕ → Type 0
WroteWords ws before after n = Wrote (bytes_of ws) (2 * length ws) before after n

-- these words fit into the output
abbrev pub HasRoom : List ℕ → List ℕ → Type 0
HasRoom ws out = 2 * length ws ≤ length out

-- a block that was found good by a sound row, and counts itself in one byte unless its length is exact
pub record Cuts (r : Row) (b : List ℕ) : Type 0 where
  pub sound : Sound r
  pub listed : r.listed ≡ true
  pub long : r.exact ≡ false → least_of r b ≤ length b
  pub short : r.exact ≡ false → length b < 256
  pub null : r.text ≡ true → nulled (drop 1 b) ≡ true
  pub subs : records r.subs r.subs.count (drop 2 b) ≡ Ok tt
