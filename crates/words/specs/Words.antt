-- "Words are two bytes, low byte first. .. A 32-bit field has its low word first" (document 01, Words and numbers).
use Rattle.std.specs.Prelude.{◌≡◌, List, [], ◌∷◌, ℕ, ◌+◌, ◌*◌, ◌/◌, ◌%◌, get_or}

abbrev pub low : ℕ → ℕ
low w = w % 256

abbrev pub high : ℕ → ℕ
high w = w / 256

-- the words of some bytes. A byte that is left over at the end is no word
unfoldable pub words_of : List ℕ → List ℕ
words_of [] = []
words_of (a ∷ []) = []
words_of (a ∷ (b ∷ bs)) = (a + 256 * b) ∷ words_of bs

-- the bytes of some words
unfoldable pub bytes_of : List ℕ → List ℕ
bytes_of [] = []
bytes_of (w ∷ ws) = low w ∷ (high w ∷ bytes_of ws)

-- the 32-bit number at word i. A word past the end counts as 0
unfoldable pub long_at : List ℕ → ℕ → ℕ
long_at ws i = get_or ws i 0 + 65536 * get_or ws (i + 1) 0

-- some bytes are these words and nothing else
pub record Holds (ws part : List ℕ) : Type 0 where
  pub words : words_of part ≡ ws
  pub bytes : part ≡ bytes_of ws
