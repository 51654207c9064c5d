-- The words of a file, cut into blocks (document 01, Walking the blocks). No table stands here.
use Rattle.std.specs.Prelude.{Bool, cond, ◌||◌, List, [], ◌∷◌, ◌++◌, ◌≡◌, ℕ, zero, suc, ◌+◌, ◌-◌, ◌/◌, eqb, ltb, length, get_or, take, drop, Result, Ok, Err}
use Rattle.words.specs.Words.{low, high, long_at}
use Rattle.file_refusal.specs.Refusal.{refusal}
use Rattle.file_walk.specs.declared.Cursor.{Cursor}
use Rattle.file_walk.specs.declared.Stop.{Stop}
use Rattle.file_walk.specs.declared.Stop.TheVariants.{End, Refused}
use Rattle.file_walk.specs.declared.Block.{Block}

-- "FFFF at a block start is the end marker"
abbrev pub end_marker : ℕ
end_marker = 0xFFFF

-- what stands at the front of some words: a refusal, the end marker, or a block of n words
pub data Front : Type 0 where
  refused : ℕ → Front
  ended : Front
  cut : ℕ → Front

-- "For ids 0B and 14 the length is always in word 1 .. For others the length is nn, or word 1 when nn is 0"
unfoldable pub long_form : ℕ → Bool
long_form w = eqb (high w) 0 || (eqb (low w) 0x0B || eqb (low w) 0x14)

-- a block of k words, where n are left: one that passes the last word is 2
abbrev pub fitted : ℕ → ℕ → Front
fitted n k = cond (ltb n k) (refused 2) (cut k)

-- by the first two words, w and v, and how many words there are: "length word present (2), long form under 2 (3), block fits (2)"
unfoldable pub fronted : ℕ → ℕ → ℕ → Front
fronted w v n =
    cond (eqb n 0) (refused 2)
    (cond (eqb w end_marker) ended
    (cond (long_form w) (cond (ltb n 2) (refused 2) (cond (ltb v 2) (refused 3) (fitted n v)))
    (fitted n (high w))))

unfoldable pub front_of : List ℕ → Front
front_of ws = fronted (get_or ws 0 0) (get_or ws 1 0) (length ws)

-- "After a 0F block follow BuffLength/2 raw words without a header": how many raw words follow a block
unfoldable pub raw_of : List ℕ → ℕ
raw_of b = cond (eqb (low (get_or b 0 0)) 0x0F) (long_at b 6 / 2) 0

-- a file's blocks, each with its start, its words and the raw words after it, up to where the walk is over
pub data Walk : Type 0 where
  over : Stop → Walk
  block : ℕ → List ℕ → List ℕ → Walk → Walk

-- the walk over the words ws, which start at word `at` of the file. Raw words that pass the last word are 2 at the start of
-- their block, once the block itself is through. A block has a word at least: fuel for each word and one more is enough
unfoldable pub walk : ℕ → ℕ → List ℕ → Walk
walk zero at ws = over (Refused (refusal 2 at))
walk (suc m) at ws =
    elim (front_of ws) [
      | refused num ↦ over (Refused (refusal num at))
      | ended ↦ over (End at (length ws - 1))
      | cut k ↦
          block at (take k ws) (take (raw_of (take k ws)) (drop k ws))
          (cond (ltb (length (drop k ws)) (raw_of (take k ws))) (over (Refused (refusal 2 at))) (walk m (at + (k + raw_of (take k ws))) (drop (k + raw_of (take k ws)) ws)))
    ]

unfoldable pub walked : List ℕ → Walk
walked ws = walk (suc (length ws)) 0 ws

-- one step of the walk, over words ws that start at word `at`
unfoldable pub stepped : ℕ → List ℕ → Front → Result Block Stop
stepped at ws (refused num) = Err (Refused (refusal num at))
stepped at ws ended = Err (End at (length ws - 1))
stepped at ws (cut k) =
    Ok (record {
      id = low (get_or ws 0 0);
      nn = high (get_or ws 0 0);
      start = at;
      length = k;
      next = record { at = at + (k + raw_of (take k ws)); last = at };
    })

-- a cursor past the last word was led there by the raw words of the block before it
unfoldable pub step_at : List ℕ → Cursor → Result Block Stop
step_at ws c =
    cond (ltb (length ws) c.at) (Err (Refused (refusal 2 c.last)))
    (stepped c.at (drop c.at ws) (front_of (drop c.at ws)))

-- a block and the raw words after it
pub record Part : Type 0 where
  pub words : List ℕ
  pub raw : List ℕ

unfoldable pub parts_of : Walk → List Part
parts_of (over s) = []
parts_of (block at b raw w) = record { words = b; raw = raw } ∷ parts_of w

-- the words of some blocks, and the end marker
unfoldable pub laid_out : List Part → List ℕ
laid_out [] = end_marker ∷ []
laid_out (p ∷ ps) = p.words ++ (p.raw ++ laid_out ps)

-- a block whose length is what it says, with as many raw words after it as it says
pub record Whole (p : Part) : Type 0 where
  pub counted : front_of p.words ≡ cut (length p.words)
  pub followed : length p.raw ≡ raw_of p.words

abbrev pub Wholes : List Part → Type 0
Wholes [] = Unit {0}
Wholes (p ∷ ps) = Whole p × Wholes ps
