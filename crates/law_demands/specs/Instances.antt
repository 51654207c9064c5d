-- Files with every kind of addition at once: what the third demand speaks of is there.
use Rattle.std.specs.Prelude.{true, List, [], ◌∷◌, ◌++◌, map, ◌≡◌, ℕ}
use Rattle.file_walk.specs.Walk.{Part}
use Rattle.law_grammar.specs.Grammar.{Accepts}
use Rattle.law_additions.specs.Additions.{Added}
use Rattle.law_demands.specs.Files.{file_of, are_bytes, alone, level_file, octave_file, third_file, band_file, level953_file, octave953_file, dose953_file}

pub record Instance : Type 0 where
  pub before : List Part
  pub after : List Part

-- an accepted file, and that file with additions; both are bytes
pub record Shown (i : Instance) : Type 0 where
  pub accepted : Accepts (file_of i.before)
  pub added : Added (file_of i.before) (file_of i.after)
  pub bytes : are_bytes (file_of i.before ++ file_of i.after) ≡ true

abbrev pub AllShown : List Instance → Type 0
AllShown [] = Unit {0}
AllShown (i ∷ is) = Shown i × AllShown is

-- the words at the ends: the end marker, and the header of a block 01
unfoldable pub words : List ℕ
words = 0xFFFF ∷ (0x0C01 ∷ [])

-- blocks that are not listed: length in nn, length in word 1, and id 14, whose nn is a number
unfoldable pub strange : List (List ℕ)
strange = (0x0399 ∷ (0xFFFF ∷ (7 ∷ []))) ∷ (0x00AA ∷ (2 ∷ [])) ∷ (0x0914 ∷ (3 ∷ (0xFFFF ∷ []))) ∷ []

-- them before each of some blocks and after the last
unfoldable pub between : List Part → List Part
between [] = map alone strange
between (p ∷ ps) = map alone strange ++ (p ∷ between ps)

-- them at every boundary but the one before the file header
unfoldable pub after_header : List Part → List Part
after_header [] = []
after_header (p ∷ ps) = p ∷ between ps

-- a file by what stands at its ends and from its title's null on: none and two nulls; then words, and other bytes
unfoldable pub grown : (List ℕ → List ℕ → List Part) → Instance
grown file = record { before = file [] (0 ∷ []); after = after_header (file words (0x5A00 ∷ (0x2121 ∷ []))) }

unfoldable pub instances : List Instance
instances =
    grown level_file
    ∷ grown octave_file
    ∷ grown third_file
    ∷ grown band_file
    ∷ grown level953_file
    ∷ grown (octave953_file 10)
    ∷ grown dose953_file
    ∷ []
