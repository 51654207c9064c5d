-- Accepted files of each kind, by their blocks: measurements with statistics, of a 945's functions 1, 2 and 3 and of a 953's 1, 2 and
-- 4, and a buffer with bands. Each is also there with words at the end of every table block and every profile record.
use Rattle.std.specs.Prelude.{Bool, true, ◌&&◌, List, [], ◌∷◌, ◌++◌, map, ℕ, ◌+◌, ◌*◌, ltb, replicate}
use Rattle.words.specs.Words.{bytes_of}
use Rattle.file_walk.specs.Walk.{Part, laid_out}
use Rattle.words.specs.Numbers.{numbers_from}
use Rattle.law_additions.specs.Additions.{recounted}
use Rattle.law_cases.specs.Cases.{block01, profile}

unfoldable pub file_of : List Part → List ℕ
file_of ps = bytes_of (laid_out ps)

-- all of them are bytes: so a count that stands in one is within 255
unfoldable pub are_bytes : List ℕ → Bool
are_bytes [] = true
are_bytes (b ∷ bs) = ltb b 256 && are_bytes bs

unfoldable pub alone : List ℕ → Part
alone b = record { words = b; raw = [] }

-- ---- blocks, with `more` at the end of each and of each of their records; none where it is empty

-- a block with no sub-blocks
unfoldable pub longer : List ℕ → List ℕ → Part
longer more b = alone (recounted (b ++ more))

-- a block with three
unfoldable pub with_records : List ℕ → ℕ → ℕ → List ℕ → List ℕ → List ℕ → Part
with_records more id word a b c =
    alone (recounted (id ∷ (word ∷ (recounted (a ++ more) ++ (recounted (b ++ more) ++ (recounted (c ++ more) ++ more))))))

-- title Hall, and these words from its null on
unfoldable pub titled : List ℕ → Part
titled tail = alone (recounted (0x03 ∷ (0x6148 ∷ (0x6C6C ∷ tail))))

-- where the models differ, in blocks of least length: 02 from its unit type on; 04 after the function, with filter A and buffering on;
-- a filter of the third profile; and how many words a profile's results have after the time
pub record Model : Type 0 where
  pub unit : List ℕ
  pub setup : List ℕ
  pub filter : ℕ
  pub results : ℕ

unfoldable pub m945 : Model
m945 = record { unit = 945 ∷ (105 ∷ replicate 2 0); setup = replicate 17 0 ++ (2 ∷ (0 ∷ [])); filter = 1; results = 11 }

-- the 953's, with this unit type and this filter
unfoldable pub later : ℕ → ℕ → Model
later unit filter =
    record { unit = unit ∷ (604 ∷ replicate 6 0); setup = replicate 10 0 ++ (2 ∷ (1 ∷ replicate 12 0)); filter = filter; results = 12 }

-- "0 Z"
unfoldable pub m953 : Model
m953 = later 953 0

-- the results of a profile: a time, and n words from this level on
unfoldable pub result_record : ℕ → ℕ → List ℕ
result_record n level = 0x08 ∷ (90 ∷ (0 ∷ numbers_from level n))

unfoldable pub octave_spectrum : List ℕ
octave_spectrum = 0x0E ∷ (0x0101 ∷ (100 ∷ (15 ∷ (3 ∷ numbers_from 600 18))))

unfoldable pub third_spectrum : List ℕ
third_spectrum = 0x10 ∷ (0x0101 ∷ (80 ∷ (45 ∷ (3 ∷ numbers_from 500 48))))

-- a 953's, of n bands from 31.5 Hz on
unfoldable pub spectrum_from : ℕ → List ℕ
spectrum_from n = 0x0E ∷ (0x0101 ∷ (3150 ∷ (n ∷ (3 ∷ numbers_from 600 (n + 3)))))

-- the classes of a profile, from 24.0 dB on, 1.0 dB wide
unfoldable pub class_record : ℕ → List ℕ
class_record n = 0x040A ∷ (n ∷ (240 ∷ (10 ∷ [])))

-- the histogram with this mask, of two counters
unfoldable pub histogram : ℕ → ℕ → ℕ → Part
histogram mask a b = alone ((0x0B + 256 * mask) ∷ (6 ∷ (a ∷ (0 ∷ (b ∷ (1 ∷ []))))))

-- a logger header and two records of two profiles and 18 levels
unfoldable pub logger_part : List ℕ → Part
logger_part more =
    record {
      words = recounted (0x0F ∷ (0 ∷ (500 ∷ (100 ∷ (15 ∷ (3 ∷ (80 ∷ (0 ∷ more))))))));
      raw = numbers_from 400 40;
    }

-- ---- files

-- the blocks up to 05, with these words from the title's null on
unfoldable pub head_parts : Model → ℕ → List ℕ → List ℕ → List Part
head_parts m function more tail =
    longer more block01
    ∷ longer more (0x02 ∷ (1234 ∷ m.unit))
    ∷ titled tail
    ∷ longer more (0x04 ∷ (0 ∷ (0 ∷ (function ∷ m.setup))))
    ∷ with_records more 0x05 0x0307 (profile 2 4) (profile 3 0) (profile m.filter 1)
    ∷ []

unfoldable pub results_part : ℕ → List ℕ → Part
results_part n more = with_records more 0x07 0x0307 (result_record n 650) (result_record n 0xFFF0) (result_record n 0x8000)

unfoldable pub statistics_parts : List ℕ → List Part
statistics_parts more =
    with_records more 0x09 0x0703 (class_record 2) (class_record 2) (class_record 2) ∷ histogram 1 17 0 ∷ histogram 2 0 3 ∷ histogram 4 5 6 ∷ []

-- a measurement: the results, the spectrum or none, and statistics
unfoldable pub measured : Model → ℕ → List (List ℕ) → List ℕ → List ℕ → List Part
measured m function spectrum more tail =
    head_parts m function more tail ++ (results_part m.results more ∷ map (longer more) spectrum ++ statistics_parts more)

unfoldable pub level_file : List ℕ → List ℕ → List Part
level_file = measured m945 1 []

unfoldable pub octave_file : List ℕ → List ℕ → List Part
octave_file = measured m945 2 (octave_spectrum ∷ [])

unfoldable pub third_file : List ℕ → List ℕ → List Part
third_file = measured m945 3 (third_spectrum ∷ [])

unfoldable pub band_file : List ℕ → List ℕ → List Part
band_file more tail = head_parts m945 2 more tail ++ (logger_part more ∷ [])

unfoldable pub level953_file : List ℕ → List ℕ → List Part
level953_file = measured m953 1 []

unfoldable pub octave953_file : ℕ → List ℕ → List ℕ → List Part
octave953_file n = measured m953 2 (spectrum_from n ∷ [])

unfoldable pub dose953_file : List ℕ → List ℕ → List Part
dose953_file = measured m953 4 []
