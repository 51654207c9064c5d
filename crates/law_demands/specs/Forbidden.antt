-- Additions that the third demand shuts out change what is answered.
use Rattle.std.specs.Prelude.{List, [], ◌∷◌, ◌++◌, map, ◌≡◌, ℕ, take, replicate}
use Rattle.file_walk.specs.Walk.{Part, end_marker}
use Rattle.call_check.specs.Check.{verdict, values}
use Rattle.call_check.specs.Starts.{absent}
use Rattle.law_grammar.specs.Grammar.{Accepts}
use Rattle.sheet_page.specs.Sheet.{sheet_texts}
use Rattle.call_sheet.specs.Reply.{sheet_reply, output_by}
use Rattle.law_cases.specs.Cases.{block01, block02, block03, block04, block05, block0_f, contents}
use Rattle.law_demands.specs.Files.{file_of, alone, level_file, octave953_file}

-- the text that Sheet writes for a file, with an empty label and all the room that it needs
unfoldable pub sheet_of : List ℕ → List ℕ
sheet_of file = output_by (sheet_texts file []) [] (sheet_reply file [] 0 65536)

-- a file, the file with such an addition, and Check's number and values for that
pub record Forbidden : Type 0 where
  pub file : List ℕ
  pub changed : List ℕ
  pub answer : List ℕ

pub record Changes (x : Forbidden) : Type 0 where
  pub accepted : Accepts x.file
  pub answer_is : values (verdict x.changed) ≡ x.answer
  pub other : sheet_of x.changed ≡ sheet_of x.file → ⊥

abbrev pub AllChange : List Forbidden → Type 0
AllChange [] = Unit {0}
AllChange (x ∷ xs) = Changes x × AllChange xs

-- ---- files

-- a measurement of function 1 with statistics: ten blocks, 141 words and the end marker. Its third histogram starts at word 135
unfoldable pub level_parts : List Part
level_parts = level_file [] (0 ∷ [])

unfoldable pub long_histogram : Part
long_histogram = alone (0x040B ∷ (7 ∷ (5 ∷ (0 ∷ (6 ∷ (1 ∷ (0 ∷ [])))))))

-- the third histogram with a word more and nn one higher, as if nn were its count
unfoldable pub counted_histogram : Part
counted_histogram = alone (0x050B ∷ (6 ∷ (5 ∷ (0 ∷ (6 ∷ (1 ∷ (0 ∷ [])))))))

-- a block with the end marker for its first word
unfoldable pub end_block : Part
end_block = alone (end_marker ∷ replicate 254 0)

-- document 01's checked file 8, with these raw words after its 0F, which counts four
unfoldable pub buffer_parts : List ℕ → List Part
buffer_parts raw = map alone (block01 ∷ block02 ∷ block03 ∷ block04 ∷ block05 ∷ []) ++ (record { words = block0_f; raw = raw } ∷ [])

-- contents whose last word, where it is no level, is a block of one word that is not listed
unfoldable pub unlucky : List ℕ
unlucky = 634 ∷ (701 ∷ (0xFFFB ∷ (0x01AA ∷ [])))

-- ---- what is shut out

unfoldable pub forbidden : List Forbidden
forbidden =
    -- "not before the file header"
    record { file = file_of level_parts; changed = file_of (alone (0x0199 ∷ []) ∷ level_parts); answer = 4 ∷ (1 ∷ []) }
    -- "Histograms .. stay as they are"
    ∷ record { file = file_of level_parts; changed = file_of (take 9 level_parts ++ (long_histogram ∷ [])); answer = 3 ∷ (135 ∷ []) }
    ∷ record { file = file_of level_parts; changed = file_of (take 9 level_parts ++ (counted_histogram ∷ [])); answer = 4 ∷ (135 ∷ []) }
    -- "between a logger header and its contents": refused, or accepted with another sheet
    ∷ record { file = file_of (buffer_parts contents); changed = file_of (buffer_parts (0x0199 ∷ contents)); answer = 2 ∷ (79 ∷ []) }
    ∷ record {
      file = file_of (buffer_parts unlucky);
      changed = file_of (buffer_parts (0x0199 ∷ unlucky));
      answer = 0 ∷ (1 ∷ (0 ∷ (12 ∷ (18 ∷ (22 ∷ (45 ∷ (absent ∷ (absent ∷ (absent ∷ (65 ∷ []))))))))));
    }
    -- "or after the end marker"
    ∷ record { file = file_of level_parts; changed = file_of level_parts ++ (0 ∷ (0 ∷ [])); answer = 9 ∷ (142 ∷ []) }
    -- "first word not FFFF"
    ∷ record { file = file_of level_parts; changed = file_of (level_parts ++ (end_block ∷ [])); answer = 9 ∷ (142 ∷ []) }
    -- "ids we don't list"
    ∷ record { file = file_of level_parts; changed = file_of (level_parts ++ (alone block01 ∷ [])); answer = 4 ∷ (141 ∷ []) }
    -- "counts set to match" are those of words: a 953's 0E with a band more, and its number of bands one higher, is another spectrum
    ∷ record {
      file = file_of (octave953_file 9 [] (0 ∷ []));
      changed = file_of (octave953_file 10 [] (0 ∷ []));
      answer = 0 ∷ (2 ∷ (0 ∷ (12 ∷ (22 ∷ (26 ∷ (54 ∷ (74 ∷ (121 ∷ (139 ∷ (absent ∷ []))))))))));
    }
    ∷ []
