-- What no program gives that refuses everything, prints one fixed text or invents its counts.
use Rattle.std.specs.Prelude.{List, [], ◌∷◌, ◌++◌, ◌≡◌, ℕ, length, get_or, take, drop, replicate}
use Rattle.std.specs.Borrow.{Bor}
use Rattle.text.specs.Ascii.{ascii}
use Rattle.file_walk.specs.Walk.{Part}
use Rattle.call_check.specs.Check.{verdict, values}
use Rattle.call_check.specs.Starts.{absent}
use Rattle.call_title.specs.Title.{Seen, title_of}
use Rattle.call_slim.specs.Copy.{slim_copy}
use Rattle.sheet_page.specs.Sheet.{sheet_texts}
use Rattle.call_sheet.specs.Reply.{sheet_reply}
use Rattle.call_sheet.specs.Reply as Sheet
use Rattle.law_demands.specs.Files.{file_of, alone, later, measured, octave_file, third_file, band_file, octave953_file, dose953_file}
use Rattle.law_demands.specs.Forbidden.{sheet_of, level_parts}

-- two texts, or two lists of numbers
pub data Fact : Type 0 where
  is : List ℕ → List ℕ → Fact
  differ : List ℕ → List ℕ → Fact

abbrev pub True : Fact → Type 0
True (is a b) = a ≡ b
True (differ a b) = a ≡ b → ⊥

abbrev pub AllTrue : List Fact → Type 0
AllTrue [] = Unit {0}
AllTrue (f ∷ fs) = True f × AllTrue fs

-- ---- files of the other kinds

unfoldable pub octave_parts : List Part
octave_parts = octave_file [] (0 ∷ [])

unfoldable pub third_parts : List Part
third_parts = third_file [] (0 ∷ [])

unfoldable pub band_parts : List Part
band_parts = band_file [] (0 ∷ [])

unfoldable pub spectrum_parts : List Part
spectrum_parts = octave953_file 10 [] (0 ∷ [])

unfoldable pub dose_parts : List Part
dose_parts = dose953_file [] (0 ∷ [])

-- the blocks of a 953's measurement of function 1, with filters that both models have, as this model's
unfoldable pub same_parts : ℕ → List Part
same_parts model = measured (later model 2) 1 [] [] (0 ∷ [])

-- the measurement of function 1 with an empty title
unfoldable pub untitled_parts : List Part
untitled_parts = take 2 level_parts ++ (alone (0x0203 ∷ (0 ∷ [])) ∷ drop 3 level_parts)

-- the same with the name `a,"b",""` and the title `A,"`
unfoldable pub quoted_parts : List Part
quoted_parts =
    alone (0x0C01 ∷ (0x2C61 ∷ (0x6222 ∷ (0x2C22 ∷ (0x2222 ∷ replicate 7 0)))))
    ∷ take 1 (drop 1 level_parts)
    ++ (alone (0x0303 ∷ (0x2C41 ∷ (0x0022 ∷ []))) ∷ drop 3 level_parts)

-- ---- answers as numbers

-- bytes that are lent, in the memory with this number
unfoldable pub lent : ℕ → List ℕ → Bor (List ℕ)
lent memory bytes = record { ref_ptr = (memory, 0); now = bytes }

-- what Title hands back: the number of the memory and the offset in it where it starts, and its bytes
unfoldable pub handed_back : Seen → List ℕ
handed_back s = s.0.0 ∷ (s.0.1 ∷ s.1)

-- the title line with this label
unfoldable pub title_line : List ℕ → List ℕ
title_line label = get_or (sheet_texts (file_of untitled_parts) label) 5 []

-- Sheet's number and values, with a label of n bytes
unfoldable pub sheet_values : List ℕ → ℕ → ℕ → ℕ → List ℕ
sheet_values file label n room = Sheet.values (sheet_reply file (replicate label 65) n room)

-- ---- the facts

unfoldable pub facts : List Fact
facts =
    -- an accepted file of each kind: 0, the function, and where each block starts
    is (values (verdict (file_of level_parts))) (0 ∷ (1 ∷ (0 ∷ (12 ∷ (18 ∷ (22 ∷ (45 ∷ (65 ∷ (absent ∷ (109 ∷ (absent ∷ [])))))))))))
    ∷ is (values (verdict (file_of octave_parts))) (0 ∷ (2 ∷ (0 ∷ (12 ∷ (18 ∷ (22 ∷ (45 ∷ (65 ∷ (109 ∷ (132 ∷ (absent ∷ [])))))))))))
    ∷ is (values (verdict (file_of third_parts))) (0 ∷ (3 ∷ (0 ∷ (12 ∷ (18 ∷ (22 ∷ (45 ∷ (65 ∷ (109 ∷ (162 ∷ (absent ∷ [])))))))))))
    ∷ is (values (verdict (file_of band_parts))) (0 ∷ (2 ∷ (0 ∷ (12 ∷ (18 ∷ (22 ∷ (45 ∷ (absent ∷ (absent ∷ (absent ∷ (65 ∷ [])))))))))))
    ∷ is (values (verdict (file_of spectrum_parts))) (0 ∷ (2 ∷ (0 ∷ (12 ∷ (22 ∷ (26 ∷ (54 ∷ (74 ∷ (121 ∷ (139 ∷ (absent ∷ [])))))))))))
    ∷ is (values (verdict (file_of dose_parts))) (0 ∷ (4 ∷ (0 ∷ (12 ∷ (22 ∷ (26 ∷ (54 ∷ (74 ∷ (absent ∷ (121 ∷ (absent ∷ [])))))))))))
    -- the same blocks, read by the model in block 02: both are accepted, with different sheets
    ∷ is (values (verdict (file_of (same_parts 945)))) (0 ∷ (1 ∷ (0 ∷ (12 ∷ (22 ∷ (26 ∷ (54 ∷ (74 ∷ (absent ∷ (121 ∷ (absent ∷ [])))))))))))
    ∷ is (values (verdict (file_of (same_parts 953)))) (0 ∷ (1 ∷ (0 ∷ (12 ∷ (22 ∷ (26 ∷ (54 ∷ (74 ∷ (absent ∷ (121 ∷ (absent ∷ [])))))))))))
    ∷ is (get_or (sheet_texts (file_of (same_parts 945)) []) 9 []) (ascii "MAX,dB,65.1,-1.5,-3276.7\n")
    ∷ is (get_or (sheet_texts (file_of (same_parts 953)) []) 10 []) (ascii "MAX,dB,65.2,-1.4,-3276.6\n")
    ∷ differ (sheet_of (file_of (same_parts 945))) (sheet_of (file_of (same_parts 953)))
    -- different sheets, and different slim copies
    ∷ differ (sheet_of (file_of level_parts)) (sheet_of (file_of octave_parts))
    ∷ differ (sheet_of (file_of third_parts)) (sheet_of (file_of band_parts))
    ∷ differ (slim_copy (file_of level_parts)) (slim_copy (file_of octave_parts))
    ∷ differ (slim_copy (file_of third_parts)) (slim_copy (file_of band_parts))
    -- Title: a part of the file, which is memory 1, and not the label; the label, which is memory 2, for a file with an empty title
    ∷ is (handed_back (title_of (lent 1 (file_of level_parts)) (lent 2 (ascii "label")))) (1 ∷ (38 ∷ ascii "Hall"))
    ∷ is (handed_back (title_of (lent 1 (file_of untitled_parts)) (lent 2 (ascii "label")))) (2 ∷ (0 ∷ ascii "label"))
    -- a comma or a quote: the head line stands between quotes, and Title's bytes are as they were
    ∷ is (get_or (sheet_texts (file_of quoted_parts) []) 3 []) (ascii "\"name=a,\"\"b\"\",\"\"\"\"\"\n")
    ∷ is (get_or (sheet_texts (file_of quoted_parts) []) 5 []) (ascii "\"title=A,\"\"\"\n")
    ∷ is (handed_back (title_of (lent 1 (file_of quoted_parts)) (lent 2 []))) (1 ∷ (38 ∷ ascii "A,\""))
    ∷ is (title_line (ascii "Hall, north end")) (ascii "\"title=Hall, north end\"\n")
    ∷ is (title_line (ascii "say \"A\"")) (ascii "\"title=say \"\"A\"\"\"\n")
    ∷ is (title_line (ascii "Hall; north end")) (ascii "title=Hall; north end\n")
    -- 507 quotes: "1,023 bytes"
    ∷ is (length (title_line (replicate 507 0x22)) ∷ []) (1023 ∷ [])
    -- later lines of a sheet
    ∷ is (get_or (sheet_texts (file_of level_parts) []) 0 []) (ascii "unit=945\n")
    ∷ is (get_or (sheet_texts (file_of level_parts) []) 6 []) (ascii "result,unit,P1 A,P2 C,P3 Lin\n")
    ∷ is (get_or (sheet_texts (file_of level_parts) []) 17 []) (ascii "N,%,659,65529,32777\n")
    ∷ is (get_or (sheet_texts (file_of level_parts) []) 18 []) (ascii "LN,dB,66.0,-0.6,-3275.8\n")
    ∷ is (get_or (sheet_texts (file_of level_parts) []) 25 []) (ascii "P3,25.0,65542\n")
    ∷ is (get_or (sheet_texts (file_of dose_parts) []) 0 []) (ascii "unit=953\n")
    ∷ is (get_or (sheet_texts (file_of dose_parts) []) 6 []) (ascii "result,unit,P1 A,P2 C,P3 Z\n")
    ∷ is (get_or (sheet_texts (file_of dose_parts) []) 8 []) (ascii "overload,s,90,,\n")
    ∷ is (get_or (sheet_texts (file_of dose_parts) []) 17 []) (ascii "LAV,dB,65.9,-0.7,-3275.9\n")
    ∷ is (get_or (sheet_texts (file_of dose_parts) []) 18 []) (ascii "TLAV,dB,66.0,-0.6,-3275.8\n")
    ∷ is (get_or (sheet_texts (file_of spectrum_parts) []) 18 []) (ascii "1,31.5,60.0\n")
    ∷ is (get_or (sheet_texts (file_of spectrum_parts) []) 28 []) (ascii "T1,,61.0\n")
    -- lines, bytes and whether it is finished, by the line number and the room
    ∷ is (sheet_values (file_of third_parts) 0 0 65536) (0 ∷ (0 ∷ (75 ∷ (1054 ∷ (1 ∷ [])))))
    ∷ is (sheet_values (file_of third_parts) 0 0 1024) (0 ∷ (0 ∷ (72 ∷ (1016 ∷ (0 ∷ [])))))
    ∷ is (sheet_values (file_of third_parts) 0 72 1024) (0 ∷ (0 ∷ (3 ∷ (38 ∷ (1 ∷ [])))))
    ∷ is (sheet_values (file_of third_parts) 0 75 1024) (0 ∷ (0 ∷ (0 ∷ (0 ∷ (1 ∷ [])))))
    -- "The order is 1; then file order; then 10; then 11"
    ∷ is (sheet_values (7 ∷ []) 508 0 0) (1 ∷ (0 ∷ []))
    ∷ is (sheet_values (file_of (level_parts ++ level_parts)) 508 0 0) (4 ∷ (141 ∷ []))
    ∷ is (sheet_values (file_of level_parts) 508 0 0) (10 ∷ (0 ∷ []))
    ∷ is (sheet_values (file_of level_parts) 507 0 0) (11 ∷ (0 ∷ []))
    ∷ []
