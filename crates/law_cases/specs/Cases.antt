-- The starred cases of document 01's page, Checked files, in one list: 1 to 5, 8 and 9; "Checked file 3 becomes 3 at 12" (request
-- T-01).
use Rattle.std.specs.Prelude.{List, [], ◌∷◌, ◌++◌, ◌≡◌, ℕ, length, get_or, replicate, Option, None}
use Rattle.words.specs.Words.{words_of, bytes_of}
use Rattle.text.specs.Ascii.{ascii}
use Rattle.units.specs.Level.{level, tenths}
use Rattle.file_walk.specs.Walk.{end_marker}
use Rattle.file_rules.specs.Slim.{Slim}
use Rattle.call_check.specs.Starts.{absent}
use Rattle.call_check.specs.Check.{verdict, values}
use Rattle.call_title.specs.declared.Span.{Span}
use Rattle.call_title.specs.Title.{span, title_at}
use Rattle.call_slim.specs.Copy.{slim_copy, slim_reply, output_by}
use Rattle.sheet_page.specs.Rows.{texts}
use Rattle.sheet_page.specs.Sheet.{result_lines, sheet_texts}
use Rattle.call_sheet.specs.Reply.{sheet_reply}
use Rattle.call_sheet.specs.Reply as Sheet

-- a file's bytes and how many words they are; the numbers of Check's answer; where Title finds the title; the words of the slim
-- copy and how many they are, and the text of the sheet with an empty label, none of a refused file
pub record Case : Type 0 where
  pub file : List ℕ
  pub words : ℕ
  pub values : List ℕ
  pub title : Option Span
  pub slim : List ℕ
  pub slim_words : ℕ
  pub sheet : List ℕ

-- what is said of a file is what the definitions give, where Slim and Sheet have all the room they need
pub record AnsweredAs (c : Case) : Type 0 where
  pub words_are : length (words_of c.file) ≡ c.words
  pub values_are : values (verdict c.file) ≡ c.values
  pub title_is : title_at c.file ≡ c.title
  pub slim_is : words_of (output_by (slim_copy c.file) [] (slim_reply c.file 65536)) ≡ c.slim
  pub slim_has : length (words_of (output_by (slim_copy c.file) [] (slim_reply c.file 65536))) ≡ c.slim_words
  pub sheet_is : Sheet.output_by (sheet_texts c.file []) [] (sheet_reply c.file [] 0 65536) ≡ c.sheet

-- a starred case: a file, or a text that the definitions give beside the page's
pub data Starred : Type 0 where
  file : Case → Starred
  shows : List ℕ → List ℕ → Starred

abbrev pub IsSo : Starred → Type 0
IsSo (file c) = AnsweredAs c
IsSo (shows given text) = given ≡ text

abbrev pub AllSo : List Starred → Type 0
AllSo [] = Unit {0}
AllSo (x ∷ xs) = IsSo x × AllSo xs

-- a refused file of n words, by number and position
unfoldable pub refused : List ℕ → ℕ → ℕ → ℕ → Starred
refused bytes n num at =
    file (record { file = bytes; words = n; values = num ∷ (at ∷ []); title = None; slim = []; slim_words = 0; sheet = [] })

-- ---- the blocks of file 8: "All blocks of least length, .. unstated words 0"

-- "name BUFF1"
unfoldable pub block01 : List ℕ
block01 = 0x0C01 ∷ (0x5542 ∷ (0x4646 ∷ (0x0031 ∷ replicate 8 0)))

-- "number 1234, version 105"
unfoldable pub block02 : List ℕ
block02 = 0x0602 ∷ (1234 ∷ (945 ∷ (105 ∷ replicate 2 0)))

-- "title Hall with two nulls"
unfoldable pub block03 : List ℕ
block03 = 0x0403 ∷ (0x6148 ∷ (0x6C6C ∷ (0x0000 ∷ [])))

-- "function 1"
unfoldable pub block04 : List ℕ
block04 = 0x1704 ∷ (0 ∷ (0 ∷ (1 ∷ replicate 19 0)))

-- a profile, with its filter and its buffer code
unfoldable pub profile : ℕ → ℕ → List ℕ
profile filter code = 0x0606 ∷ (0 ∷ (filter ∷ (code ∷ replicate 2 0)))

-- "filters A C Lin, buffer codes 4 0 1"
unfoldable pub block05 : List ℕ
block05 = 0x1405 ∷ (0x0307 ∷ (profile 2 4 ++ (profile 3 0 ++ profile 1 1)))

-- "step 1 s 0 ms, BuffLength 8"
unfoldable pub block0_f : List ℕ
block0_f = 0x080F ∷ (1 ∷ (0 ∷ (0 ∷ (0 ∷ (0 ∷ (8 ∷ (0 ∷ [])))))))

-- "contents 634, 701, FFFB, 698"
unfoldable pub contents : List ℕ
contents = 634 ∷ (701 ∷ (0xFFFB ∷ (698 ∷ [])))

-- file 8, with these blocks before 0F
unfoldable pub buffer_file : List ℕ → List ℕ
buffer_file more = block01 ++ (block02 ++ (block03 ++ (block04 ++ (block05 ++ (more ++ (block0_f ++ (contents ++ (end_marker ∷ []))))))))

-- "given it on standard input with an empty label, prints"
unfoldable pub nine_lines : List ℕ
nine_lines =
    ascii "unit=945\n"
    ++ ascii "number=1234\n"
    ++ ascii "version=105\n"
    ++ ascii "name=BUFF1\n"
    ++ ascii "function=1\n"
    ++ ascii "title=Hall\n"
    ++ ascii "ms,P1 RMS A,P3 PEAK Lin\n"
    ++ ascii "0,63.4,70.1\n"
    ++ ascii "1000,-0.5,69.8\n"

-- such a file of n words, whose 0F starts at word `at`, is accepted: 0, the function, and the starts of 01, 02, 03, 04, 05, 07,
-- spectrum, 09 and 0F. Its title is the four bytes after the first word of 03, its slim copy the file with no such blocks, and its
-- sheet the nine lines
unfoldable pub accepted : List ℕ → ℕ → ℕ → Starred
accepted more n at =
    file (record {
      file = bytes_of (buffer_file more);
      words = n;
      values = 0 ∷ (1 ∷ (0 ∷ (12 ∷ (18 ∷ (22 ∷ (45 ∷ (absent ∷ (absent ∷ (absent ∷ (at ∷ []))))))))));
      title = span 38 4;
      slim = buffer_file [];
      slim_words = 78;
      sheet = nine_lines;
    })

-- an 07 with these two words for the time of its first profile; "unstated words 0"
unfoldable pub timed : ℕ → ℕ → Slim
timed low high = record { head = 0x2C07 ∷ (0x0307 ∷ []); records = (0x0E08 ∷ (low ∷ (high ∷ replicate 11 0))) ∷ []; contents = [] }

-- its row of times, the second line of its section
unfoldable pub time_shown : ℕ → ℕ → List ℕ
time_shown low high = get_or (texts (result_lines (timed low high ∷ []))) 1 []

unfoldable pub starred : List Starred
starred =
    refused [] 0 2 0
    ∷ refused (7 ∷ []) 0 1 0
    ∷ refused (bytes_of (0xFFFF ∷ [])) 1 4 0
    ∷ refused (bytes_of (0x0C01 ∷ [])) 1 2 0
    ∷ refused (bytes_of (0x0601 ∷ replicate 5 0)) 6 3 0
    ∷ refused (bytes_of (block01 ++ (0x0602 ∷ (0 ∷ (953 ∷ replicate 3 0))))) 18 3 12
    ∷ refused (bytes_of (block01 ++ (0x00AA ∷ (0x0001 ∷ [])))) 14 3 12
    ∷ shows (tenths (level 0xFFFB)) (ascii "-0.5")
    ∷ shows (tenths (level 0x8000)) (ascii "-3276.8")
    ∷ shows (tenths (level 0x7FFF)) (ascii "3276.7")
    ∷ shows (time_shown 0x0001 0x0002) (ascii "time,s,131073,0,0\n")
    ∷ accepted [] 78 65
    ∷ accepted (0x0199 ∷ []) 79 66
    ∷ []
