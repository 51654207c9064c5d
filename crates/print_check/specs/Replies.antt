-- The line that is printed of an answer of Check:
--     refused 5 at 14
--     accepted function=1 01=0 02=12 03=18 04=22 05=45 07=65535 spectrum=65535 09=65535 0F=65
-- "Ids are hexadecimal", numbers "are unsigned decimal, no leading zeros", "65,535 stands for an absent block" (document 01).
use mathlib.Core.List.{List, [], ◌∷◌, ◌++◌, flat_map}
use Rattle.std.specs.Prelude.{ℕ, get_or, Result, Ok, Err}
use Rattle.words.specs.Numbers.{numbers_from}
use Rattle.text.specs.Ascii.{ascii}
use Rattle.text.specs.Decimal.{decimal}
use Rattle.text.specs.Text.{named}
use Rattle.file_refusal.specs.declared.Refusal.{Refusal}
use Rattle.call_check.specs.declared.starts.Starts.{Starts}
use Rattle.call_check.specs.Starts.{absent, place_count, starts_in}
use Rattle.call_check.specs.declared.check.Outline.{Outline}

-- "`refused N at P` and 0A" (document 01, Checked files)
unfoldable pub refusal_line : Refusal → List ℕ
refusal_line r = ascii "refused " ++ decimal r.num ++ (ascii " at " ++ decimal r.at ++ ascii "\n")

-- ` 02=12`: a key, with the blank in front of it and the sign after it, and its number
unfoldable pub entry : List ℕ → ℕ → List ℕ
entry key n = key ++ decimal n

-- the keys of the starts, by their places in the record
unfoldable pub keys : List (ℕ × List ℕ)
keys =
    (0, ascii " 01=")
    ∷ (1, ascii " 02=")
    ∷ (2, ascii " 03=")
    ∷ (3, ascii " 04=")
    ∷ (4, ascii " 05=")
    ∷ (5, ascii " 07=")
    ∷ (6, ascii " spectrum=")
    ∷ (7, ascii " 09=")
    ∷ (8, ascii " 0F=")
    ∷ []

-- the key of a place, and the start that stands there
unfoldable pub start_entry : Starts → ℕ → List ℕ
start_entry s place = entry (named keys place) (get_or (starts_in s) place absent)

-- "The record holds the function, and the start word of each of 01, 02, 03, 04, 05, 07, spectrum (0E or 10), 09 and 0F" (document 01)
unfoldable pub acceptance : Outline → List ℕ
acceptance r = ascii "accepted" ++ entry (ascii " function=") r.function ++ flat_map (start_entry r.starts) (numbers_from 0 place_count) ++ ascii "\n"

unfoldable pub reply : Result Outline Refusal → List ℕ
reply (Ok r) = acceptance r
reply (Err r) = refusal_line r
