-- Where the listed blocks start: the starts of Check's record (document 01, What the converter takes).
use Rattle.std.specs.Prelude.{List, [], ◌∷◌, ℕ, get_or, set}
use Rattle.file_models.specs.Lists.{lookup}
use Rattle.call_check.specs.declared.starts.Starts.{Starts}

-- "65,535 stands for an absent block"
abbrev pub absent : ℕ
absent = 65535

-- "the start word of each of 01, 02, 03, 04, 05, 07, spectrum (0E or 10), 09 and 0F": the place of each id in the record
abbrev pub places : List (ℕ × ℕ)
places =
    (0x01, 0) ∷ (0x02, 1) ∷ (0x03, 2) ∷ (0x04, 3) ∷ (0x05, 4) ∷ (0x07, 5) ∷ (0x0E, 6) ∷ (0x10, 6) ∷ (0x09, 7) ∷ (0x0F, 8) ∷ []

-- how many they are
abbrev pub place_count : ℕ
place_count = 9

-- an id that has none, as a histogram's, is past the last
unfoldable pub place_of : ℕ → ℕ
place_of id = lookup place_count places id

-- the starts of the record, in the order of their places
abbrev pub starts_in : Starts → List ℕ
starts_in s =
    s.file ∷ s.unit ∷ s.title ∷ s.setup ∷ s.profiles ∷ s.results ∷ s.spectrum ∷ s.statistics ∷ s.logger ∷ []

-- the record of some starts
abbrev pub starts_of : List ℕ → Starts
starts_of at =
    record {
      file = get_or at 0 absent;
      unit = get_or at 1 absent;
      title = get_or at 2 absent;
      setup = get_or at 3 absent;
      profiles = get_or at 4 absent;
      results = get_or at 5 absent;
      spectrum = get_or at 6 absent;
      statistics = get_or at 7 absent;
      logger = get_or at 8 absent;
    }

-- a block with this id starts at word `at`
unfoldable pub noted : Starts → ℕ → ℕ → Starts
noted s id at = starts_of (set (starts_in s) (place_of id) at)
