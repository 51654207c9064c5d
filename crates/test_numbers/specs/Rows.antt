-- The lines of the 1/3 octave bands.
use Rattle.std.specs.Prelude.{List, ◌++◌, map, ℕ}
use Rattle.text.specs.Ascii.{ascii}
use Rattle.units.specs.Frequency.{centihertz, thirds}
use Rattle.units.specs.declared.frequency.Centihertz.{Centihertz}

unfoldable pub band_line : Centihertz → List ℕ
band_line f = centihertz f ++ ascii "\n"

unfoldable pub band_lines : List (List ℕ)
band_lines = map band_line thirds
