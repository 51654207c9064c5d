-- The lines of the bands.
use mathlib.Core.Path.{◌≡◌, refl}
use mathlib.Core.List.{List, [], ◌∷◌, ◌++◌}
use Prim.Native.Nat.{ℕ, ◌+◌, ◌≤◌, ◌<◌}
use native.Mathlib.Numerals.{add-one}
use native.Mathlib.Omega.{arith}
use lib.ListN.{length, get_or, take, length-append}
use lib.Seq.{take-suc}
use Rattle.units.specs.declared.frequency.Centihertz.{Centihertz}
use Rattle.units.specs.Frequency.{thirds}
use Rattle.std.proofs.lemmas.List.{get_or-map}
use Rattle.test_numbers.specs.Rows.{band_line, band_lines}

pub lines_length : length band_lines ≡ 45
unfolding band_lines thirds
lines_length = refl

thirds_length : length thirds ≡ 45
unfolding thirds
thirds_length = refl

pub line_some : (f : Centihertz) → 1 ≤ length (band_line f)
unfolding band_line
line_some f = rw length-append (omega arith)

-- one line more
pub lines_next : (bands : List Centihertz) (i : ℕ) (z : Centihertz) → bands ≡ thirds → i < 45 → take i band_lines ++ (band_line (get_or bands i z) ∷ []) ≡ take (i + 1) band_lines
unfolding band_lines
lines_next bands i z e h =
    let there = get_or-map band_line thirds i z [] (omega (arith, thirds_length)) in
    rw (e, ← there, add-one i, take-suc band_lines i [] (omega (arith, lines_length)))
