-- Each closed example holds.
use mathlib.Core.Path.{◌≡◌, refl}
use mathlib.Core.List.{map}
use Rattle.text.specs.Decimal.{digits, decimal}
use Rattle.paging.specs.Fit.{fit, joined}
use Rattle.units.specs.Frequency.{fraction, centihertz, octaves, thirds}
use Rattle.units.specs.Level.{signed, level, bound, fixed, signed_fixed, tenths}
use Rattle.words.specs.Words.{words_of, long_at}
use Rattle.test_numbers.specs.Rows.{band_line, band_lines}
use Rattle.test_numbers.specs.Examples.{examples}

pub examples_hold : map (λ p. p.0) examples ≡ map (λ p. p.1) examples
unfolding examples decimal digits tenths signed_fixed fixed signed level bound centihertz fraction octaves thirds fit joined band_line band_lines words_of long_at
examples_hold = refl
