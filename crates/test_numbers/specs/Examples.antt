-- Closed examples: a text that the definitions give, beside the text that is expected.
use Rattle.std.specs.Prelude.{List, [], ◌∷◌, map, ℕ, take}
use Rattle.text.specs.Ascii.{ascii}
use Rattle.text.specs.Decimal.{decimal}
use Rattle.paging.specs.Fit.{fit, joined}
use Rattle.units.specs.Frequency.{hundredths, centihertz, octaves}
use Rattle.units.specs.Level.{level, bound, tenths}
use Rattle.text.specs.Text.{shown}
use Rattle.words.specs.Words.{words_of, long_at}
use Rattle.test_numbers.specs.Rows.{band_line, band_lines}

-- the ends of each range, and what is easily got wrong
unfoldable pub examples : List (List ℕ × List ℕ)
examples =
    (decimal 0, ascii "0")
    ∷ (decimal 9, ascii "9")
    ∷ (decimal 10, ascii "10")
    ∷ (decimal 4294967295, ascii "4294967295")
    ∷ (decimal 18446744073709551615, ascii "18446744073709551615")
    ∷ (tenths (level 0x0000), ascii "0.0")
    ∷ (tenths (bound 0x7FFF 16319 65535), ascii "106949843.2")
    ∷ (tenths (bound 0xFF10 3 7), ascii "-21.9")
    ∷ (centihertz (hundredths 80), ascii "0.8")
    ∷ (centihertz (hundredths 125), ascii "1.25")
    ∷ (centihertz (hundredths 3150), ascii "31.5")
    ∷ (centihertz (hundredths 2000000), ascii "20000")
    ∷ (map shown (0x41 ∷ 0x1F ∷ 0x20 ∷ 0x7E ∷ 0x7F ∷ []), ascii "A? ~?")
    ∷ (decimal (long_at (words_of (0x01 ∷ 0x00 ∷ 0x02 ∷ 0x00 ∷ 0xFF ∷ [])) 0), ascii "131073")
    ∷ (joined (take (fit 15 band_lines) band_lines), ascii "0.8\n1\n1.25\n1.6\n")
    ∷ (joined (take (fit 14 band_lines) band_lines), ascii "0.8\n1\n1.25\n")
    ∷ (joined (map band_line octaves), ascii "1\n2\n4\n8\n16\n31.5\n63\n125\n250\n500\n1000\n2000\n4000\n8000\n16000\n")
    ∷ []
