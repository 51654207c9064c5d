-- Laws of signed numbers: a word in two's complement, a sum, and a number's size and sign.
use mathlib.Core.Bool.{true, false}
use mathlib.Core.List.{◌∷◌}
use mathlib.Core.Path.{◌≡◌, ap, ap₂}
use Prim.Native.Nat.{ℕ, ◌*◌, ◌≤◌, ◌<◌}
use native.Mathlib.Nat.{not-suc-le-zero, mul-le-mul}
use native.Mathlib.Omega.{arith}
use borrow.Author.Tests.{ltb-true, lt-ltb, le-ltb}
use lib.IntN.{ℤ, pos, negsuc, nat_abs, ◌+ℤ◌, ◌-ℤ◌}
use lib.Signed.{lt_z}
use mir.Syntax.{w16, w32}
use mir.Val.{SFits, to_z}
use Rattle.std.proofs.lemmas.Int.{ints}
use Rattle.units.specs.Level.{signed, fixed, signed_fixed}

-- ---- two's complement

pub signed_low : (w : ℕ) → w < 32768 → signed w ≡ pos w
unfolding signed
signed_low w h = rw (lt-ltb w 32768 h)

pub signed_high : (w : ℕ) → 32768 ≤ w → signed w ≡ pos w -ℤ pos 65536
unfolding signed
signed_high w h = rw (le-ltb w 32768 h)

-- a word's bits with a sign
pub signed_word : (w : ℕ) → w < 65536 → to_z w16 w ≡ signed w
unfolding signed
signed_word w h = grind (arith, ints)

pub high_fits : (w : ℕ) → 32768 ≤ w → w < 65536 → SFits w16 (pos w -ℤ pos 65536)
high_fits w h k = record { sfits = grind (arith, ints) }

pub signed_fits : (w : ℕ) → w < 65536 → SFits w16 (signed w)
signed_fits w h = rw (← signed_word w h) (record { sfits = grind (arith, ints) })

-- ---- a class bound: a level and a product of a class number and a width

pub product : (class width : ℕ) → class < 32768 → width < 65536 → class * width ≤ 2147385345
product class width h k = mul-le-mul {n₂ = 32767} {m₂ = 65535} (omega arith) (omega arith)

pub sum_fits : (z : ℤ) (k : ℕ) → SFits w16 z → k ≤ 2147385345 → SFits w32 (z +ℤ pos k)
sum_fits z k f h = record { sfits = grind (arith, ints, f.sfits) }

-- ---- a number's size and sign

-- the text of tenths by their sign and their size
pub text_negative : (z : ℤ) (n b : ℕ) → b ≡ 45 → lt_z z (pos 0) ≡ true → n ≡ nat_abs z → b ∷ fixed n ≡ signed_fixed z
unfolding signed_fixed
text_negative (pos m) n b s t e = absurd (not-suc-le-zero (ltb-true m 0 t))
text_negative (negsuc m) n b s t e = ap₂ (λ c k. c ∷ fixed k) s e

pub text_positive : (z : ℤ) (n : ℕ) → lt_z z (pos 0) ≡ false → n ≡ nat_abs z → fixed n ≡ signed_fixed z
unfolding signed_fixed
text_positive (pos m) n t e = ap fixed e
text_positive (negsuc m) n t e = cc
