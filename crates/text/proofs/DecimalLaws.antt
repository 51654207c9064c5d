-- Laws of `decimal`: how many digits a number has, and a loop that writes them from the last to the first.
--     begin    no digit is written yet
--     turn     a digit more, in front of those that are written, and a tenth of the number
--     done     no digit is left
use mathlib.Core.Path.{◌≡◌, refl, ap, ◌∙◌}
use mathlib.Core.List.{List, [], ◌∷◌, ◌++◌, append_assoc}
use Prim.Native.Nat.{ℕ, zero, suc, ◌+◌, ◌*◌, ◌/◌, ◌%◌, ◌^◌, ◌≤◌, ◌<◌, max}
use native.Mathlib.Nat.{le_refl, not-suc-le-zero, le_of_suc-le-suc, pow-suc}
use native.Mathlib.Numerals.{add-one}
use native.Mathlib.Omega.{arith}
use lib.ListN.{length, drop, set, length-append}
use Rattle.text.specs.Decimal.{last_digit, digits, decimal}
use Rattle.text.specs.Text.{over, Wrote}

-- ---- how many digits

-- a number below 10 ^ k has at most k digits
digits_length : (k j n : ℕ) → n < 10 ^ k → length (digits j n) ≤ k
unfolding digits
digits_length k zero n h = omega arith
digits_length k (suc j) zero h = omega arith
digits_length zero (suc j) (suc n) h = absurd (not-suc-le-zero (le_of_suc-le-suc h))
digits_length (suc k) (suc j) (suc n) h =
    rw length-append (omega (arith, digits_length k j (suc n / 10) (omega (arith, pow-suc 10 k))))

pub decimal_length : (k n : ℕ) → n < 10 ^ suc k → length (decimal n) ≤ suc k
unfolding decimal
decimal_length k n h = rw length-append (omega (arith, digits_length k (n / 10) (n / 10) (omega (arith, pow-suc 10 k))))

power_some : (k : ℕ) → 0 < 10 ^ k
power_some zero = omega arith
power_some (suc k) = omega (arith, pow-suc 10 k, power_some k)

-- a number that is no less has more
digits_more : (k j n : ℕ) → 10 ^ k ≤ n → n ≤ j → k < length (digits j n)
unfolding digits
digits_more k zero n h l = absurd (omega (arith, power_some k))
digits_more k (suc j) zero h l = absurd (omega (arith, power_some k))
digits_more zero (suc j) (suc n) h l = rw length-append (omega arith)
digits_more (suc k) (suc j) (suc n) h l =
    rw length-append (omega (arith, digits_more k j (suc n / 10) (omega (arith, pow-suc 10 k)) (omega arith)))

decimal_more : (k n : ℕ) → 10 ^ k ≤ max n 1 → k < length (decimal n)
unfolding decimal
decimal_more zero n h = rw length-append (omega arith)
decimal_more (suc k) n h =
    rw length-append (omega (arith, digits_more k (n / 10) (n / 10) (omega (arith, pow-suc 10 k, power_some k)) (le_refl (n / 10))))

pub decimal_count : (k n some : ℕ) → some ≡ max n 1 → 10 ^ k ≤ some → some < 10 * 10 ^ k → k + 1 ≡ length (decimal n)
decimal_count k n some e h l = omega (arith, decimal_more k n (omega arith), decimal_length k n (omega (arith, pow-suc 10 k)))

-- ---- from the last digit to the first

-- the `many` digits of n that are still to be written
unfoldable pub left : ℕ → ℕ → List ℕ
left zero n = []
left (suc many) n = decimal n

-- steps that are no fewer than the number are enough
digits_enough : (k j n : ℕ) → n ≤ k → n ≤ j → digits k n ≡ digits j n
unfolding digits
digits_enough zero zero n hk hj = refl
digits_enough zero (suc j) zero hk hj = refl
digits_enough zero (suc j) (suc n) hk hj = absurd (not-suc-le-zero hk)
digits_enough (suc k) zero zero hk hj = refl
digits_enough (suc k) zero (suc n) hk hj = absurd (not-suc-le-zero hj)
digits_enough (suc k) (suc j) zero hk hj = refl
digits_enough (suc k) (suc j) (suc n) hk hj = ap (λ l. l ++ last_digit (suc n)) (digits_enough k j (suc n / 10) (omega arith) (omega arith))

left_digits : (many n : ℕ) → length (digits n n) ≡ many → left many n ≡ digits n n
unfolding left digits decimal
left_digits zero zero h = refl
left_digits zero (suc n) h = absurd (omega (arith, length-append (digits n (suc n / 10)) (last_digit (suc n))))
left_digits (suc many) zero h = absurd (omega arith)
left_digits (suc many) (suc n) h = ap (λ l. l ++ last_digit (suc n)) (digits_enough (suc n / 10) n (suc n / 10) (le_refl (suc n / 10)) (omega arith))

drop_set : (l : List ℕ) (i b : ℕ) → i < length l → drop i (set l i b) ≡ b ∷ drop (suc i) l
drop_set [] i b h = absurd (not-suc-le-zero h)
drop_set (x ∷ l) zero b h = refl
drop_set (x ∷ l) (suc i) b h = drop_set l i b (le_of_suc-le-suc h)

-- `many` digits of n are left, and those after them stand at the place `many` of `after`
pub record Left (text before after : List ℕ) (many n : ℕ) : Type 0 where
  pub long : length (left many n) ≡ many
  pub out : left many n ++ drop many after ≡ over text before

pub begin : (v many : ℕ) (before : List ℕ) → many + 1 ≡ length (decimal v) → Left (decimal v) before before (many + 1) v
unfolding left
begin v many before h = rw add-one (record { long = omega arith; out = rw (← h, add-one) })

pub turn : {text before after : List ℕ} (many n b : ℕ) → Left text before after (suc many) n → many < length after → b ≡ 48 + n % 10
    → Left text before (set after many b) many (n / 10)
unfolding left decimal
turn {after = after} many n b s h e =
    let before_last = digits (n / 10) (n / 10) in
    let fewer : length before_last ≡ many = omega (arith, s.long, length-append before_last (last_digit n)) in
    let same = left_digits many (n / 10) fewer in
    record {
      long = ap length same ∙ fewer;
      out = rw (same, drop_set after many b h, e) (rw append_assoc at s.out);
    }

pub done : {text before after : List ℕ} {many : ℕ} (n : ℕ) → Left text before after 0 n → many ≡ length text → Wrote text (length text) before after many
unfolding left
done n s h = record { out = s.out; counted = h; within = omega arith }
