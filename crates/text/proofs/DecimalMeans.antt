-- What `decimal` means: its bytes are digits, it reads back as its number, and but for 0 its first digit is no zero.
use mathlib.Core.Path.{◌≡◌, refl, ◌∙◌}
use mathlib.Core.List.{List, [], ◌∷◌, ◌++◌, append_assoc}
use Prim.Native.Nat.{ℕ, zero, suc, ◌+◌, ◌-◌, ◌*◌, ◌/◌, ◌%◌, ◌≤◌, ◌<◌, suc-le-suc}
use native.Mathlib.Nat.{le_refl, not-suc-le-zero, le_of_suc-le-suc}
use native.Mathlib.Omega.{arith}
use lib.ListN.{length, get_or}
use Rattle.text.specs.Decimal.{last_digit, digits, decimal, read}

-- ---- its bytes are `0` to `9`

abbrev pub Digits : List ℕ → Type 0
Digits l = (i : ℕ) → i < length l → (48 ≤ get_or l i 0) × (get_or l i 0 ≤ 57)

and_last : (s : List ℕ) (n : ℕ) → Digits s → Digits (s ++ last_digit n)
and_last [] n d zero h = (omega arith, omega arith)
and_last [] n d (suc i) h = absurd (omega arith)
and_last (x ∷ s) n d zero h = d zero (omega arith)
and_last (x ∷ s) n d (suc i) h = and_last s n (λ j k. d (suc j) (suc-le-suc k)) i (le_of_suc-le-suc h)

digits_digits : (k n : ℕ) → Digits (digits k n)
unfolding digits
digits_digits zero n i h = absurd (not-suc-le-zero h)
digits_digits (suc k) zero i h = absurd (not-suc-le-zero h)
digits_digits (suc k) (suc n) i h = and_last (digits k (suc n / 10)) (suc n) (digits_digits k (suc n / 10)) i h

pub decimal_digits : (n : ℕ) → Digits (decimal n)
unfolding decimal
decimal_digits n = and_last (digits (n / 10) (n / 10)) n (digits_digits (n / 10) (n / 10))

-- ---- it reads back

read_append : (n : ℕ) (s t : List ℕ) → read n (s ++ t) ≡ read (read n s) t
unfolding read
read_append n [] t = refl
read_append n (d ∷ s) t = read_append (10 * n + (d - 48)) s t

read_last : (s : List ℕ) (n : ℕ) → read 0 s ≡ n / 10 → read 0 (s ++ last_digit n) ≡ n
unfolding read
read_last s n e = read_append 0 s (last_digit n) ∙ omega (arith, e)

read_digits : (k n : ℕ) → n ≤ k → read 0 (digits k n) ≡ n
unfolding digits read
read_digits zero n h = omega arith
read_digits (suc k) zero h = refl
read_digits (suc k) (suc n) h = read_last (digits k (suc n / 10)) (suc n) (read_digits k (suc n / 10) (omega arith))

pub decimal_reads : (n : ℕ) → read 0 (decimal n) ≡ n
unfolding decimal
decimal_reads n = read_last (digits (n / 10) (n / 10)) n (read_digits (n / 10) (n / 10) (le_refl (n / 10)))

-- ---- no leading zeros

digits_none : (k : ℕ) → digits k 0 ≡ []
unfolding digits
digits_none zero = refl
digits_none (suc k) = refl

-- the digits of q = m / 10 before the last one of m
before_last : (k q m : ℕ) (t : List ℕ) → q ≡ m / 10 → 0 < m → ((t : List ℕ) → 0 < q → 48 < get_or (digits k q ++ t) 0 0)
    → 48 < get_or (digits k q ++ ((48 + m % 10) ∷ t)) 0 0
before_last k zero m t e h ahead = rw (digits_none k) (omega arith)
before_last k (suc q) m t e h ahead = ahead ((48 + m % 10) ∷ t) (omega arith)

first_digit : (k n : ℕ) (t : List ℕ) → n ≤ k → 0 < n → 48 < get_or (digits k n ++ t) 0 0
unfolding digits
first_digit zero n t h s = omega arith
first_digit (suc k) zero t h s = omega arith
first_digit (suc k) (suc n) t h s =
    rw (append_assoc (digits k (suc n / 10)) (last_digit (suc n)) t)
    (before_last k (suc n / 10) (suc n) t refl s (λ t q. first_digit k (suc n / 10) t (omega arith) q))

pub no_leading_zero : (n : ℕ) → 0 < n → 48 < get_or (decimal n) 0 0
unfolding decimal
no_leading_zero n h = before_last (n / 10) (n / 10) n [] refl h (λ t q. first_digit (n / 10) (n / 10) t (le_refl (n / 10)) q)
