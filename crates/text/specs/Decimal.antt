-- "Other numbers are unsigned decimal, no leading zeros" (document 01, Words and numbers).
use Rattle.std.specs.Prelude.{List, [], ◌∷◌, ◌++◌, ℕ, zero, suc, ◌+◌, ◌-◌, ◌*◌, ◌/◌, ◌%◌}

-- the last digit of n; 48 is `0`
abbrev pub last_digit : ℕ → List ℕ
last_digit n = (48 + n % 10) ∷ []

-- the digits of n from the first on: those of n / 10 and then the last; none for 0. `steps` that are no fewer than n are enough
unfoldable pub digits : ℕ → ℕ → List ℕ
digits zero n = []
digits (suc steps) zero = []
digits (suc steps) (suc n) = digits steps (suc n / 10) ++ last_digit (suc n)

-- n in decimal: 0 has a digit too
unfoldable pub decimal : ℕ → List ℕ
decimal n = digits (n / 10) (n / 10) ++ last_digit n

-- what a reader makes of digits after the number n
unfoldable pub read : ℕ → List ℕ → ℕ
read n [] = n
read n (d ∷ ds) = read (10 * n + (d - 48)) ds
