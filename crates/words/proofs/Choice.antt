-- What a choice that came out so says of its test.
use mathlib.Core.Path.{◌≡◌, refl}
use mathlib.Core.Bool.{Bool, true, false, cond, ◌&&◌, ◌||◌, true≢false, false≢true}

-- the second way is not what came out, so the test passed
pub cond_first : {A : Type 0} (t : Bool) {a b c : A} → cond t a b ≡ c → (b ≡ c → ⊥) → (t ≡ true) × (a ≡ c)
cond_first true e other = (refl, e)
cond_first false e other = absurd (other e)

-- the first way is not what came out, so the test failed
pub cond_second : {A : Type 0} (t : Bool) {a b c : A} → cond t a b ≡ c → (a ≡ c → ⊥) → (t ≡ false) × (b ≡ c)
cond_second true e other = absurd (other e)
cond_second false e other = (refl, e)

pub and_both : (a b : Bool) → (a && b) ≡ true → (a ≡ true) × (b ≡ true)
and_both true b e = (refl, e)
and_both false b e = absurd (false≢true e)

pub or_neither : (a b : Bool) → (a || b) ≡ false → (a ≡ false) × (b ≡ false)
or_neither true b e = absurd (true≢false e)
or_neither false b e = (refl, e)
