-- Lists of what numbers stand for, each number written once.
use Rattle.std.specs.Prelude.{cond, List, [], ◌∷◌, ℕ, eqb}

-- what a list has for a number, or else the first argument
abbrev pub lookup : {A : Type 0} → A → List (ℕ × A) → ℕ → A
lookup none [] k = none
lookup none (e ∷ es) k = cond (eqb k e.0) e.1 (lookup none es k)
