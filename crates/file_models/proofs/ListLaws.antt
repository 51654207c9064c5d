-- What is found in a list of what numbers stand for.
use mathlib.Core.Bool.{Bool, true, false, cond, ◌&&◌}
use mathlib.Core.List.{List, [], ◌∷◌}
use mathlib.Core.Path.{◌≡◌, refl}
use Prim.Native.Nat.{ℕ}
use lib.Dec.{eqb}
use borrow.Author.Tests.{eqb-true, ne_eqb}
use Rattle.words.proofs.Choice.{and_both}
use Rattle.text.proofs.NameLaws.{Others, others_front}
use Rattle.file_models.specs.Lists.{lookup}

-- a test of every entry
abbrev pub all : {A : Type 0} → (ℕ → A → Bool) → List (ℕ × A) → Bool
all f [] = true
all f (e ∷ es) = f e.0 e.1 && all f es

-- what a test says of every entry, and of what stands for the others, it says of what is found
pub found_passes : {A : Type 0} (f : ℕ → A → Bool) {none : A} (es : List (ℕ × A)) → all f es ≡ true → (k : ℕ) → f k none ≡ true → f k (lookup none es k) ≡ true
found_passes f [] e k n = n
found_passes f {none} (x ∷ es) e k n = go (eqb k x.0) refl (found_passes f es p.1 k n)
  where
    p : (f x.0 x.1 ≡ true) × (all f es ≡ true)
    p = and_both (f x.0 x.1) (all f es) e

    go : (t : Bool) → eqb k x.0 ≡ t → f k (lookup none es k) ≡ true → f k (cond t x.1 (lookup none es k)) ≡ true
    go true q ih = rw (eqb-true k x.0 q) p.0
    go false q ih = ih

-- nothing is found for a number that the list has not
pub found_none : {A : Type 0} (none : A) (N : Type 0) (es : List (ℕ × A)) (k : ℕ) → Others N es k → lookup none es k ≡ none
found_none none N [] k h = refl
found_none none N (e ∷ es) k h =
    let M = N × (k ≡ e.0 → ⊥) in
    rw (ne_eqb k e.0 (others_front M es k h).1) (found_none none M es k h)
