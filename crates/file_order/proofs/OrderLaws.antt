-- What is due where one block alone is, and what is due after any block.
use mathlib.Core.Bool.{Bool, true, false, or_self}
use mathlib.Core.List.{List, [], ◌∷◌}
use mathlib.Core.Path.{◌≡◌, refl}
use Prim.Native.Nat.{ℕ}
use lib.Dec.{eqb}
use lib.ListN.{get_or}
use borrow.Author.Tests.{eqb-true}
use Rattle.file_walk.specs.Walk.{end_marker}
use Rattle.file_models.proofs.ListLaws.{all, found_passes}
use Rattle.file_rules.specs.Sound.{every}
use Rattle.file_rules.proofs.SoundRows.{said}
use Rattle.file_order.specs.declared.setup.Setup.{Setup}
use Rattle.file_order.specs.declared.order.Due.{Due}
use Rattle.file_order.specs.Order.{only, is_due, passed_over, due_after_profiles, due_after_results, order, due_after}

pub only_due : (k key : ℕ) → is_due (only k) key ≡ true → key ≡ k
unfolding is_due
only_due k key e = eqb-true key k (simp or_self at e)

pub only_passes : (k : ℕ) → eqb k 0x01 ≡ false → passed_over (only k) ≡ only k
unfolding passed_over
only_passes k h = simp h

-- a test of the whole order in a model and for a function, and in both models for 1 (as for any other), 2 and 3
abbrev pub order_test : (ℕ → Due → Bool) → ℕ → ℕ → Bool
order_test f model function = all f (order (record { model = model; function = function; bands = 0; profiles = 0; first = 0; second = 0; third = 0 }))

abbrev pub order_tests : (ℕ → Due → Bool) → List Bool
order_tests f = order_test f 945 1 ∷ order_test f 945 2 ∷ order_test f 945 3 ∷ order_test f 953 1 ∷ order_test f 953 2 ∷ order_test f 953 3 ∷ []

-- what it says of every entry, and of the end marker alone, it says of what is due after any block
pub after_passes : (f : ℕ → Due → Bool) → every (order_tests f) ≡ true → (s : Setup) (key : ℕ) → f key (only end_marker) ≡ true → f key (due_after s key) ≡ true
unfolding due_after due_after_profiles due_after_results
after_passes f e s key = found_passes f (order s) (go (eqb s.model 953) (eqb s.function 2) (eqb s.function 3) refl refl refl) key
  where
    test : (k : ℕ) → get_or (order_tests f) k true ≡ true
    test = said (order_tests f) e

    go : (t u v : Bool) → eqb s.model 953 ≡ t → eqb s.function 2 ≡ u → eqb s.function 3 ≡ v → all f (order s) ≡ true
    go false false false p q r = rw (p, q, r) (test 0)
    go false true v p q r = rw (p, q) (test 1)
    go false false true p q r = rw (p, q, r) (test 2)
    go true false false p q r = rw (p, q, r) (test 3)
    go true true v p q r = rw (p, q) (test 4)
    go true false true p q r = rw (p, q, r) (test 5)
