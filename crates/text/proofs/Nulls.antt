-- A text up to its first null is the front of the bytes that it stands in.
use Rattle.std.proofs.Common.{◌≡◌, ◌==◌, ℕ, ◌+◌, Bool, true, false, cond, List, [], ◌∷◌, length, take, ◌≤◌, Some, None, refl, ◌∙◌, sym, ap, arith}
use Rattle.std.specs.List.{position, position_or_len}
use Rattle.std.proofs.lemmas.List.Recursion.{is_position_or_len}
use lib.Dec.{eqb}
use lib.Seq.{take_all}
use Rattle.std.proofs.lemmas.Bool.Decides.{nat_tests}
use Rattle.text.specs.Text.{before_null}

pub text_front : (bs : List ℕ) → take (length (before_null bs)) bs ≡ before_null bs
unfolding before_null
text_front [] = refl
text_front (b ∷ bs) = go (eqb b 0) (text_front bs)
  where
    go : (t : Bool) → take (length (before_null bs)) bs ≡ before_null bs → take (length (cond t [] (b ∷ before_null bs))) (b ∷ bs) ≡ cond t [] (b ∷ before_null bs)
    go true e = refl
    go false e = ap (λ (l : List ℕ). b ∷ l) e

-- the place of the first null is where the text ends
pub null_at : (bs : List ℕ) → position_or_len (λ b. eqb b 0) bs ≡ length (before_null bs)
unfolding before_null
null_at bs = sym (is_position_or_len (λ l. length (before_null l)) (λ b. eqb b 0) refl step bs)
  where
    go : (t : Bool) (x : ℕ) (xs : List ℕ) → length (cond t [] (x ∷ before_null xs)) ≡ cond t 0 (1 + length (before_null xs))
    go true x xs = refl
    go false x xs = omega arith

    step : (x : ℕ) (xs : List ℕ) → length (cond (eqb x 0) [] (x ∷ before_null xs)) ≡ cond (eqb x 0) 0 (1 + length (before_null xs))
    step x xs = go (eqb x 0) x xs

pub null_first : (bs : List ℕ) (end : ℕ) → Some end ≡ position (λ b. b == 0) bs → take end bs ≡ before_null bs
null_first bs end e =
    let n : end ≡ length (before_null bs) = grind (arith, nat_tests, null_at bs) in
    rw n (text_front bs)

pub null_none : (bs : List ℕ) → None ≡ position (λ b. b == 0) bs → bs ≡ before_null bs
null_none bs e =
    let n : length bs ≤ length (before_null bs) = grind (arith, nat_tests, null_at bs) in
    sym (take_all (length (before_null bs)) bs n) ∙ text_front bs
