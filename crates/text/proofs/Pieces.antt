-- Laws of a loop that writes a text for each element of a list: `Pieces` is what holds where the loop is tested.
--     begin     nothing is written yet
--     next      a text more
--     ended     there is no next element
use mathlib.Core.Path.{◌≡◌, refl, sym, ap, ◌∙◌}
use mathlib.Core.List.{List, [], ◌∷◌, ◌++◌, append_assoc, append-nil, flat_map}
use Prim.Native.Nat.{ℕ, ◌+◌, ◌-◌, ◌*◌, ◌≤◌, ◌<◌, zero-le}
use native.Mathlib.Nat.{mul-le-mul_left}
use native.Mathlib.Numerals.{add-one}
use native.Mathlib.Omega.{arith}
use borrow.Rule.Slice.PartMut.{mid_of, put_mid}
use lib.ListN.{length, get_or, take}
use lib.Seq.{take-suc, take_all}
use Rattle.text.specs.Text.{Wrote}
use Rattle.text.proofs.Writing.{nothing, ◌then◌, text_is, at_most, same_room}

pub flat_append : {A : Type 0} (f : A → List ℕ) (xs ys : List A) → flat_map f (xs ++ ys) ≡ flat_map f xs ++ flat_map f ys
unfolding flat_map
flat_append f [] ys = refl
flat_append f (x ∷ xs) ys = ap (λ (l : List ℕ). f x ++ l) (flat_append f xs ys) ∙ sym (append_assoc (f x) (flat_map f xs) (flat_map f ys))

-- one text more
flat_more : (f : ℕ → List ℕ) (xs : List ℕ) (i : ℕ) → i < length xs → flat_map f (take i xs) ++ f (get_or xs i 0) ≡ flat_map f (take (i + 1) xs)
unfolding flat_map
flat_more f xs i h = rw (add-one, take-suc xs i 0, flat_append f (take i xs) (get_or xs i 0 ∷ []), append-nil)

-- the texts of i elements, of at most `most` bytes each, are written
pub record Pieces (f : ℕ → List ℕ) (most : ℕ) (xs : List ℕ) (before after : List ℕ) (at i : ℕ) : Type 0 where
  pub some : i ≤ length xs
  pub same : length after ≡ length before
  pub wrote : Wrote (flat_map f (take i xs)) (most * i) before after at

module _ (f : ℕ → List ℕ) (most : ℕ) (xs : List ℕ) where
  pub begin : (d : List ℕ) → Pieces f most xs d d 0 0
  unfolding flat_map
  begin d = record { some = zero-le; same = refl; wrote = at_most (nothing d) zero-le }

  pub next : {d e g : List ℕ} {at i n x : ℕ} → Pieces f most xs d e at i → i < length xs → most * length xs ≤ length d → x ≡ get_or xs i 0
      → Wrote (f x) most (mid_of at (length e - at) e) g n → Pieces f most xs d (put_mid at (length e - at) e g) (at + n) (i + 1)
  next {d} {e} {g} {at} {i} {n} {x} s h room q w =
      let wrote : Wrote (flat_map f (take (i + 1) xs)) (most * (i + 1)) d (put_mid at (length e - at) e g) (at + n) =
      at_most (text_is (s.wrote then w) (rw q (flat_more f xs i h))) (omega arith) in
      record {
        some = omega arith;
        same = same_room wrote (omega (arith, wrote.within, mul-le-mul_left {m = i + 1} {n = length xs} most (omega arith)));
        wrote = wrote;
      }

  pub ended : {d e : List ℕ} {at i q : ℕ} → Pieces f most xs d e at i → length xs ≤ i → most * length xs ≤ q → Wrote (flat_map f xs) q d e at
  ended {i = i} s h m =
      at_most (text_is s.wrote (ap (flat_map f) (take_all i xs h))) (omega (arith, mul-le-mul_left {m = i} {n = length xs} most s.some))
