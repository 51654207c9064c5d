-- Laws of `Wrote`: how writers are put one after another.
--     _then_     u at the front, and then v at the front of what is left, is u ++ v at the front
--     at_most    a bound may be raised
use mathlib.Core.Path.{◌≡◌, refl, sym, ap, ◌∙◌, subst}
use mathlib.Core.List.{List, [], ◌∷◌, ◌++◌, append_assoc, append-nil, map}
use Prim.Native.Nat.{ℕ, ◌+◌, ◌-◌, ◌≤◌, ◌<◌}
use native.Mathlib.Nat.{le_refl, not-suc-le-zero, le_of_suc-le-suc, sub-zero}
use native.Mathlib.Numerals.{add-one}
use native.Mathlib.Omega.{arith}
use lib.ListN.{length, get_or, set, take, drop, length-append, length-drop, drop_of_length-le, length-map, get_or-map}
use lib.Seq.{take_all, take-suc, take-append_seam, drop-append_seam, drop-drop}
use borrow.Rule.Slice.PartMut.{mid_of, put_mid}
use Rattle.text.specs.Text.{over, Wrote}

-- a part `&mut d[n..]` is lent as `mid_of n (length d - n) d`, and comes back by `put_mid`
pub rest : (n : ℕ) (d : List ℕ) → mid_of n (length d - n) d ≡ drop n d
rest n d = take_all (length d - n) (drop n d) (simp length-drop (le_refl _))

pub rest_length : (n : ℕ) (d : List ℕ) → length (mid_of n (length d - n) d) ≡ length d - n
rest_length n d = ap length (rest n d) ∙ length-drop n d

pub put_rest : (n : ℕ) (d e : List ℕ) → put_mid n (length d - n) d e ≡ take n d ++ e
put_rest n d e = ap (λ (l : List ℕ). take n d ++ l) (ap (λ (l : List ℕ). e ++ l) (drop_of_length-le (drop n d) {i = length d - n} (simp length-drop (le_refl _))) ∙ append-nil e)

pub over_over : (u v d : List ℕ) → u ++ over v (drop (length u) d) ≡ over (u ++ v) d
over_over u v d = simp (append_assoc, drop-drop, length-append)

infixl 20 ◌then◌
pub ◌then◌ : {u v d d₁ e : List ℕ} {n m p q : ℕ} → Wrote u p d d₁ n → Wrote v q (mid_of n (length d₁ - n) d₁) e m
    → Wrote (u ++ v) (p + q) d (put_mid n (length d₁ - n) d₁ e) (n + m)
◌then◌ {u} {v} {d} {d₁} {e} {n} {m} w x = record {
  out =
      put_rest n d₁ e
      ∙ rw (x.out, rest, w.counted, w.out, take-append_seam, drop-append_seam) (over_over u v d);
  counted = rw length-append (omega arith);
  within = omega arith;
}

-- one byte more, stored past what was written: what a loop that writes byte by byte does in a turn
set_over : (t d : List ℕ) (b : ℕ) → length t < length d → set (over t d) (length t) b ≡ over (t ++ (b ∷ [])) d
set_over [] [] b h = absurd (not-suc-le-zero h)
set_over [] (x ∷ d) b h = refl
set_over (a ∷ t) [] b h = absurd (not-suc-le-zero h)
set_over (a ∷ t) (x ∷ d) b h = ap (λ (l : List ℕ). a ∷ l) (set_over t d b (le_of_suc-le-suc h))

pub push : {t d e : List ℕ} {n p : ℕ} (b : ℕ) → Wrote t p d e n → n < length d → Wrote (t ++ (b ∷ [])) (p + 1) d (set e n b) (n + 1)
push {t} {d} {e} {n} {p} b w h = record {
  out = rw (w.out, w.counted) (set_over t d b (omega arith));
  counted = rw length-append (omega arith);
  within = omega arith;
}

pub nothing : (d : List ℕ) → Wrote [] 0 d d 0
nothing d = record { out = refl; counted = refl; within = le_refl 0 }

-- a text may be said another way
pub text_is : {t u d e : List ℕ} {n p : ℕ} → Wrote t p d e n → t ≡ u → Wrote u p d e n
text_is {d = d} {e} {n} {p} w h = subst (λ (x : List ℕ). Wrote x p d e n) h w

-- one element more of a list whose elements go through f
pub map_more : (f : ℕ → ℕ) (l : List ℕ) (i b : ℕ) → i < length l → b ≡ f (get_or l i 0) → take i (map f l) ++ (b ∷ []) ≡ take (i + 1) (map f l)
map_more f l i b h e = rw (add-one, take-suc (map f l) i (f 0) (rw length-map h), get_or-map f l i 0, e)

pub map_all : (f : ℕ → ℕ) (l : List ℕ) (n : ℕ) → length l ≤ n → take n (map f l) ≡ map f l
map_all f l n h = take_all n (map f l) (rw length-map h)

pub at_most : {u d e : List ℕ} {n p q : ℕ} → Wrote u p d e n → p ≤ q → Wrote u q d e n
at_most w h = record { out = w.out; counted = w.counted; within = omega arith }

pub bounded : {u d e : List ℕ} {n p q : ℕ} → Wrote u p d e n → n ≤ q → Wrote u q d e n
bounded w h = record { out = w.out; counted = w.counted; within = h }

-- nothing is longer or shorter for what was written
pub same_room : {u d e : List ℕ} {n p : ℕ} → Wrote u p d e n → n ≤ length d → length e ≡ length d
same_room {u} {d} w h = rw (w.out, length-append, length-drop) (omega arith)

-- two calls that wrote the same did the same
pub wrote_one : {u d e e' : List ℕ} {n n' p p' : ℕ} → Wrote u p d e n → Wrote u p' d e' n' → (e ≡ e') × (n ≡ n')
wrote_one w x = (w.out ∙ sym x.out, w.counted ∙ sym x.counted)

-- what was written stands at the front
pub front : {u d e : List ℕ} {n p : ℕ} → Wrote u p d e n → take n e ≡ u
front {u} {d} w = rw (w.out, w.counted) (take-append_seam u (drop (length u) d))

-- the same as the part `&scratch[0..n]` has it
pub front_part : {u d e : List ℕ} {n p : ℕ} → Wrote u p d e n → take (n - 0) e ≡ u
front_part {e = e} {n} w = ap (λ (k : ℕ). take k e) (sub-zero n) ∙ front w
