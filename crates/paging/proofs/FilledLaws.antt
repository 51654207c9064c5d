-- Laws of `Filled` where lines come after those that were written: all of them fit and a line more is tried, or one did not
-- fit and nothing is written any more.
use mathlib.Core.Bool.{Bool, true, false, cond}
use mathlib.Core.List.{List, [], ◌∷◌, ◌++◌, append-nil}
use mathlib.Core.Path.{◌≡◌, refl, sym, ap, ◌∙◌}
use Prim.Native.Nat.{ℕ, suc, ◌+◌, ◌-◌, ◌≤◌, ◌<◌, zero-le}
use native.Mathlib.Nat.{zero-add, sub-zero, not-suc-le-zero, le_of_suc-le-suc}
use native.Mathlib.Omega.{arith}
use borrow.Author.Tests.{eq-eqb, ne_eqb, eqb-true, eqb-false, le-leb, lt-leb}
use borrow.Rule.Slice.PartMut.{mid_of, put_mid, put_same}
use lib.Dec.{leb}
use lib.ListN.{length, take, length-append}
use lib.Seq.{take_all}
use Rattle.paging.specs.declared.fit.Progress.{Progress}
use Rattle.std.proofs.lemmas.List.{take-append-le}
use Rattle.std.specs.Prelude.{Some, None}
use Rattle.paging.specs.Fit.{fit, joined, TriedTo, Filled}
use Rattle.text.specs.Text.{Wrote}
use Rattle.paging.proofs.FitLaws.{joined_append}
use Rattle.text.proofs.Writing.{◌then◌, text_is, bounded, rest_length}

-- ---- how many fit

pub fit_le : (room : ℕ) (xs : List (List ℕ)) → fit room xs ≤ length xs
unfolding fit
fit_le room [] = zero-le
fit_le room (l ∷ xs) = go (leb (length l) room) (fit_le (room - length l) xs)
  where
    go : (b : Bool) → fit (room - length l) xs ≤ length xs → cond b (suc (fit (room - length l) xs)) 0 ≤ suc (length xs)
    go true h = omega arith
    go false h = zero-le

-- all of xs fit: those after them have what is left
fit_after : (room : ℕ) (xs ys : List (List ℕ)) → fit room xs ≡ length xs → fit room (xs ++ ys) ≡ length xs + fit (room - length (joined xs)) ys
unfolding fit joined
fit_after room [] ys e = rw (zero-add, sub-zero)
fit_after room (l ∷ xs) ys e = go (leb (length l) room) e (fit_after (room - length l) xs ys)
  where
    go : (b : Bool) → cond b (suc (fit (room - length l) xs)) 0 ≡ suc (length xs)
        → (fit (room - length l) xs ≡ length xs → fit (room - length l) (xs ++ ys) ≡ length xs + fit (room - length l - length (joined xs)) ys)
        → cond b (suc (fit (room - length l) (xs ++ ys))) 0 ≡ suc (length xs) + fit (room - length (l ++ joined xs)) ys
    go false f ih = absurd (omega arith)
    go true f ih =
        let left : room - length l - length (joined xs) ≡ room - length (l ++ joined xs) = rw length-append (omega arith) in
        omega (arith, ih (omega arith), ap (λ (k : ℕ). fit k ys) left)

-- one of xs does not fit: those after it are not asked
fit_stops : (room : ℕ) (xs ys : List (List ℕ)) → fit room xs < length xs → fit room (xs ++ ys) ≡ fit room xs
unfolding fit
fit_stops room [] ys h = absurd (not-suc-le-zero h)
fit_stops room (l ∷ xs) ys h = go (leb (length l) room) h (fit_stops (room - length l) xs ys)
  where
    go : (b : Bool) → cond b (suc (fit (room - length l) xs)) 0 < suc (length xs)
        → (fit (room - length l) xs < length xs → fit (room - length l) (xs ++ ys) ≡ fit (room - length l) xs)
        → cond b (suc (fit (room - length l) (xs ++ ys))) 0 ≡ cond b (suc (fit (room - length l) xs)) 0
    go true f ih = ap suc (ih (le_of_suc-le-suc f))
    go false f ih = refl

-- ---- lists

joined_last : (xs : List (List ℕ)) (l : List ℕ) → joined (xs ++ (l ∷ [])) ≡ joined xs ++ l
unfolding joined
joined_last xs l = joined_append xs (l ∷ []) ∙ ap (λ (t : List ℕ). joined xs ++ t) (append-nil l)

-- ---- what was written

module _ {xs : List (List ℕ)} {d e : List ℕ} {p : Progress} (w : Filled xs d e p) where
  pub filled_all : p.finished ≡ true → p.lines ≡ length xs
  filled_all f = eqb-true p.lines (length xs) (sym w.finished ∙ f)

  pub filled_few : p.lines ≤ length xs
  filled_few = omega (arith, w.most, fit_le (length d) xs)

  pub filled_some : p.finished ≡ false → p.lines < length xs
  filled_some f = omega (arith, eqb-false p.lines (length xs) (sym w.finished ∙ f), w.most, fit_le (length d) xs)

  -- one line did not fit: more lines change nothing
  pub filled_stops : p.finished ≡ false → (ys : List (List ℕ)) → Filled (xs ++ ys) d e p
  filled_stops f ys =
      let some = filled_some f in
      record {
        most = w.most ∙ sym (fit_stops (length d) xs ys (omega (arith, w.most)));
        wrote = text_is w.wrote (ap joined (sym (take-append-le p.lines xs ys (omega arith))));
        finished = f ∙ sym (ne_eqb p.lines (length (xs ++ ys)) (λ q. omega (arith, length-append xs ys)));
      }

  module _ (f : p.finished ≡ true) where
    whole : Wrote (joined xs) (length d) d e p.bytes
    whole = text_is w.wrote (ap joined (ap (λ (k : ℕ). take k xs) (filled_all f) ∙ take_all (length xs) xs (omega arith)))

    onward : (ys : List (List ℕ)) → fit (length d) (xs ++ ys) ≡ p.lines + fit (length d - p.bytes) ys
    onward ys =
        let left : length d - length (joined xs) ≡ length d - p.bytes = omega (arith, whole.counted) in
        omega (arith, filled_all f, fit_after (length d) xs ys (sym w.most ∙ filled_all f), ap (λ (k : ℕ). fit k ys) left)

    -- the next line fits
    pub filled_put : (l g : List ℕ) (m : ℕ) → length e ≡ length d → TriedTo l (mid_of p.bytes (length e - p.bytes) e) g (Some m)
        → Filled (xs ++ (l ∷ [])) d (put_mid p.bytes (length e - p.bytes) e g) (record { lines = p.lines + 1; bytes = p.bytes + m; finished = true })
    unfolding fit
    filled_put l g m same t =
        let room = rest_length p.bytes e in
        let inside : p.bytes + m ≤ length d = omega (arith, t.within, whole.within) in
        let all : p.lines + 1 ≡ length (xs ++ (l ∷ [])) = omega (arith, filled_all f, length-append xs (l ∷ [])) in
        record {
          most = omega (arith, onward (l ∷ []), ap {B = ℕ} (λ b. cond b 1 0) (le-leb (length l) (length d - p.bytes) (omega (arith, t.counted))));
          wrote =
              bounded (text_is (whole then t) (sym (joined_last xs l) ∙ ap joined (sym (take_all (p.lines + 1) (xs ++ (l ∷ [])) (omega arith))))) inside;
          finished = sym (eq-eqb (p.lines + 1) (length (xs ++ (l ∷ []))) all);
        }

    -- the next line does not fit
    pub filled_full : (l g : List ℕ) → length e ≡ length d → TriedTo l (mid_of p.bytes (length e - p.bytes) e) g None → (ys : List (List ℕ))
        → Filled (xs ++ (l ∷ ys)) d (put_mid p.bytes (length e - p.bytes) e g) (record { lines = p.lines; bytes = p.bytes; finished = false })
    unfolding fit
    filled_full l g same t ys =
        let room = rest_length p.bytes e in
        record {
          most = omega (arith, onward (l ∷ ys), ap {B = ℕ} (λ b. cond b (suc (fit (length d - p.bytes - length l) ys)) 0) (lt-leb (length l) (length d - p.bytes) (omega (arith, t.0))));
          wrote =
              rw (t.1, put_same)
              (text_is whole (ap joined (sym (take_all p.lines xs (omega (arith, filled_all f))) ∙ sym (take-append-le p.lines xs (l ∷ ys) (omega (arith, filled_all f))))));
          finished = sym (ne_eqb p.lines (length (xs ++ (l ∷ ys))) (λ q. omega (arith, filled_all f, length-append xs (l ∷ ys))));
        }
