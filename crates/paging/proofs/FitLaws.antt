-- Laws of whole lines: what `fit` means, one line more, and the lines of a list.
use mathlib.Core.Bool.{Bool, true, false, cond}
use mathlib.Core.Path.{◌≡◌, refl, sym, ap, ap₂, ◌∙◌}
use mathlib.Core.List.{List, [], ◌∷◌, ◌++◌, append_assoc}
use Prim.Native.Nat.{ℕ, suc, ◌-◌, ◌≤◌, ◌<◌, zero-le}
use native.Mathlib.Nat.{not-suc-le-zero, le_of_suc-le-suc}
use native.Mathlib.Omega.{arith}
use borrow.Author.Tests.{leb-true, leb-false}
use lib.Dec.{eqb, leb}
use lib.ListN.{length, take, length-append}
use Rattle.paging.specs.declared.fit.Progress.{Progress}
use Rattle.paging.specs.Fit.{fit, joined, Filled}
use Rattle.text.proofs.Writing.{text_is, wrote_one}

-- ---- what `fit` means: n lines fit, and one line more would not

fits_so_far : (room : ℕ) (l : List ℕ) (ls : List (List ℕ)) (b : Bool) (n : ℕ) → leb (length l) room ≡ b
    → length (joined (take n ls)) ≤ room - length l → length (joined (take (cond b (suc n) 0) (l ∷ ls))) ≤ room
unfolding joined
fits_so_far room l ls true n e r = rw length-append (omega (arith, leb-true (length l) room e))
fits_so_far room l ls false n e r = zero-le

pub fit_fits : (room : ℕ) (ls : List (List ℕ)) → length (joined (take (fit room ls) ls)) ≤ room
unfolding fit joined
fit_fits room [] = zero-le
fit_fits room (l ∷ ls) = fits_so_far room l ls (leb (length l) room) (fit (room - length l) ls) refl (fit_fits (room - length l) ls)

one_more_lem : (room : ℕ) (l : List ℕ) (ls : List (List ℕ)) (b : Bool) (n : ℕ) → leb (length l) room ≡ b
    → (n < length ls → room - length l < length (joined (take (suc n) ls)))
    → cond b (suc n) 0 < suc (length ls) → room < length (joined (take (suc (cond b (suc n) 0)) (l ∷ ls)))
unfolding joined
one_more_lem room l ls true n e r h = rw length-append (omega (arith, leb-true (length l) room e, r (le_of_suc-le-suc h)))
one_more_lem room l ls false n e r h = rw length-append (omega (arith, leb-false (length l) room e))

pub fit_most : (room : ℕ) (ls : List (List ℕ)) → fit room ls < length ls → room < length (joined (take (suc (fit room ls)) ls))
unfolding fit
fit_most room [] h = absurd (not-suc-le-zero h)
fit_most room (l ∷ ls) h = one_more_lem room l ls (leb (length l) room) (fit (room - length l) ls) refl (fit_most (room - length l) ls) h

-- ---- lines after lines

pub joined_append : (ls ms : List (List ℕ)) → joined (ls ++ ms) ≡ joined ls ++ joined ms
unfolding joined
joined_append [] ms = refl
joined_append (l ∷ ls) ms = ap (λ t. l ++ t) (joined_append ls ms) ∙ sym (append_assoc l (joined ls) (joined ms))

-- ---- two calls that filled an output with the same lines did the same

pub same_progress : {p q : Progress} → p.lines ≡ q.lines → p.bytes ≡ q.bytes → p.finished ≡ q.finished → p ≡ q
same_progress {p} {q} a b c =
    ap (λ l. record { lines = l; bytes = p.bytes; finished = p.finished }) a
    ∙ ap₂ (λ n f. record { lines = q.lines; bytes = n; finished = f }) b c

pub filled_one : {ls : List (List ℕ)} {d e e' : List ℕ} {p p' : Progress} → Filled ls d e p → Filled ls d e' p' → (e ≡ e') × (p ≡ p')
filled_one {ls} {d} {e} {e'} {p} {p'} f g =
    let lines : p.lines ≡ p'.lines = f.most ∙ sym g.most in
    let w = wrote_one (text_is f.wrote (ap (λ (i : ℕ). joined (take i ls)) lines)) g.wrote in
    let bytes : p.bytes ≡ p'.bytes = w.1 in
    let finished : p.finished ≡ p'.finished = f.finished ∙ ap (λ (i : ℕ). eqb i (length ls)) lines ∙ sym g.finished in
    (w.0, same_progress lines bytes finished)
