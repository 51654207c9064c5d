-- The slim form of a text block is by the bytes before its first null alone.
use mathlib.Core.Bool.{Bool, true, false, cond, ◌||◌, false≢true}
use mathlib.Core.List.{List, [], ◌∷◌}
use mathlib.Core.Path.{◌≡◌, refl, sym, ap, ◌∙◌}
use Prim.Native.Nat.{ℕ, ◌+◌, ◌*◌, ◌≤◌}
use native.Mathlib.Omega.{arith}
use lib.Dec.{eqb}
use lib.ListN.{length}
use borrow.Author.Tests.{eqb-true}
use Rattle.words.specs.Words.{low, high, bytes_of}
use Rattle.text.specs.Text.{before_null}
use Rattle.file_rules.specs.Block.{nulled}
use Rattle.file_rules.specs.Slim.{text_of}

pub nulled_some : (t : List ℕ) → nulled t ≡ true → 1 ≤ length t
unfolding nulled
nulled_some [] e = absurd (false≢true e)
nulled_some (w ∷ t) e = omega arith

-- a text as words: "with one or two nulls to fill its word"
unfoldable filled : List ℕ → List ℕ
filled [] = 0 ∷ []
filled (a ∷ []) = a ∷ []
filled (a ∷ (b ∷ text)) = (a + 256 * b) ∷ filled text

text_filled : (t : List ℕ) → nulled t ≡ true → text_of t ≡ filled (before_null (bytes_of t))
unfolding nulled text_of bytes_of before_null filled
text_filled [] e = absurd (false≢true e)
text_filled (w ∷ t) e = go (eqb (low w) 0) refl (eqb (high w) 0) refl e (text_filled t)
  where
    whole : low w + 256 * high w ≡ w
    whole = omega arith

    go : (a : Bool) → eqb (low w) 0 ≡ a → (b : Bool) → eqb (high w) 0 ≡ b → (a || (b || nulled t)) ≡ true → (nulled t ≡ true → text_of t ≡ filled (before_null (bytes_of t)))
        → cond a (0 ∷ []) (cond b (w ∷ []) (w ∷ text_of t)) ≡ filled (cond a [] (low w ∷ cond b [] (high w ∷ before_null (bytes_of t))))
    go true p b q n ih = refl
    go false p true q n ih =
        let z = eqb-true (high w) 0 q in
        let v : w ≡ low w = omega arith in
        ap (λ (x : ℕ). x ∷ []) v
    go false p false q n ih = rw (whole, ih n)

pub text_same : (t t' : List ℕ) → nulled t ≡ true → nulled t' ≡ true → before_null (bytes_of t') ≡ before_null (bytes_of t) → text_of t' ≡ text_of t
text_same t t' n n' e = text_filled t' n' ∙ ap filled e ∙ sym (text_filled t n)
