-- The text of a text block, by its words and by its bytes.
use mathlib.Core.Bool.{Bool, true, false, cond, ◌||◌, false≢true}
use mathlib.Core.Path.{◌≡◌, refl, sym, ap, ◌∙◌}
use mathlib.Core.List.{List, [], ◌∷◌, ◌++◌}
use Prim.Native.Nat.{ℕ, suc, ◌+◌, ◌-◌, ◌*◌, ◌/◌, ◌%◌, ◌≤◌, ◌<◌}
use native.Mathlib.Nat.{le_refl}
use native.Mathlib.Omega.{arith}
use lib.Dec.{eqb}
use lib.ListN.{length, take, drop, length-append, length-drop}
use lib.Seq.{length-take-le}
use borrow.Author.Tests.{eqb-true}
use Rattle.words.specs.Words.{low, high, bytes_of, Holds}
use Rattle.words.proofs.WordLaws.{bytes_length}
use Rattle.text.specs.Text.{before_null}
use Rattle.file_rules.specs.Block.{nulled}
use Rattle.file_rules.specs.Slim.{counted, text_of, cut_text}

-- one or two nulls, after a text of n bytes
abbrev pub nulls : ℕ → List ℕ
nulls n = take (2 - n % 2) (0 ∷ 0 ∷ [])

pub text_bytes : (ws : List ℕ) → nulled ws ≡ true → bytes_of (text_of ws) ≡ before_null (bytes_of ws) ++ nulls (length (before_null (bytes_of ws)))
unfolding bytes_of text_of before_null nulled
text_bytes [] h = absurd (false≢true h)
text_bytes (w ∷ ws) h = go (eqb (low w) 0) (eqb (high w) 0) refl h (text_bytes ws)
  where
    t : List ℕ
    t = before_null (bytes_of ws)

    even : suc (suc (length t)) % 2 ≡ length t % 2
    even = omega arith

    go : (x y : Bool) → eqb (high w) 0 ≡ y → (x || (y || nulled ws)) ≡ true → (nulled ws ≡ true → bytes_of (text_of ws) ≡ t ++ nulls (length t))
        → bytes_of (cond x (0 ∷ []) (cond y (w ∷ []) (w ∷ text_of ws))) ≡ cond x [] (low w ∷ cond y [] (high w ∷ t)) ++ nulls (length (cond x [] (low w ∷ cond y [] (high w ∷ t))))
    go true y e n more = refl
    go false true e n more = rw (eqb-true (high w) 0 e)
    go false false e n more = rw (even, more n)

pub text_length : (ws : List ℕ) → nulled ws ≡ true → length (text_of ws) ≡ length (before_null (bytes_of ws)) / 2 + 1
text_length ws h =
    let n = length (before_null (bytes_of ws)) in
    let e : length (nulls n) ≡ 2 - n % 2 = length-take-le (2 - n % 2) (0 ∷ 0 ∷ []) (omega arith) in
    omega (arith, bytes_length (text_of ws), rw length-append at (ap length (text_bytes ws h)))

pub text_short : (ws : List ℕ) → length (text_of ws) ≤ length ws
unfolding text_of
text_short [] = le_refl 0
text_short (w ∷ ws) = go (eqb (low w) 0) (eqb (high w) 0) (text_short ws)
  where
    go : (x y : Bool) → length (text_of ws) ≤ length ws → length (cond x (0 ∷ []) (cond y (w ∷ []) (w ∷ text_of ws))) ≤ suc (length ws)
    go true y h = omega arith
    go false true h = omega arith
    go false false h = omega arith

-- ---- a text block whose text is t, in n words with its nulls

pub record IsText (ws t : List ℕ) (words : ℕ) : Type 0 where
  pub bytes : bytes_of (counted (words + 1) ws ∷ []) ++ t ++ take (2 * words - length t) (0 ∷ 0 ∷ []) ≡ bytes_of (cut_text ws)
  pub length_is : length (cut_text ws) ≡ words + 1
  pub short : words + 1 ≤ length ws
  pub holds : length t < 2 * words
  pub fills : 2 * words ≤ length t + 2

pub is_text_lem : (ws : List ℕ) {part t : List ℕ} {words : ℕ} → nulled (drop 1 ws) ≡ true → Holds (drop 1 ws) part → t ≡ before_null part → words ≡ length t / 2 + 1 → IsText ws t words
unfolding cut_text bytes_of
is_text_lem ws {part} {t} {words} h p e q =
    let f : t ≡ before_null (bytes_of (drop 1 ws)) = e ∙ ap before_null p.bytes in
    let n : length (text_of (drop 1 ws)) ≡ length t / 2 + 1 = rw f (text_length (drop 1 ws) h) in
    let m : words + 1 ≡ suc (length (text_of (drop 1 ws))) = omega arith in
    let fill : 2 * words - length t ≡ 2 - length t % 2 = omega arith in
    record {
      bytes = rw (m, fill, text_bytes (drop 1 ws) h, f);
      length_is = sym m;
      short = omega (arith, text_short (drop 1 ws), length-drop 1 ws);
      holds = omega arith;
      fills = omega arith;
    }
