-- Laws of where quotes are needed; a number needs none.
use mathlib.Core.Bool.{Bool, true, false, cond, ◌||◌}
use mathlib.Core.List.{List, [], ◌∷◌, map}
use mathlib.Core.Path.{◌≡◌, refl, sym, ◌∙◌}
use Rattle.std.specs.List.{list_any}
use Prim.Native.Nat.{ℕ, suc, ◌≤◌, ◌<◌, suc-le-suc}
use native.Mathlib.Omega.{arith}
use borrow.Author.Tests.{ltb-true, ne_eqb}
use lib.Dec.{eqb, ltb}
use Rattle.text.specs.Text.{shown}
use Rattle.text.proofs.DecimalMeans.{Digits}
use Rattle.sheet_head.specs.Head.{comma, quote, needs_quotes}

-- a byte that is shown as `?` was no comma and no quote, nor is `?`
shown_same : (b c : ℕ) → 0x20 ≤ c → c < 63 → eqb (shown b) c ≡ eqb b c
shown_same b c h k = go (ltb b 0x20) (ltb 0x7E b) refl refl
  where
    go : (s t : Bool) → ltb b 0x20 ≡ s → ltb 0x7E b ≡ t → eqb (cond s 63 (cond t 63 b)) c ≡ eqb b c
    go true t p q = ne_eqb 63 c (λ e. omega arith) ∙ sym (ne_eqb b c (λ e. omega (arith, ltb-true b 0x20 p)))
    go false true p q = ne_eqb 63 c (λ e. omega arith) ∙ sym (ne_eqb b c (λ e. omega (arith, ltb-true 0x7E b q)))
    go false false p q = refl

pub shown_needs : (text : List ℕ) → needs_quotes (map shown text) ≡ needs_quotes text
unfolding needs_quotes
shown_needs [] = refl
shown_needs (b ∷ bs) = rw (shown_same b comma (omega arith) (omega arith), shown_same b quote (omega arith) (omega arith), shown_needs bs)

-- as two looks at the whole text
pub needs_either : (l : List ℕ) → needs_quotes l ≡ (list_any (λ b. eqb b comma) l || list_any (λ b. eqb b quote) l)
unfolding needs_quotes
needs_either [] = refl
needs_either (b ∷ l) = go (eqb b comma) (eqb b quote) (list_any (λ b. eqb b comma) l) (list_any (λ b. eqb b quote) l) (needs_either l)
  where
    go : (s t u v : Bool) {w : Bool} → w ≡ (u || v) → (s || (t || w)) ≡ ((s || u) || (t || v))
    go true t u v e = refl
    go false true true v e = refl
    go false true false v e = refl
    go false false u v e = e

-- of a text as it is shown
pub shown_either : (text : List ℕ) → needs_quotes (map shown text) ≡ (list_any (λ b. eqb b comma) text || list_any (λ b. eqb b quote) text)
shown_either text = shown_needs text ∙ needs_either text

-- a number needs none
pub digits_need : (l : List ℕ) → Digits l → needs_quotes l ≡ false
unfolding needs_quotes
digits_need [] d = refl
digits_need (b ∷ l) d =
    let first = d 0 (omega arith) in
    rw (ne_eqb b comma (λ e. omega arith), ne_eqb b quote (λ e. omega arith)) (digits_need l (λ i h. d (suc i) (suc-le-suc h)))
