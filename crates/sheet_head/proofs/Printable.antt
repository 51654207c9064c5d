-- Bytes that are shown as they are, 20 to 7E: all bytes of a text as it is shown, and of a number.
use mathlib.Core.Bool.{Bool, true, false, cond, ◌&&◌, ◌||◌}
use mathlib.Core.List.{List, [], ◌∷◌, ◌++◌, map}
use mathlib.Core.Path.{◌≡◌, refl}
use Prim.Native.Nat.{ℕ, suc, ◌≤◌, suc-le-suc}
use native.Mathlib.Omega.{arith}
use borrow.Author.Tests.{leb-true, leb-false, le-leb, ltb-false}
use lib.Dec.{leb, ltb}
use Rattle.words.proofs.Choice.{and_both}
use Rattle.text.specs.Text.{shown}
use Rattle.text.proofs.DecimalMeans.{Digits}
use Rattle.sheet_head.specs.Head.{comma, quote}
use Rattle.sheet_head.specs.Rfc4180.{is_text_data}

abbrev pub Printable : List ℕ → Type 0
Printable [] = Unit {0}
Printable (b ∷ bs) = ((0x20 ≤ b) × (b ≤ 0x7E)) × Printable bs

shown_byte : (b : ℕ) → (0x20 ≤ shown b) × (shown b ≤ 0x7E)
shown_byte b = go (ltb b 0x20) (ltb 0x7E b) refl refl
  where
    go : (s t : Bool) → ltb b 0x20 ≡ s → ltb 0x7E b ≡ t → (0x20 ≤ cond s 63 (cond t 63 b)) × (cond s 63 (cond t 63 b) ≤ 0x7E)
    go true t p q = (omega arith, omega arith)
    go false true p q = (omega arith, omega arith)
    go false false p q = (ltb-false b 0x20 p, ltb-false 0x7E b q)

pub shown_printable : (text : List ℕ) → Printable (map shown text)
shown_printable [] = tt
shown_printable (b ∷ bs) = (shown_byte b, shown_printable bs)

pub digits_printable : (l : List ℕ) → Digits l → Printable l
digits_printable [] d = tt
digits_printable (b ∷ l) d =
    let first = d 0 (omega arith) in
    ((omega arith, omega arith), digits_printable l (λ i h. d (suc i) (suc-le-suc h)))

pub printable_both : (a b : List ℕ) → Printable a → Printable b → Printable (a ++ b)
printable_both [] b p q = q
printable_both (x ∷ a) b p q = (p.0, printable_both a b p.1 q)

-- a test of it, for keys
unfoldable pub is_printable : List ℕ → Bool
is_printable [] = true
is_printable (b ∷ bs) = (leb 0x20 b && leb b 0x7E) && is_printable bs

pub tested : (l : List ℕ) → is_printable l ≡ true → Printable l
unfolding is_printable
tested [] e = tt
tested (b ∷ bs) e =
    let h = and_both _ (is_printable bs) e in
    let k = and_both (leb 0x20 b) (leb b 0x7E) h.0 in
    ((leb-true 0x20 b k.0, leb-true b 0x7E k.1), tested bs h.1)

-- one that is no comma and no quote is TEXTDATA
pub data_byte : (b : ℕ) → 0x20 ≤ b → b ≤ 0x7E → (b ≡ comma → ⊥) → (b ≡ quote → ⊥) → is_text_data b ≡ true
data_byte b h k p q = go (leb b 0x21) (leb b 0x2B) refl refl
  where
    go : (s t : Bool) → leb b 0x21 ≡ s → leb b 0x2B ≡ t → ((leb 0x20 b && s) || ((leb 0x23 b && t) || (leb 0x2D b && leb b 0x7E))) ≡ true
    go true t e f = rw (le-leb 0x20 b h)
    go false true e f = rw (le-leb 0x20 b h, le-leb 0x23 b (omega (arith, leb-false b 0x21 e, q)))
    go false false e f = rw (le-leb 0x20 b h, le-leb 0x23 b (omega (arith, leb-false b 0x2B f)), le-leb 0x2D b (omega (arith, leb-false b 0x2B f, p)), le-leb b 0x7E k)
