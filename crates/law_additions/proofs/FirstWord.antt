-- What the first word of a listed block says, where it is no histogram: its row, its key, and its length.
use mathlib.Core.Bool.{true, false, false≢true}
use mathlib.Core.List.{List, ◌∷◌}
use mathlib.Core.Path.{◌≡◌, refl, sym, ap, ◌∙◌}
use Prim.Native.Nat.{ℕ, suc}
use native.Mathlib.Omega.{arith}
use lib.ListN.{length}
use borrow.Author.Tests.{ne_eqb, le-ltb}
use Rattle.words.specs.Words.{low, high}
use Rattle.file_walk.specs.Walk.{cut, end_marker, long_form, fronted, front_of}
use Rattle.file_order.specs.declared.setup.Setup.{Setup}
use Rattle.file_tables.specs.Table.{row_of, kind_of}
use Rattle.file_order.specs.Setup.{row_for}
use Rattle.file_order.specs.Order.{key_of}

-- a block of a listed id, but no histogram, is held to its row by its id alone
module _ (h h' : ℕ) (same : low h' ≡ low h) (x : (kind_of (low h)).exact ≡ false) where
  no_histogram : low h ≡ 0x0B → ⊥
  unfolding row_of
  no_histogram e = false≢true (sym x ∙ ap (λ (i : ℕ). (kind_of i).exact) {x = low h} {y = 0x0B} e)

  pub same_row : (s : Setup) → row_for s h' ≡ row_for s h
  unfolding row_for
  same_row s = simp (same, x)

  pub same_key : key_of h' ≡ key_of h
  unfolding key_of
  same_key = simp (same, ne_eqb (low h) 0x0B no_histogram)

pub logger_row_lem : (s : Setup) (h : ℕ) → low h ≡ 0x0F → (row_for s h).logger ≡ true
unfolding row_for row_of
logger_row_lem s h e = rw e

-- a listed block whose count is its length
pub counted_front : (h : ℕ) (t : List ℕ) → high h ≡ suc (length t) → (kind_of (low h)).listed ≡ true → (kind_of (low h)).exact ≡ false → front_of (h ∷ t) ≡ cut (suc (length t))
unfolding front_of fronted long_form row_of
counted_front h t c l x =
    let no : (i : ℕ) → (kind_of i).listed ≡ false → low h ≡ i → ⊥ = λ i u e. false≢true (sym u ∙ ap (λ (j : ℕ). (kind_of j).listed) (sym e) ∙ l) in
    simp (
      ne_eqb (suc (length t)) 0 (λ z. omega arith),
      ne_eqb h end_marker (λ e. no 0xFF refl (omega (arith, e))),
      ne_eqb (low h) 0x0B (no_histogram h h refl x),
      ne_eqb (low h) 0x14 (no 0x14 refl),
      c,
      le-ltb (suc (length t)) (suc (length t)) (omega arith),
    )
