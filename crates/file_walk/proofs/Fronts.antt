-- Where a block is cut: what `fronted` says of the first two words and of how many there are.
use mathlib.Core.Bool.{Bool, true, false, cond, ◌||◌}
use mathlib.Core.List.{List}
use mathlib.Core.Logic.{◌⊎◌, inl, inr}
use mathlib.Core.Path.{◌≡◌, refl, sym, ap, ◌∙◌}
use Prim.Native.Nat.{ℕ, zero, suc, ◌/◌, ◌≤◌, ◌<◌}
use native.Mathlib.Omega.{arith}
use lib.Dec.{ltb, eqb}
use lib.ListN.{length, get_or}
use borrow.Author.Tests.{ltb-false, eqb-true, eqb-false, le-ltb, ne_eqb}
use Rattle.words.specs.Words.{low, high, long_at}
use Rattle.words.proofs.Choice.{cond_second, or_neither}
use Rattle.words.proofs.WordLaws.{Below}
use Rattle.file_refusal.specs.Refusal.{is_of_file}
use Rattle.file_walk.specs.Walk.{Front, refused, ended, cut, end_marker, long_form, fitted, fronted, front_of, raw_of}

-- ---- a block

-- a block of k words, where n are left, by its first two words w and v
pub record Cuts (w v n k : ℕ) : Type 0 where
  pub some : 1 ≤ k
  pub fits : k ≤ n
  pub no_end : w ≡ end_marker → ⊥
  pub size : ((long_form w ≡ true) × (2 ≤ v) × (k ≡ v)) ⊎ ((long_form w ≡ false) × (k ≡ high w))

-- what `fronted` says after the test for the end marker, where t says whether the block has its length in word 1
abbrev pub sized : Bool → ℕ → ℕ → ℕ → Front
sized t w v n = cond t (cond (ltb n 2) (refused 2) (cond (ltb v 2) (refused 3) (fitted n v))) (fitted n (high w))

-- where there is a word, and it is not the end marker
pub sized_front : (w v n : ℕ) → (n ≡ 0 → ⊥) → (w ≡ end_marker → ⊥) → fronted w v n ≡ sized (long_form w) w v n
unfolding fronted
sized_front w v n some no_end = simp (ne_eqb n 0 some, ne_eqb w end_marker no_end)

fitted_cuts : (n l k : ℕ) → fitted n l ≡ cut k → (l ≤ n) × (k ≡ l)
fitted_cuts n l k e =
    let p = cond_second (ltb n l) e (λ h. cc) in
    let f : cut l ≡ cut k = p.1 in
    (ltb-false _ _ p.0, cc)

-- a block that has its length in its first word has a word
short_some : (w : ℕ) → long_form w ≡ false → 1 ≤ high w
unfolding long_form
short_some w l =
    let z : (high w ≡ 0 → ⊥) = eqb-false _ _ (or_neither (eqb (high w) 0) (eqb (low w) 0x0B || eqb (low w) 0x14) l).0 in
    omega arith

pub fronted_cuts : (w v n k : ℕ) → fronted w v n ≡ cut k → Cuts w v n k
unfolding fronted
fronted_cuts w v n k e =
    let p = cond_second (eqb n 0) e (λ h. cc) in
    let q = cond_second (eqb w end_marker) p.1 (λ h. cc) in
    go (long_form w) refl q.1 (eqb-false _ _ q.0)
  where
    go : (t : Bool) → long_form w ≡ t → sized t w v n ≡ cut k → (w ≡ end_marker → ⊥) → Cuts w v n k
    go true l f h =
        let a = cond_second (ltb n 2) f (λ h. cc) in
        let b = cond_second (ltb v 2) a.1 (λ h. cc) in
        let s = fitted_cuts n v k b.1 in
        let two : 2 ≤ v = ltb-false _ _ b.0 in
        record { some = omega arith; fits = omega arith; no_end = h; size = inl (l, two, s.1) }
    go false l f h =
        let s = fitted_cuts n (high w) k f in
        record { some = omega (arith, short_some w l); fits = omega arith; no_end = h; size = inr (l, s.1) }

-- the other way round: n may be any number that is large enough, and v matters only where the block has it
pub cuts_fronted : (w v v' n m k : ℕ) → Cuts w v n k → k ≤ m → (2 ≤ k → v' ≡ v) → fronted w v' m ≡ cut k
unfolding fronted
cuts_fronted w v v' n m k c h e = go c.size
  where
    go : ((long_form w ≡ true) × (2 ≤ v) × (k ≡ v)) ⊎ ((long_form w ≡ false) × (k ≡ high w)) → fronted w v' m ≡ cut k
    go (inl (l, two, s)) =
        let f : v' ≡ v = e (omega arith) in
        simp (ne_eqb m 0 (omega (arith, c.some)), ne_eqb w end_marker c.no_end, l, le-ltb m 2 (omega arith), f, le-ltb v 2 two, le-ltb m v (omega arith), s)
    go (inr (l, s)) = simp (ne_eqb m 0 (omega (arith, c.some)), ne_eqb w end_marker c.no_end, l, ← s, le-ltb m k h)

-- ---- the end marker

pub ended_some : (w v n : ℕ) → fronted w v n ≡ ended → 0 < n
unfolding fronted
ended_some w v zero e = cc
ended_some w v (suc n) e = omega arith

fitted_not_ended : (n k : ℕ) → fitted n k ≡ ended → ⊥
fitted_not_ended n k e = let p = cond_second (ltb n k) e (λ h. cc) in cc

sized_not_ended : (t : Bool) (w v n : ℕ) → sized t w v n ≡ ended → ⊥
sized_not_ended true w v n e = fitted_not_ended n v (cond_second (ltb v 2) (cond_second (ltb n 2) e (λ h. cc)).1 (λ h. cc)).1
sized_not_ended false w v n e = fitted_not_ended n (high w) e

pub ended_marker : (w v n : ℕ) → fronted w v n ≡ ended → w ≡ end_marker
unfolding fronted
ended_marker w v n e = go (eqb w end_marker) refl (cond_second (eqb n 0) e (λ h. cc)).1
  where
    go : (t : Bool) → eqb w end_marker ≡ t → cond t ended (sized (long_form w) w v n) ≡ ended → w ≡ end_marker
    go true t f = eqb-true _ _ t
    go false t f = absurd (sized_not_ended (long_form w) w v n f)

-- ---- the front of some words

pub front_cuts : (ws : List ℕ) (k : ℕ) → front_of ws ≡ cut k → Cuts (get_or ws 0 0) (get_or ws 1 0) (length ws) k
unfolding front_of
front_cuts ws k e = fronted_cuts _ _ _ _ e

pub front_ended : (ws : List ℕ) → front_of ws ≡ ended → (get_or ws 0 0 ≡ end_marker) × (0 < length ws)
unfolding front_of
front_ended ws e = (ended_marker _ _ _ e, ended_some _ _ _ e)

-- words that start with a block's words have that block at their front
pub front_same : (ws vs : List ℕ) (k : ℕ) → front_of ws ≡ cut k → k ≤ length vs → ((i : ℕ) → i < k → get_or vs i 0 ≡ get_or ws i 0) → front_of vs ≡ cut k
unfolding front_of
front_same ws vs k e h same =
    let c = front_cuts ws k e in
    rw (same 0 (omega (arith, c.some))) (cuts_fronted _ (get_or ws 1 0) (get_or vs 1 0) _ (length vs) k c h (λ two. same 1 (omega arith)))

-- raw words are counted in bytes, by 32 bits
pub raw_below : (b : List ℕ) → Below 65536 b → raw_of b < 2147483648
unfolding raw_of long_at
raw_below b s = go (eqb (low (get_or b 0 0)) 0x0F)
  where
    go : (t : Bool) → cond t (long_at b 6 / 2) 0 < 2147483648
    go true = omega (arith, s 6, s 7)
    go false = omega arith

-- ---- a refusal

abbrev file_number : Front → Bool
file_number (refused num) = is_of_file num
file_number ended = true
file_number (cut k) = true

-- its number is one of a file
pub front_refused : (ws : List ℕ) (num : ℕ) → front_of ws ≡ refused num → is_of_file num ≡ true
unfolding front_of fronted is_of_file
front_refused ws num e =
    ap file_number (sym e)
    ∙ go (eqb (length ws) 0) (eqb (get_or ws 0 0) end_marker) (long_form (get_or ws 0 0)) (ltb (length ws) 2) (ltb (get_or ws 1 0) 2) (ltb (length ws) (get_or ws 1 0)) (ltb (length ws) (high (get_or ws 0 0)))
  where
    go : (t u v w x y z : Bool)
        → file_number (cond t (refused 2) (cond u ended (cond v (cond w (refused 2) (cond x (refused 3) (cond y (refused 2) (cut (get_or ws 1 0))))) (cond z (refused 2) (cut (high (get_or ws 0 0))))))) ≡ true
    go true u v w x y z = refl
    go false true v w x y z = refl
    go false false true true x y z = refl
    go false false true false true y z = refl
    go false false true false false true z = refl
    go false false true false false false z = refl
    go false false false w x y true = refl
    go false false false w x y false = refl
