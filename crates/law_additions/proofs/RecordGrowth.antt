-- Profile records that are lengthened are good as before, and are cut to the same words. Once for any kind of sub-block.
use mathlib.Core.Bool.{true}
use mathlib.Core.List.{List, ◌∷◌, ◌++◌, append_assoc}
use mathlib.Core.Path.{◌≡◌, refl, sym, ap, ◌∙◌}
use Prim.Native.Nat.{ℕ, zero, suc, ◌+◌, ◌-◌, ◌*◌, ◌≤◌, ◌<◌}
use native.Mathlib.Omega.{arith}
use lib.ListN.{length, get_or, drop, length-append, get_or-append}
use lib.Seq.{take-append-le, drop-append_seam}
use borrow.Author.Tests.{eq-eqb, le-leb}
use Rattle.words.specs.Words.{low, high}
use Rattle.file_rules.specs.declared.Subs.{Subs}
use Rattle.file_rules.specs.Block.{then, offset_by, rules_in, recorded, records}
use Rattle.file_rules.specs.Slim.{counted, cut_to, slim_records}
use Rattle.file_rules.proofs.BlockLaws.{then_good, offset_good, Recorded, recorded_says}
use Rattle.file_rules.specs.Sound.{inside}
use Rattle.law_additions.specs.Additions.{recounted, Records, rest, next}
use Rattle.law_additions.proofs.Agreeing.{Agree, ruled_agree}
use Rattle.std.specs.declared.result.Result.TheVariants.{Ok}

-- a first word whose count is set
pub counted_low : (h n : ℕ) → low (low h + 256 * n) ≡ low h
counted_low h n = omega arith

pub counted_high : (h n : ℕ) → high (low h + 256 * n) ≡ n
counted_high h n = omega arith

-- a block or a sub-block whose count is set to match
pub recounted_is : (h : ℕ) (t : List ℕ) → recounted (h ∷ t) ≡ (low h + 256 * suc (length t)) ∷ t
unfolding recounted counted
recounted_is h t = refl

says_recorded : (s : Subs) (ws : List ℕ) → Recorded s ws → recorded s ws ≡ Ok tt
unfolding recorded
says_recorded s ws r = simp (eq-eqb _ _ r.id, le-leb _ _ r.least, le-leb _ _ r.fits, r.rules)

-- a sub-block h ∷ x with some words after it, and the same with more words at its end and others after it
module _ (h h' : ℕ) (x more t t' : List ℕ) (low_same : low h' ≡ low h) where
  same_word : (k : ℕ) → 0 < k → k < suc (length x) → get_or (h' ∷ ((x ++ more) ++ t')) k 0 ≡ get_or (h ∷ (x ++ t)) k 0
  same_word zero p q = absurd (omega arith)
  same_word (suc j) p q =
      let l : j < length x = omega arith in
      rw (append_assoc x more t', get_or-append x (more ++ t') 0 j l, get_or-append x t 0 j l)

  cut_longer : (n : ℕ) → n ≤ suc (length x) → cut_to n (h' ∷ ((x ++ more) ++ t')) ≡ cut_to n (h ∷ (x ++ t))
  unfolding cut_to counted
  cut_longer n p =
      let l : n - 1 ≤ length x = omega arith in
      rw (append_assoc x more t', take-append-le (n - 1) x (more ++ t') l, take-append-le (n - 1) x t l, low_same)

  module _ (c : high h ≡ suc (length x)) (c' : high h' ≡ suc (length (x ++ more))) where
    recorded_longer : (s : Subs) → inside s.least (rules_in s.rules) ≡ true → recorded s (h ∷ (x ++ t)) ≡ Ok tt → recorded s (h' ∷ ((x ++ more) ++ t')) ≡ Ok tt
    recorded_longer s i g =
        let r = recorded_says s (h ∷ (x ++ t)) g in
        let near : Agree s.least (h ∷ (x ++ t)) (h' ∷ ((x ++ more) ++ t')) = record { word = λ k p q. same_word k p (omega (arith, r.least)) } in
        says_recorded s (h' ∷ ((x ++ more) ++ t'))
        (record {
          id = low_same ∙ r.id;
          least = omega (arith, r.least, length-append x more);
          fits = omega (arith, length-append (x ++ more) t');
          rules = ruled_agree near (rules_in s.rules) i ∙ r.rules;
        })

-- the words after a sub-block
after_record : (h : ℕ) (x t : List ℕ) → high h ≡ suc (length x) → drop (high h) (h ∷ (x ++ t)) ≡ t
after_record h x t c = rw c (drop-append_seam x t)

module _ (s : Subs) (i : inside s.least (rules_in s.rules) ≡ true) where
  pub records_grow : {k : ℕ} {t t' : List ℕ} → Records k t t' → records s k t ≡ Ok tt
      → (records s k t' ≡ Ok tt) × (slim_records s.least k t' ≡ slim_records s.least k t)
  unfolding records slim_records then offset_by
  records_grow (rest t more) g = (refl, refl)
  records_grow (next {k} h x more {t} {t'} c rs) g =
      let h' = low h + 256 * suc (length (x ++ more)) in
      let c' : high h' ≡ suc (length (x ++ more)) = counted_high h _ in
      let l : low h' ≡ low h = counted_low h _ in
      let q = then_good (recorded s (h ∷ (x ++ t))) _ g in
      let p = after_record h x t c in
      let p' = after_record h' (x ++ more) t' c' in
      let g' : records s k t ≡ (Ok tt) = sym (ap (records s k) p) ∙ offset_good (high h) (records s k (drop (high h) (h ∷ (x ++ t)))) q.1 in
      let ih = records_grow rs g' in
      let least : s.least ≤ suc (length x) = omega (arith, (recorded_says s (h ∷ (x ++ t)) q.0).least) in (
        rw (recounted_is h (x ++ more), recorded_longer h h' x more t t' l c c' s i q.0, p', ih.0),
        rw (recounted_is h (x ++ more), cut_longer h h' x more t t' l s.least least, p, p', ih.1),
      )

pub records_length : {k : ℕ} {t t' : List ℕ} → Records k t t' → length t ≤ length t'
unfolding recounted
records_length (rest t more) = rw length-append (omega arith)
records_length (next h x more {t} {t'} c rs) = omega (arith, length-append x t, length-append x more, length-append (x ++ more) t', records_length rs)
