-- A table block with words at its end and at the ends of its records: it is good by its row as before, counts itself, and has the same
-- slim form. Once for any row.
use mathlib.Core.Bool.{true, false, cond, not, ◌&&◌}
use mathlib.Core.List.{List, [], ◌∷◌, ◌++◌}
use mathlib.Core.Path.{◌≡◌, refl, sym, ◌∙◌}
use Prim.Native.Nat.{ℕ, zero, suc, ◌+◌, ◌-◌, ◌*◌, ◌≤◌, ◌<◌}
use native.Mathlib.Omega.{arith}
use lib.Dec.{eqb}
use lib.ListN.{length, get_or, get_or-append}
use lib.Seq.{take-append-le}
use borrow.Author.Tests.{not-true, ne_eqb, le-leb}
use Rattle.words.specs.Words.{low, high}
use Rattle.words.proofs.Choice.{and_both}
use Rattle.file_walk.specs.Walk.{Whole}
use Rattle.file_rules.specs.declared.Row.{Row}
use Rattle.file_rules.specs.Block.{least_of, rules_in, sized, readable, kept}
use Rattle.file_rules.specs.Slim.{counted, cut_to, slim_records, head_by, slim_by}
use Rattle.file_rules.specs.Sound.{front_words}
use Rattle.file_rules.proofs.BlockLaws.{Kept, kept_says, says_kept, kept_least, kept_full, full_filled}
use Rattle.file_order.specs.declared.setup.Setup.{Setup}
use Rattle.file_tables.specs.Table.{kind_of}
use Rattle.file_order.specs.Setup.{row_for, slim_of}
use Rattle.file_order.proofs.KnownLaws.{each_sound, row_exact, row_text, row_subs}
use Rattle.law_additions.specs.Additions.{may_grow, Records, rest, next}
use Rattle.law_additions.proofs.Agreeing.{Agree, ruled_agree, least_agree, buffered_agree, raw_agree}
use Rattle.law_additions.proofs.RecordGrowth.{counted_low, counted_high, records_grow, records_length}
use Rattle.law_additions.proofs.FirstWord.{same_row, logger_row_lem, counted_front}
use Rattle.std.specs.declared.result.Result.TheVariants.{Ok}

-- the block h ∷ w ∷ t, and the same with another count and t' after word 1
module _ (h h' w : ℕ) where
  words_more : (t more : List ℕ) (i : ℕ) → 0 < i → i < suc (suc (length t)) → get_or (h' ∷ (w ∷ (t ++ more))) i 0 ≡ get_or (h ∷ (w ∷ t)) i 0
  words_more t more zero p q = absurd (omega arith)
  words_more t more (suc zero) p q = refl
  words_more t more (suc (suc j)) p q = get_or-append t more 0 j (omega arith)

  word_one : (t t' : List ℕ) (i : ℕ) → 0 < i → i < 2 → get_or (h' ∷ (w ∷ t')) i 0 ≡ get_or (h ∷ (w ∷ t)) i 0
  word_one t t' zero p q = absurd (omega arith)
  word_one t t' (suc zero) p q = refl
  word_one t t' (suc (suc j)) p q = absurd (omega arith)

  agree_one : (t t' : List ℕ) → Agree 2 (h ∷ (w ∷ t)) (h' ∷ (w ∷ t'))
  agree_one t t' = record { word = word_one t t' }

  -- the words before the sub-blocks are as they were
  front_agree : {k : ℕ} {t t' : List ℕ} → Records k t t' → (n : ℕ) → n ≤ suc (suc (length t)) → Agree (cond (eqb k 0) n 2) (h ∷ (w ∷ t)) (h' ∷ (w ∷ t'))
  front_agree (rest t more) n l = record { word = λ i p q. words_more t more i p (omega arith) }
  front_agree (next {k} a b more c rs) n l = rw (ne_eqb (suc k) 0 (λ z. omega arith)) (agree_one _ _)

  -- and so are those that are kept of them: n of a block without sub-blocks
  front_kept : low h' ≡ low h → {k : ℕ} {t t' : List ℕ} → Records k t t' → (n m : ℕ) → n ≤ suc (suc (length t))
      → cond (eqb k 0) (cut_to n (h' ∷ (w ∷ t'))) (counted m (h' ∷ (w ∷ t')) ∷ (w ∷ [])) ≡ cond (eqb k 0) (cut_to n (h ∷ (w ∷ t))) (counted m (h ∷ (w ∷ t)) ∷ (w ∷ []))
  unfolding cut_to counted
  front_kept same (rest t more) n m l = rw (same, take-append-le (n - 1) (w ∷ t) more (omega arith))
  front_kept same (next {k} a b more c rs) n m l = rw (ne_eqb (suc k) 0 (λ z. omega arith), same)

module _ (s : Setup) (h w : ℕ) {t t' : List ℕ} (raw : List ℕ) (may : may_grow (kind_of (low h)) ≡ true) (grown : Records (kind_of (low h)).subs.count t t') where
  abbrev row : Row
  row = row_for s h

  -- its first word, the count set to match
  abbrev h₁ : ℕ
  h₁ = low h + 256 * suc (suc (length t'))

  pub is : ((kind_of (low h)).listed ≡ true) × (((kind_of (low h)).exact ≡ false) × ((kind_of (low h)).text ≡ false))
  unfolding may_grow
  is =
      let tests : ((kind_of (low h)).listed && (not (kind_of (low h)).exact && not (kind_of (low h)).text)) ≡ true = may in
      let a = and_both _ _ tests in
      let b = and_both _ _ a.1 in
      (a.0, (not-true _ b.0, not-true _ b.1))

  grown_by : Records row.subs.count t t'
  grown_by = rw (row_subs s h) grown

  module _ (g : kept row (h ∷ (w ∷ t)) ≡ Ok tt) where
    was : Kept row (h ∷ (w ∷ t))
    was = kept_says row (h ∷ (w ∷ t)) g

    near : Agree (front_words row) (h ∷ (w ∷ t)) (h₁ ∷ (w ∷ t'))
    unfolding front_words
    near = front_agree h h₁ w grown_by row.least (kept_least row _ was)

    least_same : least_of row (h₁ ∷ (w ∷ t')) ≡ least_of row (h ∷ (w ∷ t))
    least_same = least_agree near row (each_sound s h).more

    pub table_good : kept row (h₁ ∷ (w ∷ t')) ≡ Ok tt
    unfolding sized readable
    table_good =
        let sound = each_sound s h in
        let long = kept_least row _ was in
        let r = records_grow row.subs sound.sub_rules grown_by was.subs in
        says_kept row (h₁ ∷ (w ∷ t'))
        (record {
          sized = simp (row_exact s h ∙ is.1.0, ne_eqb (high h₁) 0 (λ z. omega (arith, counted_high h (suc (suc (length t'))))), le-leb row.least (suc (suc (length t'))) (omega (arith, records_length grown)));
          null = rw (row_text s h ∙ is.1.1);
          rules = ruled_agree near (rules_in row.rules) sound.rules ∙ was.rules;
          filled = full_filled row (h₁ ∷ (w ∷ t')) (omega (arith, least_same, kept_full row _ was, records_length grown));
          whole = buffered_agree near row sound.logger ∙ was.whole;
          subs = r.0;
        })

    pub table_slim : slim_of s (h₁ ∷ (w ∷ t')) raw ≡ slim_of s (h ∷ (w ∷ t)) raw
    unfolding slim_of slim_by head_by row_for slim_records
    table_slim =
        let full = kept_full row _ was in
        let subs = (records_grow row.subs (each_sound s h).sub_rules grown_by was.subs).1 in
        let front = front_kept h h₁ w (counted_low h _) grown_by (least_of row (h ∷ (w ∷ t))) row.least full in
        rw (same_row h h₁ (counted_low h _) is.1.0 s, row_exact s h ∙ is.1.0, row_text s h ∙ is.1.1, subs, least_same, front)

    pub table_whole : Whole (record { words = h ∷ (w ∷ t); raw = raw }) → Whole (record { words = h₁ ∷ (w ∷ t'); raw = raw })
    table_whole wh =
        let l = counted_low h (suc (suc (length t'))) in
        record {
          counted = counted_front h₁ (w ∷ t') (counted_high h _) (rw l is.0) (rw l is.1.0);
          followed = wh.followed ∙ sym (raw_agree near l (λ e. (each_sound s h).logger (logger_row_lem s h e)));
        }
