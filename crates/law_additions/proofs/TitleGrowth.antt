-- A text block with other words after its null: it is good by its row as before, counts itself, and has the same slim form.
use mathlib.Core.Bool.{true, false, false≢true}
use mathlib.Core.List.{List, ◌∷◌}
use mathlib.Core.Path.{◌≡◌, sym, ◌∙◌}
use Prim.Native.Nat.{ℕ, suc, ◌+◌, ◌*◌}
use native.Mathlib.Omega.{arith}
use lib.ListN.{length}
use borrow.Author.Tests.{ne_eqb, le-leb}
use Rattle.words.specs.Words.{low, high, bytes_of}
use Rattle.words.proofs.Choice.{and_both}
use Rattle.text.specs.Text.{before_null}
use Rattle.file_walk.specs.Walk.{raw_of, Whole}
use Rattle.file_rules.specs.declared.Row.{Row}
use Rattle.file_rules.specs.Block.{least_of, ruled, rules_in, records, sized, nulled, readable, buffered, kept}
use Rattle.file_rules.specs.Slim.{counted, cut_text, slim_records, head_by, slim_by}
use Rattle.file_rules.specs.Sound.{Text}
use Rattle.file_rules.proofs.BlockLaws.{says_kept, full_filled}
use Rattle.file_order.specs.declared.setup.Setup.{Setup}
use Rattle.file_tables.specs.Table.{kind_of}
use Rattle.file_order.specs.Setup.{row_for, slim_of}
use Rattle.file_order.proofs.KnownLaws.{each_sound, row_exact, row_text}
use Rattle.law_additions.specs.Additions.{is_text}
use Rattle.law_additions.proofs.RecordGrowth.{counted_low, counted_high}
use Rattle.law_additions.proofs.TextGrowth.{nulled_some, text_same}
use Rattle.law_additions.proofs.FirstWord.{same_row, logger_row_lem, counted_front}
use Rattle.std.specs.declared.result.Result.TheVariants.{Ok}

module _ (s : Setup) (h : ℕ) (t t' raw : List ℕ) (may : is_text (kind_of (low h)) ≡ true) (null : nulled t' ≡ true) (text : before_null (bytes_of t') ≡ before_null (bytes_of t)) where
  abbrev own_title_row : Row
  own_title_row = row_for s h

  abbrev h₂ : ℕ
  h₂ = low h + 256 * suc (length t')

  pub said : ((kind_of (low h)).listed ≡ true) × ((kind_of (low h)).text ≡ true)
  unfolding is_text
  said = and_both (kind_of (low h)).listed _ may

  pub is_text_lem : Text own_title_row
  is_text_lem = (each_sound s h).text (row_text s h ∙ said.1)

  pub title_good : kept own_title_row (h ∷ t) ≡ Ok tt → kept own_title_row (h₂ ∷ t') ≡ Ok tt
  unfolding least_of sized readable rules_in ruled buffered records
  title_good g =
      says_kept own_title_row (h₂ ∷ t')
      (record {
        sized = simp (is_text_lem.exact, ne_eqb (high h₂) 0 (λ z. omega (arith, counted_high h (suc (length t')))), le-leb own_title_row.least (suc (length t')) (omega (arith, is_text_lem.least, nulled_some t' null)));
        null = rw (row_text s h ∙ said.1) null;
        rules = rw is_text_lem.rules;
        filled = full_filled own_title_row (h₂ ∷ t') (rw (is_text_lem.more (h₂ ∷ t')) (omega (arith, is_text_lem.least, nulled_some t' null)));
        whole = rw is_text_lem.logger;
        subs = rw is_text_lem.subs;
      })

  pub title_slim : nulled t ≡ true → slim_of s (h₂ ∷ t') raw ≡ slim_of s (h ∷ t) raw
  unfolding slim_of slim_by head_by cut_text counted slim_records
  title_slim was =
      let exact : (kind_of (low h)).exact ≡ false = sym (row_exact s h) ∙ is_text_lem.exact in
      let l = counted_low h (suc (length t')) in
      rw (same_row h h₂ l exact s, is_text_lem.exact, row_text s h ∙ said.1, is_text_lem.subs, text_same t t' was null text, l)

  pub title_whole : Whole (record { words = h ∷ t; raw = raw }) → Whole (record { words = h₂ ∷ t'; raw = raw })
  unfolding raw_of
  title_whole wh =
      let l = counted_low h (suc (length t')) in
      let exact : (kind_of (low h)).exact ≡ false = sym (row_exact s h) ∙ is_text_lem.exact in
      let no : low h ≡ 0x0F → ⊥ = λ e. false≢true (sym is_text_lem.logger ∙ logger_row_lem s h e) in
      record {
        counted = counted_front h₂ t' (counted_high h _) (rw l said.0) (rw l exact);
        followed = wh.followed ∙ simp (l, ne_eqb (low h) 0x0F no);
      }
