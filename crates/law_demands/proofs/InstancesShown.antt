-- Each of the instances is an accepted file, and that file with every kind of addition.
use mathlib.Core.List.{List, [], ◌∷◌, ◌++◌, map}
use mathlib.Core.Bool.{true}
use mathlib.Core.Path.{◌≡◌, refl}
use Prim.Native.Nat.{ℕ, ◌≤◌}
use native.Mathlib.Omega.{arith}
use lib.Dec.{lit≤}
use lib.ListN.{length}
use Rattle.words.specs.Words.{words_of, bytes_of, long_at}
use Rattle.words.proofs.WordLaws.{words_of_bytes, bytes_length}
use Rattle.text.specs.Text.{before_null}
use Rattle.units.specs.Frequency.{octaves, band_place}
use Rattle.file_walk.specs.Walk.{long_form, fronted, front_of, raw_of, walk, walked, Part, parts_of, laid_out}
use Rattle.file_rules.specs.Block.{in_force, more_of, least_of, filled, then, offset_by, allows, obeyed, ruled, rules_in, recorded, records, sized, nulled, readable, whole_records, buffered, kept}
use Rattle.file_rules.specs.Slim.{counted, cut_to, text_of, cut_text, slim_records, head_by, slim_by, word_in, sub_word_in}
use Rattle.file_tables.specs.Table.{row_of}
use Rattle.file_order.specs.Setup.{slim_of, bands_of, levels_of, id_in, learnt, classes_of, row_for}
use Rattle.file_order.specs.Order.{key_of, is_due, passed_over, due_after, due_after_profiles, due_after_results}
use Rattle.law_additions.specs.Additions.{may_grow, is_text, recounted, rest, Grown, title, Additions, parts_in}
use Rattle.call_check.specs.Starts.{place_of, noted}
use Rattle.call_check.specs.Judge.{skipped, entered, entered_by, tested_by, judged_by, seen_by, seen_in, closed, judge, misfit, surveyed}
use Rattle.law_grammar.proofs.Takes.{accepts}
use Rattle.law_grammar.proofs.Exactly.{accepts_found}
use Rattle.words.specs.Numbers.{numbers_from}
use Rattle.law_cases.specs.Cases.{block01, profile}
use Rattle.law_demands.specs.Files.{file_of, are_bytes, alone, longer, with_records, titled, Model, m945, later, m953, measured, result_record, spectrum_from, level953_file, octave953_file, dose953_file, octave_spectrum, third_spectrum, class_record, histogram, logger_part, head_parts, results_part, statistics_parts, level_file, octave_file, third_file, band_file}
use Rattle.law_demands.specs.Instances.{Shown, AllShown, words, strange, between, after_header, grown, instances}
use Rattle.law_demands.proofs.Growing.{longer_grown, records_grown, table_grown, AllGrown, none, one, all_as_is, grown_append, header_adds}

-- the title's null, and what may stand from there on
abbrev null : List ℕ
null = 0 ∷ []

abbrev others : List ℕ
others = 0x5A00 ∷ (0x2121 ∷ [])

title_grown : Grown (titled null) (titled others)
unfolding titled alone recounted counted is_text row_of nulled before_null bytes_of
title_grown = title 0x0403 (0x6148 ∷ (0x6C6C ∷ null)) (0x6148 ∷ (0x6C6C ∷ others)) [] refl refl refl

header_grown : Grown (longer [] block01) (longer words block01)
unfolding block01 may_grow row_of
header_grown = longer_grown _ _ _ words refl refl

results_grown : (n : ℕ) → Grown (results_part n []) (results_part n words)
unfolding results_part result_record may_grow row_of
results_grown n = records_grown _ _ _ _ _ _ _ _ words refl refl

statistics_grown : AllGrown (statistics_parts []) (statistics_parts words)
unfolding statistics_parts class_record may_grow row_of
statistics_grown = one (records_grown _ _ _ _ _ _ _ _ words refl refl) (all_as_is _)

octave_grown : Grown (longer [] octave_spectrum) (longer words octave_spectrum)
unfolding octave_spectrum may_grow row_of
octave_grown = longer_grown _ _ _ words refl refl

third_grown : Grown (longer [] third_spectrum) (longer words third_spectrum)
unfolding third_spectrum may_grow row_of
third_grown = longer_grown _ _ _ words refl refl

from_grown : (n : ℕ) → Grown (longer [] (spectrum_from n)) (longer words (spectrum_from n))
unfolding spectrum_from may_grow row_of
from_grown n = longer_grown _ _ _ words refl refl

logger_grown : Grown (logger_part []) (logger_part words)
unfolding logger_part may_grow row_of
logger_grown = table_grown 0x0F 0 _ refl refl (rest _ words)

-- ---- files

module _ (file : List ℕ → List ℕ → List Part) (a : Additions (file [] null) (after_header (file words others))) where
  -- by computation: the blocks of the file, that it is accepted, that the new one is short, and that both are bytes
  shown : parts_in (file_of (file [] null)) ≡ file [] null → accepts (surveyed (file_of (file [] null))) ≡ true → length (laid_out (after_header (file words others))) ≤ 32768 → are_bytes (file_of (file [] null) ++ file_of (after_header (file words others))) ≡ true → Shown (grown file)
  unfolding grown file_of
  shown parts accepted few all =
      let bytes = bytes_length (laid_out (after_header (file words others))) in
      record {
        accepted = accepts_found _ accepted;
        added =
            record {
              parts = after_header (file words others);
              adds = rw parts a;
              words = words_of_bytes _;
              even = omega (arith, bytes);
              short = omega (arith, bytes, few);
            };
        bytes = all;
      }

module _ (m : Model) (function : ℕ) where
  -- the blocks up to 05, and what stands after them
  head_adds : {ps ps' : List Part} → AllGrown ps ps' → Additions (head_parts m function [] null ++ ps) (after_header (head_parts m function words others ++ ps'))
  unfolding head_parts profile may_grow row_of
  head_adds a =
      header_adds header_grown
      (one (longer_grown _ _ _ words refl refl) (one title_grown (one (longer_grown _ _ _ words refl refl) (one (records_grown _ _ _ _ _ _ _ _ words refl refl) a))))

  measured_adds : (spectrum : List (List ℕ)) → AllGrown (map (longer []) spectrum) (map (longer words) spectrum)
      → Additions (measured m function spectrum [] null) (after_header (measured m function spectrum words others))
  unfolding measured
  measured_adds spectrum a = head_adds (one (results_grown m.results) (grown_append a statistics_grown))

pub instances_shown : AllShown instances
unfolding instances band_place octaves parts_in file_of are_bytes level_file octave_file third_file band_file head_parts results_part statistics_parts longer with_records titled alone m945 later m953 measured result_record spectrum_from level953_file octave953_file dose953_file octave_spectrum third_spectrum class_record histogram logger_part words strange between after_header recounted counted block01 profile numbers_from words_of bytes_of long_at long_form fronted front_of raw_of walk walked parts_of laid_out in_force more_of least_of filled then offset_by allows obeyed ruled rules_in recorded records sized nulled readable whole_records buffered kept cut_to text_of cut_text slim_records head_by slim_by word_in sub_word_in row_of slim_of bands_of levels_of id_in learnt classes_of row_for key_of is_due passed_over due_after due_after_profiles due_after_results place_of noted skipped entered entered_by tested_by judged_by seen_by seen_in closed judge misfit surveyed accepts
instances_shown = (
  shown level_file (measured_adds m945 1 [] none) refl refl (lit≤ tt) refl,
  (
    shown octave_file (measured_adds m945 2 (octave_spectrum ∷ []) (one octave_grown none)) refl refl (lit≤ tt) refl,
    (
      shown third_file (measured_adds m945 3 (third_spectrum ∷ []) (one third_grown none)) refl refl (lit≤ tt) refl,
      (
        shown band_file (head_adds m945 2 (one logger_grown none)) refl refl (lit≤ tt) refl,
        (
          shown level953_file (measured_adds m953 1 [] none) refl refl (lit≤ tt) refl,
          (
            shown (octave953_file 10) (measured_adds m953 2 (spectrum_from 10 ∷ []) (one (from_grown 10) none)) refl refl (lit≤ tt) refl,
            (shown dose953_file (measured_adds m953 4 [] none) refl refl (lit≤ tt) refl, tt),
          ),
        ),
      ),
    ),
  ),
)
