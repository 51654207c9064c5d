-- By computation: each addition that is shut out changes what is answered, and each of the facts is true.
use mathlib.Core.Bool.{Bool, true, false, ◌&&◌, false≢true}
use mathlib.Core.List.{List, [], ◌∷◌, flatten, flat_map}
use mathlib.Core.Path.{◌≡◌, refl, sym, ap, ◌∙◌}
use Prim.Native.Nat.{ℕ}
use lib.Dec.{eqb}
use borrow.Author.Tests.{eq-eqb}
use Rattle.text.specs.Decimal.{digits, decimal}
use Rattle.units.specs.Level.{signed, level, bound, fixed, signed_fixed, tenths}
use Rattle.units.specs.Frequency.{fraction, centihertz, octaves, thirds, band_place}
use Rattle.sheet_page.specs.Sheet.{where_there, three_in, filters_in, codes_in, name_in, title_shown, head_lines, time_in, result_row_in, model_in, function_in, nominal_in, spectrum_filter_in, levels_in, result_lines, spectrum_lines, histogram_in, statistics_lines, step_in, width_in, buffer_lines, sheet_lines, sheet_texts}
use Rattle.sheet_page.specs.Rows.{time_rows, result_rows, band_rows, total_rows, level_rows, histogram_rows, record_count, record_rows, texts}
use Rattle.sheet_head.specs.Head.{needs_quotes, head_line}
use Rattle.sheet_fields.specs.Fields.{further, level_field, result_field, band_name, total_name, lettered, buffer_column, band_columns}
use Rattle.sheet_lines.specs.Line.{separated, bytes}
use Rattle.sheet_lines.specs.Lines.{number_entry, text_entry, result_heading, time_row, span_row, result_row, band_heading, band_row, total_row, class_heading, class_row, buffer_heading, record_row}
use Rattle.words.specs.Numbers.{numbers_from}
use Rattle.sheet_results.specs.Results.{name_of, unit_of, results945, results953, dose953, results}
use Rattle.sheet_names.specs.Names.{profile_filters, buffer_codes, spectrum_filters, profile_name, filter_column}
use Rattle.text.specs.Text.{named, before_null}
use Rattle.words.specs.Words.{words_of, bytes_of, long_at}
use Rattle.paging.specs.Fit.{fit, joined}
use Rattle.file_walk.specs.Walk.{long_form, fronted, front_of, raw_of, walk, walked, parts_of}
use Rattle.file_rules.specs.Block.{in_force, more_of, least_of, filled, then, offset_by, allows, obeyed, ruled, rules_in, recorded, records, sized, nulled, readable, whole_records, buffered, kept}
use Rattle.file_rules.specs.Slim.{counted, cut_to, text_of, cut_text, slim_records, head_by, slim_by, words_in, word_in, sub_word_in}
use Rattle.file_tables.specs.Table.{row_of}
use Rattle.file_order.specs.Setup.{slim_of, bands_of, levels_of, id_in, learnt, classes_of, row_for}
use Rattle.file_order.specs.Order.{key_of, is_due, passed_over, due_after, due_after_profiles, due_after_results}
use Rattle.call_check.specs.Starts.{place_of, noted}
use Rattle.call_check.specs.Judge.{skipped, entered, entered_by, tested_by, judged_by, seen_by, seen_in, closed, judge, misfit, surveyed}
use Rattle.call_check.specs.Check.{outline_of, answered, verdict, values}
use Rattle.call_check.specs.Slims.{slim_part, known_from, slims, slims_in, slims_from, slim_after, slim_at, learnt_from, setup_in}
use Rattle.call_title.specs.Title.{title_text, text_at, title_in, title_at, part_of, handed, title_of}
use Rattle.call_slim.specs.Copy.{slim_words, slim_copy, room_for, replied, slim_reply, output_by}
use Rattle.call_sheet.specs.Reply.{progress_in, asked_for, sheet_reply}
use Rattle.call_sheet.specs.Reply as Sheet
use Rattle.file_walk.specs.Walk as Walk
use Rattle.law_cases.specs.Cases.{block01, block02, block03, block04, profile, block05, block0_f, contents}
use Rattle.law_grammar.proofs.Takes.{accepts}
use Rattle.law_grammar.proofs.Exactly.{accepts_found}
use Rattle.law_additions.specs.Additions.{recounted}
use Rattle.law_demands.specs.Files.{file_of, alone, longer, with_records, titled, m945, later, m953, measured, result_record, spectrum_from, octave953_file, dose953_file, octave_spectrum, third_spectrum, class_record, histogram, logger_part, head_parts, results_part, statistics_parts, level_file, octave_file, third_file, band_file}
use Rattle.law_demands.specs.Forbidden.{AllChange, sheet_of, level_parts, long_histogram, counted_histogram, end_block, buffer_parts, unlucky, forbidden}
use Rattle.law_demands.specs.Various.{AllTrue, octave_parts, third_parts, band_parts, spectrum_parts, dose_parts, same_parts, untitled_parts, quoted_parts, lent, handed_back, title_line, sheet_values, facts}

-- whether two lists are the same
unfoldable same : List ℕ → List ℕ → Bool
same [] [] = true
same [] (y ∷ ys) = false
same (x ∷ xs) [] = false
same (x ∷ xs) (y ∷ ys) = eqb x y && same xs ys

same_itself : (xs : List ℕ) → same xs xs ≡ true
unfolding same
same_itself [] = refl
same_itself (x ∷ xs) = simp (eq-eqb x x refl, same_itself xs)

apart : (xs ys : List ℕ) → same xs ys ≡ false → xs ≡ ys → ⊥
apart xs ys e f = false≢true (sym e ∙ ap (same xs) (sym f) ∙ same_itself xs)

closed_lists : AllChange forbidden × AllTrue facts
unfolding same Walk.laid_out Sheet.values facts forbidden sheet_of level_parts long_histogram counted_histogram end_block buffer_parts unlucky octave_parts third_parts band_parts untitled_parts quoted_parts lent handed_back title_line sheet_values file_of level_file octave_file third_file band_file head_parts results_part statistics_parts longer with_records titled alone m945 later m953 measured result_record spectrum_from octave953_file dose953_file spectrum_parts dose_parts same_parts octave_spectrum third_spectrum class_record histogram logger_part recounted contents classes_of due_after_results accepts block01 block02 block03 block04 profile block05 block0_f words_of bytes_of long_at before_null long_form fronted front_of raw_of walk walked parts_of in_force more_of least_of filled then offset_by allows obeyed ruled rules_in recorded records sized nulled readable whole_records buffered kept counted cut_to text_of cut_text slim_records head_by slim_by words_in word_in sub_word_in row_of slim_of bands_of levels_of id_in learnt row_for key_of is_due passed_over due_after due_after_profiles place_of noted skipped entered entered_by tested_by judged_by seen_by seen_in closed judge misfit surveyed outline_of answered verdict values slim_part known_from slims slims_in slims_from slim_after slim_at title_text text_at title_in title_at slim_words slim_copy room_for replied slim_reply output_by flatten flat_map digits decimal fit joined signed fixed signed_fixed tenths setup_in further needs_quotes head_line separated bytes named profile_filters buffer_codes numbers_from level_field profile_name number_entry text_entry buffer_column band_columns buffer_heading record_row record_count record_rows texts where_there three_in filters_in codes_in name_in title_shown head_lines result_lines spectrum_lines statistics_lines step_in width_in buffer_lines sheet_lines sheet_texts progress_in asked_for sheet_reply Sheet.replied Sheet.output_by level bound title_of handed part_of spectrum_filters results filter_column band_name total_name result_heading time_row result_row result_field band_heading band_row total_row class_heading class_row result_rows band_rows total_rows level_rows histogram_rows time_in result_row_in nominal_in spectrum_filter_in model_in function_in levels_in time_rows span_row lettered name_of unit_of results945 results953 dose953 learnt_from band_place histogram_in fraction centihertz octaves thirds
closed_lists = ((record { accepted = accepts_found _ refl; answer_is = refl; other = apart _ _ refl }, (record { accepted = accepts_found _ refl; answer_is = refl; other = apart _ _ refl }, (record { accepted = accepts_found _ refl; answer_is = refl; other = apart _ _ refl }, (record { accepted = accepts_found _ refl; answer_is = refl; other = apart _ _ refl }, (record { accepted = accepts_found _ refl; answer_is = refl; other = apart _ _ refl }, (record { accepted = accepts_found _ refl; answer_is = refl; other = apart _ _ refl }, (record { accepted = accepts_found _ refl; answer_is = refl; other = apart _ _ refl }, (record { accepted = accepts_found _ refl; answer_is = refl; other = apart _ _ refl }, (record { accepted = accepts_found _ refl; answer_is = refl; other = apart _ _ refl }, tt))))))))), (refl, (refl, (refl, (refl, (refl, (refl, (refl, (refl, (refl, (refl, (apart _ _ refl, (apart _ _ refl, (apart _ _ refl, (apart _ _ refl, (apart _ _ refl, (refl, (refl, (refl, (refl, (refl, (refl, (refl, (refl, (refl, (refl, (refl, (refl, (refl, (refl, (refl, (refl, (refl, (refl, (refl, (refl, (refl, (refl, (refl, (refl, (refl, (refl, (refl, (refl, (refl, tt)))))))))))))))))))))))))))))))))))))))))))))

pub forbidden_change : AllChange forbidden
forbidden_change = closed_lists.0

pub facts_true : AllTrue facts
facts_true = closed_lists.1
