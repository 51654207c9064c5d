-- The definitions give what document 01 says of each of its starred cases.
use mathlib.Core.List.{flatten, flat_map}
use mathlib.Core.Path.{refl}
use Rattle.words.specs.Words.{words_of, bytes_of, long_at}
use Rattle.text.specs.Decimal.{digits, decimal}
use Rattle.paging.specs.Fit.{fit, joined}
use Rattle.text.specs.Text.{before_null, named}
use Rattle.units.specs.Level.{signed, level, fixed, signed_fixed, tenths}
use Rattle.file_walk.specs.Walk.{long_form, fronted, front_of, raw_of, walk, walked, parts_of}
use Rattle.file_rules.specs.Block.{in_force, more_of, least_of, filled, then, offset_by, allows, obeyed, ruled, rules_in, recorded, records, sized, nulled, readable, whole_records, buffered, kept}
use Rattle.file_rules.specs.Slim.{counted, cut_to, text_of, cut_text, slim_records, head_by, slim_by, words_in, word_in, sub_word_in}
use Rattle.file_tables.specs.Table.{row_of}
use Rattle.file_order.specs.Setup.{slim_of, bands_of, levels_of, id_in, learnt, row_for}
use Rattle.file_order.specs.Order.{key_of, is_due, passed_over, due_after, due_after_profiles}
use Rattle.call_check.specs.Starts.{place_of, noted}
use Rattle.call_check.specs.Judge.{skipped, entered, entered_by, tested_by, judged_by, seen_by, seen_in, closed, judge, misfit, surveyed}
use Rattle.call_check.specs.Check.{outline_of, answered, verdict, values}
use Rattle.call_check.specs.Slims.{slim_part, known_from, slims, slims_in, slims_from, slim_after, slim_at, learnt_from, setup_in}
use Rattle.call_title.specs.Title.{title_text, text_at, title_in, title_at}
use Rattle.call_slim.specs.Copy.{slim_words, slim_copy, room_for, replied, slim_reply, output_by}
use Rattle.sheet_head.specs.Head.{needs_quotes, head_line}
use Rattle.sheet_fields.specs.Fields.{further, level_field, buffer_column, band_columns}
use Rattle.sheet_lines.specs.Line.{separated, bytes}
use Rattle.sheet_results.specs.Results.{unit_of}
use Rattle.sheet_names.specs.Names.{profile_filters, buffer_codes, profile_name}
use Rattle.sheet_lines.specs.Lines.{number_entry, text_entry, buffer_heading, record_row, time_row}
use Rattle.words.specs.Numbers.{numbers_from}
use Rattle.sheet_page.specs.Rows.{time_rows, record_count, record_rows, texts}
use Rattle.sheet_page.specs.Sheet.{where_there, three_in, filters_in, codes_in, model_in, function_in, levels_in, name_in, title_shown, head_lines, time_in, result_lines, spectrum_lines, statistics_lines, step_in, width_in, buffer_lines, sheet_lines, sheet_texts}
use Rattle.call_sheet.specs.Reply.{progress_in, asked_for, sheet_reply}
use Rattle.call_sheet.specs.Reply as Sheet
use Rattle.law_cases.specs.Cases.{AllSo, refused, block01, block02, block03, block04, profile, block05, block0_f, contents, buffer_file, nine_lines, accepted, timed, time_shown, starred}

pub starred_hold : AllSo starred
unfolding starred refused accepted timed time_shown buffer_file block01 block02 block03 block04 profile block05 block0_f contents words_of bytes_of long_at before_null long_form fronted front_of raw_of walk walked parts_of in_force more_of least_of filled then offset_by allows obeyed ruled rules_in recorded records sized nulled readable whole_records buffered kept counted cut_to text_of cut_text slim_records head_by slim_by words_in word_in sub_word_in row_of slim_of bands_of levels_of id_in learnt row_for key_of is_due passed_over due_after due_after_profiles place_of noted skipped entered entered_by tested_by judged_by seen_by seen_in closed judge misfit surveyed outline_of answered verdict values slim_part known_from slims slims_in slims_from slim_after slim_at title_text text_at title_in title_at slim_words slim_copy room_for replied slim_reply output_by flatten flat_map nine_lines digits decimal fit joined signed level fixed signed_fixed tenths learnt_from setup_in model_in function_in levels_in further needs_quotes head_line separated bytes named profile_filters buffer_codes numbers_from level_field profile_name number_entry text_entry buffer_column band_columns buffer_heading record_row record_count record_rows texts where_there three_in filters_in codes_in name_in title_shown head_lines time_in time_rows time_row unit_of result_lines spectrum_lines statistics_lines step_in width_in buffer_lines sheet_lines sheet_texts progress_in asked_for sheet_reply Sheet.replied Sheet.output_by
starred_hold = (
  record { words_are = refl; values_are = refl; title_is = refl; slim_is = refl; slim_has = refl; sheet_is = refl },
  (
    record { words_are = refl; values_are = refl; title_is = refl; slim_is = refl; slim_has = refl; sheet_is = refl },
    (
      record { words_are = refl; values_are = refl; title_is = refl; slim_is = refl; slim_has = refl; sheet_is = refl },
      (
        record { words_are = refl; values_are = refl; title_is = refl; slim_is = refl; slim_has = refl; sheet_is = refl },
        (
          record { words_are = refl; values_are = refl; title_is = refl; slim_is = refl; slim_has = refl; sheet_is = refl },
          (
            record { words_are = refl; values_are = refl; title_is = refl; slim_is = refl; slim_has = refl; sheet_is = refl },
            (
              record { words_are = refl; values_are = refl; title_is = refl; slim_is = refl; slim_has = refl; sheet_is = refl },
              (
                refl,
                (
                  refl,
                  (
                    refl,
                    (
                      refl,
                      (
                        record { words_are = refl; values_are = refl; title_is = refl; slim_is = refl; slim_has = refl; sheet_is = refl },
                        (
                          record { words_are = refl; values_are = refl; title_is = refl; slim_is = refl; slim_has = refl; sheet_is = refl },
                          tt,
                        ),
                      ),
                    ),
                  ),
                ),
              ),
            ),
          ),
        ),
      ),
    ),
  ),
)
