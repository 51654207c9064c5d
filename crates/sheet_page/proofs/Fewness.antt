-- The sheet of an accepted file has few lines.
use mathlib.Core.Bool.{Bool, true, false, cond}
use mathlib.Core.List.{List, [], ◌∷◌, flat_map}
use mathlib.Core.Path.{◌≡◌}
use Prim.Native.Nat.{ℕ, ◌≤◌, ◌<◌, zero-le}
use native.Mathlib.Omega.{arith}
use lib.Dec.{eqb, ltb, lit≤}
use lib.ListN.{length, length-append, length-map}
use Rattle.text.specs.Ascii.{ascii}
use Rattle.file_rules.specs.Slim.{Slim, word_in}
use Rattle.call_check.specs.declared.judge.State.{State}
use Rattle.call_check.specs.Judge.{surveyed}
use Rattle.call_check.specs.Slims.{slims_in, slim_at}
use Rattle.law_read.proofs.HistogramLaws.{classes_few}
use Rattle.law_read.proofs.ReadLaws.{contents_few}
use Rattle.sheet_lines.specs.Line.{SheetLine}
use Rattle.sheet_lines.specs.Lines.{time_row, span_row}
use Rattle.sheet_results.proofs.EntryLaws.{shown_few}
use Rattle.words.specs.Numbers.{numbers_from}
use Rattle.words.proofs.NumberLaws.{numbers_length}
use Rattle.sheet_page.specs.Rows.{time_rows, band_rows, total_rows, level_rows, histogram_rows, record_rows, texts}
use Rattle.sheet_page.specs.Sheet.{where_there, model_in, function_in, head_lines, time_in, result_lines, spectrum_lines, histogram_in, statistics_lines, width_in, buffer_lines, sheet_lines, sheet_texts}
use Rattle.sheet_page.proofs.RowLaws.{records_few}
use Rattle.sheet_page.proofs.Counts.{nominal_few, bands_few, totals_few}
use Rattle.std.specs.declared.result.Result.TheVariants.{Ok}

-- a section that has at most n lines where its block is
section_few : (x : Slim) (ls : List SheetLine) {n : ℕ} → length ls ≤ n → length (where_there x ls) ≤ n
unfolding where_there
section_few x ls {n} h = go (ltb 0 (length x.head))
  where
    go : (t : Bool) → length (cond t ls []) ≤ n
    go true = h
    go false = zero-le

times_few : (model a b c : ℕ) → length (time_rows model a b c) ≤ 2
unfolding time_rows
times_few model a b c = go (eqb model 953)
  where
    go : (t : Bool) → length (cond t (span_row (ascii "time") a ∷ span_row (ascii "overload") b ∷ []) (time_row a b c ∷ [])) ≤ 2
    go true = lit≤ tt
    go false = lit≤ tt

results_few : (xs : List Slim) → length (result_lines xs) ≤ 14
unfolding result_lines
results_few xs =
    section_few _ _
    (simp (length-append, length-map) (omega (arith, times_few (model_in xs) (time_in (slim_at 0x07 xs) 0) (time_in (slim_at 0x07 xs) 1) (time_in (slim_at 0x07 xs) 2), shown_few (model_in xs) (function_in xs))))

module _ (file : List ℕ) (s : State) (e : surveyed file ≡ Ok s) where
  spectrum_few : length (spectrum_lines (slims_in file)) ≤ 49
  unfolding spectrum_lines level_rows band_rows total_rows word_in
  spectrum_few =
      section_few _ _
      (simp (length-append, length-map, numbers_length) (omega (arith, bands_few file s e, totals_few file s e, nominal_few (slim_at 0x0E (slims_in file)))))

  histogram_few : (p : ℕ) → p < 3 → length (histogram_in (slims_in file) p) ≤ 32767
  unfolding histogram_in histogram_rows
  histogram_few p h = simp (length-map, numbers_length) (omega (arith, classes_few file s e p h))

  statistics_few : length (statistics_lines (slims_in file)) ≤ 98302
  unfolding statistics_lines numbers_from flat_map
  statistics_few =
      section_few _ _
      (simp length-append (omega (arith, histogram_few 0 (lit≤ tt), histogram_few 1 (lit≤ tt), histogram_few 2 (lit≤ tt))))

  buffer_few : length (buffer_lines (slims_in file)) ≤ 32769
  unfolding buffer_lines record_rows
  buffer_few =
      section_few _ _
      (simp (length-map, numbers_length)
      (omega (arith, records_few (width_in (slims_in file)) (length (slim_at 0x0F (slims_in file)).contents), contents_few file s e)))

pub sheet_few : (file label : List ℕ) (s : State) → surveyed file ≡ Ok s → length (sheet_texts file label) ≤ 200000
unfolding sheet_texts texts sheet_lines head_lines
sheet_few file label s e =
    simp (length-map, length-append)
    (omega (arith, results_few (slims_in file), spectrum_few file s e, statistics_few file s e, buffer_few file s e))
