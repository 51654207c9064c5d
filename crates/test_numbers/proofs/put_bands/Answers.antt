use mathlib.Core.List.{List, []}
use mathlib.Core.Path.{◌≡◌, sym, subst}
use Prim.Native.Nat.{ℕ, ◌≤◌}
use native.Mathlib.Omega.{arith}
use lib.ListN.{drop, take, length-drop}
use lib.Seq.{take_all}
use Rattle.paging.specs.Fit.{Filled}
use Rattle.paging.specs.declared.run.Run.{Run}
use Rattle.paging.specs.Run.{start_run, progress_of, Running, Continued}
use Rattle.paging.proofs.FilledLaws.{filled_few}
use Rattle.paging.proofs.RunLaws.{begin, inside_start, none, ◌follow◌, lines_are}
use Rattle.test_numbers.specs.Rows.{band_lines}
use Rattle.test_numbers.proofs.BandLaws.{lines_length, lines_next}
use Rattle.test_numbers.proofs.put_bands.Goals as goal

-- all lines from line n on
all_lines : (n i : ℕ) {d e : List ℕ} {start end : Run} → start ≡ start_run n → 45 ≤ i → Continued (take i band_lines) d e start end → Filled (drop n band_lines) d e (progress_of end)
all_lines n i {d} s h c =
    let all = lines_are c (take_all i band_lines (omega (arith, lines_length))) in
    (all.goes n [] d (subst (λ (r : Run). Running n [] d d r) (sym s) (begin n d))).filled

pub loop-band-init : goal.loop-band-init
loop-band-init c =
    none (rw c.start-run.ensures (inside_start c.args.first c.args.out.now))

pub loop-band-preserved : goal.loop-band-preserved
loop-band-preserved c =
    lines_are (c.loop-band.invariant follow c.fill_band-run.ensures) (lines_next _ c.loop-band.band-index _ c.thirds-band-items.ensures (omega arith))

pub returns : goal.returns
unfolding progress_of
returns c =
    all_lines c.args.first c.loop-band.band-index c.start-run.ensures c.loop-band-test.false c.loop-band.invariant

pub overflow_cast-result : goal.overflow_cast-result
overflow_cast-result c = record { fits = omega (arith, filled_few (returns c), length-drop c.args.first band_lines, lines_length) }
