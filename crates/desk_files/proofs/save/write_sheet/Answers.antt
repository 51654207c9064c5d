-- `save::write_sheet` meets its contract: n lines of the sheet have been written so far.
use mathlib.Core.Path.{◌∙◌}
use native.Mathlib.Omega.{arith}
use Rattle.std.proofs.lemmas.Result.{err_from_is_err_and}
use Rattle.call_sheet.proofs.WrittenLaws.{success, counts_within, next_small, goes_on}
use Rattle.desk_files.specs.Desk.{told, as_due}
use Rattle.desk_files.proofs.DeskLaws.{sheet_refused, lines_within, sheet_done, system_unwritten}
use Rattle.desk_files.proofs.save.write_sheet.Goals as goal

pub returns-in_err-p : goal.returns-in_err-p
unfolding told
returns-in_err-p g c =
    let p = err_from_is_err_and c.from_residual.result c.from_residual.ensures.1 in
    rw (p.1, p.2) (as_due _ (sheet_refused (rw c.in_err-p.was at c.sheet.ensures) (omega (arith, c.loop-p.invariant.1, c.requires))))

pub slice_bounds-write_all-end : goal.slice_bounds-write_all-end
slice_bounds-write_all-end g c = omega (arith, counts_within (success _ (rw c.in_ok-p.was at c.sheet.ensures)))

pub returns-in_err-write_all : goal.returns-in_err-write_all
returns-in_err-write_all g c =
    let p = err_from_is_err_and c.from_residual-in_err-write_all.result c.from_residual-in_err-write_all.ensures.1 in
    rw p.1 (system_unwritten _ _ _ p.2)

pub overflow_add-n : goal.overflow_add-n
overflow_add-n g c = record { fits = next_small (success _ (rw c.in_ok-p.was at c.sheet.ensures)) c.loop-p.invariant.0 }

pub returns-then-p : goal.returns-then-p
unfolding told
returns-then-p g c = as_due _ (sheet_done (success _ (rw c.in_ok-p.was at c.sheet.ensures)) c.loop-p.invariant.2 c.if-p.true)

pub loop-p-smaller : goal.loop-p-smaller
loop-p-smaller g c =
    let t = success _ (rw c.in_ok-p.was at c.sheet.ensures) in
    omega (arith, next_small t c.loop-p.invariant.0, goes_on t (λ i. omega (arith, c.type_inv.file i)) c.if-p.false)

pub loop-p-preserved : goal.loop-p-preserved
loop-p-preserved g c =
    let t = success _ (rw c.in_ok-p.was at c.sheet.ensures) in
    let inv = c.loop-p.invariant in
    (next_small t inv.0, c.sheet.auto.out ∙ inv.1, lines_within t inv.2)
