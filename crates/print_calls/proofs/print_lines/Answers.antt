-- `print_lines` meets its contract, and what Sheet counts fits into the output.
use native.Mathlib.Omega.{arith}
use Rattle.call_sheet.proofs.WrittenLaws.{success, counts_within, next_small, goes_on}
use Rattle.print_calls.proofs.print_lines.Goals as goal

pub slice_bounds-write_all-end : goal.slice_bounds-write_all-end
slice_bounds-write_all-end g c =
    omega (arith, counts_within (success _ (rw c.in-Ok.is at c.sheet.ensures)))

pub overflow_add-result : goal.overflow_add-result
overflow_add-result g c =
    omega (arith, next_small (success _ (rw c.in-Ok.is at c.sheet.ensures)) (omega arith))

pub returns-else-p : goal.returns-else-p
returns-else-p g c =
    omega (arith, goes_on (success _ (rw c.in-Ok.is at c.sheet.ensures)) (λ i. omega (arith, c.type_inv.file i)) c.if-p.false)
