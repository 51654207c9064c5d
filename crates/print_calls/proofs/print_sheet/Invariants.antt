-- `print_sheet` ends: each turn goes on by a line at least.
use Rattle.std.proofs.Common.{◌-◌, ◌^◌}
use Rattle.print_calls.proofs.print_sheet.Given as goal

abbrev pub decreases-loop-next : goal.decreases-loop-next
decreases-loop-next g l = 2 ^ 32 - l.n
