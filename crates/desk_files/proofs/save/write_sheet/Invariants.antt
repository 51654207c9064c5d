-- `save::write_sheet` meets its contract: n lines of the sheet have been written so far.
use mathlib.Core.Path.{◌≡◌}
use Prim.Native.Nat.{◌-◌, ◌≤◌, ◌<◌}
use lib.ListN.{length}
use Rattle.sheet_page.specs.Sheet.{sheet_texts}
use Rattle.desk_files.proofs.save.write_sheet.Given as goal

abbrev pub invariant-loop-p : goal.invariant-loop-p
invariant-loop-p g l = (l.n < 4294967296) × (length l.out ≡ length l.initial.out) × (l.n ≤ length (sheet_texts l.file l.label))

abbrev pub decreases-loop-p : goal.decreases-loop-p
decreases-loop-p g l = 4294967296 - l.n
