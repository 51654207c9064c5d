use Rattle.std.proofs.Common.{length, ◌-◌, ◌≤◌}
use Rattle.desk_targets.proofs.load.load_open.Given as goal

abbrev pub invariant-loop-at : goal.invariant-loop-at
invariant-loop-at g l = l.at ≤ length l.held

abbrev pub decreases-loop-at : goal.decreases-loop-at
decreases-loop-at g l = length l.initial.held - l.at
