use Rattle.std.proofs.Common.{length, ◌≡◌}
use Rattle.desk_files.proofs.save.make_part.Given as goal

abbrev pub invariant-loop-tries : goal.invariant-loop-tries
invariant-loop-tries g l = length l.part ≡ length l.initial.part
