-- `main` is safe: the last file's size is within its array.
use Prim.Native.Nat.{◌≤◌}
use Rattle.test_additions.proofs.main.Given as goal

abbrev pub invariant-loop : goal.invariant-loop
invariant-loop l = l.size ≤ 65538
