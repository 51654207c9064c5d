-- `lines::print_walk` is safe: a line has at most 1,024 bytes.
use Prim.Native.Nat.{◌*◌, ◌≤◌}
use Rattle.test_calls.proofs.lines.print_walk.Given as goal

abbrev pub invariant-loop-n : goal.invariant-loop-n
invariant-loop-n g l = (l.at ≤ 1024 * l.n) × (l.right ≤ l.n)
