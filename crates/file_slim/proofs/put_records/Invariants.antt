-- `file_slim::put_records` meets its contract: the loop's state is `Begun`, with the sub-blocks that are left to come.
use mathlib.Core.List.{flatten}
use Prim.Native.Nat.{◌-◌, ◌*◌, ◌≤◌}
use lib.ListN.{drop}
use Rattle.words.specs.Words.{words_of}
use Rattle.file_rules.specs.Slim.{slim_records}
use Rattle.file_slim.proofs.WordWriting.{Begun}
use Rattle.file_slim.proofs.put_records.Given as goal

abbrev pub invariant-loop : goal.invariant-loop
invariant-loop l =
    (l.o ≤ 255 * l.counter)
    × Begun (flatten (slim_records l.row.subs.least l.row.subs.count (words_of l.b))) (flatten (slim_records l.row.subs.least (l.row.subs.count - l.counter) (drop l.o (words_of l.b)))) l.initial.out l.out l.n
