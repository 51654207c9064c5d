-- `put_starts` meets its contract: the loop's state is `Pieces`, of the nine places.
use Rattle.words.specs.Numbers.{numbers_from}
use Rattle.text.proofs.Pieces.{Pieces}
use Rattle.call_check.specs.Starts.{place_count}
use Rattle.print_check.specs.Replies.{start_entry}
use Rattle.print_check.proofs.put_starts.Given as goal

abbrev pub invariant-loop-place : goal.invariant-loop-place
invariant-loop-place l = Pieces (start_entry l.starts) 19 (numbers_from 0 place_count) l.initial.out l.out l.at l.place
