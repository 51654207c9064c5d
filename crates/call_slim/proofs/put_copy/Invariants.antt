-- `call_slim::put_copy` meets its contract: what is written, and the slim blocks that are left, are the slim copy.
use mathlib.Core.List.{List}
use Prim.Native.Nat.{suc, ◌-◌}
use lib.ListN.{length}
use Rattle.words.specs.Words.{words_of}
use Rattle.file_rules.specs.Slim.{Slim}
use Rattle.call_check.specs.Slims.{slims_in}
use Rattle.call_check.proofs.Onward.{Onward}
use Rattle.file_slim.proofs.WordWriting.{Begun}
use Rattle.call_slim.specs.Copy.{slim_words}
use Rattle.call_slim.proofs.put_copy.Given as goal

abbrev pub invariant-loop-block : goal.invariant-loop-block
invariant-loop-block l =
    (xs : List Slim) × (Onward (words_of l.file) l.cursor l.known xs × Begun (slim_words (slims_in l.file)) (slim_words xs) l.initial.out l.out l.n)

abbrev pub decreases-loop-block : goal.decreases-loop-block
decreases-loop-block l = suc (length (words_of l.file)) - l.cursor.at
