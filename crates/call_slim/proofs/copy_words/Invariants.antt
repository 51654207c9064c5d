-- `call_slim::copy_words` meets its contract: what is counted, and the slim blocks that are left, are the slim copy.
use mathlib.Core.List.{List}
use mathlib.Core.Path.{◌≡◌}
use Prim.Native.Nat.{suc, ◌+◌, ◌-◌}
use lib.ListN.{length}
use Rattle.words.specs.Words.{words_of}
use Rattle.file_rules.specs.Slim.{Slim}
use Rattle.call_check.specs.Slims.{slims_in}
use Rattle.call_check.proofs.Onward.{Onward}
use Rattle.call_slim.specs.Copy.{slim_words}
use Rattle.call_slim.proofs.copy_words.Given as goal

abbrev pub invariant-loop-block : goal.invariant-loop-block
invariant-loop-block l =
    (xs : List Slim) × (Onward (words_of l.file) l.cursor l.known xs × (l.n + length (slim_words xs) ≡ length (slim_words (slims_in l.file))))

abbrev pub decreases-loop-block : goal.decreases-loop-block
decreases-loop-block l = suc (length (words_of l.file)) - l.cursor.at
