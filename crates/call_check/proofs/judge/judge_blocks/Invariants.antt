-- `judge::judge_blocks` is the judgement of the whole walk.
use Prim.Native.Nat.{suc, ◌-◌, ◌≤◌}
use lib.ListN.{length}
use Rattle.words.specs.Words.{words_of}
use Rattle.file_walk.specs.Walk.{walked}
use Rattle.call_check.specs.Judge.{first_state, judge}
use Rattle.call_check.proofs.Turns.{Ahead}
use Rattle.call_check.proofs.judge.judge_blocks.Given as goal

abbrev pub invariant-loop-block : goal.invariant-loop-block
invariant-loop-block l =
    (length (words_of l.file) ≤ 32768) × Ahead (words_of l.file) l.cursor l.state (judge first_state (walked (words_of l.file)))

abbrev pub decreases-loop-block : goal.decreases-loop-block
decreases-loop-block l = suc (length (words_of l.file)) - l.cursor.at
