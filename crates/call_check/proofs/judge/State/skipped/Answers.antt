-- `judge::State::skipped` is `skipped`.
use Rattle.call_check.specs.Judge.{skipped}
use Rattle.call_check.proofs.judge.State.skipped.Goals as goal

pub returns : goal.returns
unfolding skipped
returns c = rw c.passed_over.ensures
