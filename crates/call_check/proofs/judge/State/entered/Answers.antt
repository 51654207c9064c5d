-- `judge::State::entered` is `entered_by`.
use Rattle.call_check.specs.Judge.{entered, entered_by}
use Rattle.call_check.proofs.judge.State.entered.Goals as goal

pub returns : goal.returns
unfolding entered entered_by
returns c =
    rw (c.noted.ensures, c.after.ensures, c.learnt-setup.ensures, c.key_of-key.ensures, c.word.ensures)
