-- `check::check` answers the verdict.
use mathlib.Core.Path.{sym, ap, ◌∙◌}
use Rattle.file_refusal.proofs.Handed.{handed_on}
use Rattle.call_check.specs.Check.{outline_of, answered, verdict, values, Checked}
use Rattle.call_check.proofs.check.check.Goals as goal

pub returns-in_err-state : goal.returns-in_err-state
unfolding Checked verdict answered
returns-in_err-state c = ap values (handed_on _ _ c.from_residual.ensures.1 ∙ ap answered (sym c.in_err-state.was ∙ c.survey.ensures))

pub returns : goal.returns
unfolding Checked verdict answered outline_of
returns c = ap values (ap answered (sym c.in_ok-state.was ∙ c.survey.ensures))
