-- `judge::survey` is `surveyed`.
use borrow.Author.Tests.{eq-eqb, ne_eqb, lt-ltb, le-ltb}
use native.Mathlib.Omega.{arith}
use mathlib.Core.Path.{◌∙◌}
use lib.ListN.{length}
use Rattle.call_check.specs.Judge.{misfit, surveyed}
use Rattle.call_check.proofs.judge.survey.Goals as goal

pub returns-then-file-eq1 : goal.returns-then-file-eq1
unfolding surveyed misfit
returns-then-file-eq1 c = simp (eq-eqb _ 1 c.if-file-eq1.true)

pub returns-then-file-gt65536 : goal.returns-then-file-gt65536
unfolding surveyed misfit
returns-then-file-gt65536 c = simp (ne_eqb _ 1 c.if-file-eq1.false, lt-ltb 65536 (length c.args.file.now) (omega arith))

pub returns : goal.returns
unfolding surveyed misfit
returns c = c.judge_blocks.ensures ∙ simp (ne_eqb _ 1 c.if-file-eq1.false, le-ltb 65536 _ c.if-file-gt65536.false)
