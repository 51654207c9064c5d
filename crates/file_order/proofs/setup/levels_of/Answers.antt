-- `setup::levels_of` is `levels_of`.
use borrow.Author.Tests.{eq-eqb, ne_eqb}
use Rattle.file_order.specs.Setup.{levels_of}
use Rattle.file_order.proofs.setup.levels_of.Goals as goal

pub returns-then-code-eq0 : goal.returns-then-code-eq0
unfolding levels_of
returns-then-code-eq0 c = simp (eq-eqb _ 0 c.if-code-eq0.true)

pub returns-else-code-eq0 : goal.returns-else-code-eq0
unfolding levels_of
returns-else-code-eq0 c = simp (ne_eqb _ 0 c.if-code-eq0.false)
