-- `order::Due::passed_over` is `passed_over`.
use borrow.Author.Tests.{eq-eqb, ne_eqb}
use mathlib.Core.Path.{◌∙◌}
use Rattle.file_order.specs.Order.{passed_over}
use Rattle.file_order.proofs.order.Due.passed_over.Goals as goal

pub returns-then-self-eq1 : goal.returns-then-self-eq1
unfolding passed_over
returns-then-self-eq1 c = c.only.ensures ∙ simp (eq-eqb _ 0x01 c.if-self-eq1.true)

pub returns-else-self-eq1 : goal.returns-else-self-eq1
unfolding passed_over
returns-else-self-eq1 c = simp (ne_eqb _ 0x01 c.if-self-eq1.false)
