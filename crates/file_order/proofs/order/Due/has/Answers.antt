-- `order::Due::has` is `is_due`.
use mathlib.Core.Bool.{or-true}
use borrow.Author.Tests.{eq-eqb, ne_eqb}
use Rattle.file_order.specs.Order.{is_due}
use Rattle.file_order.proofs.order.Due.has.Goals as goal

pub returns-then-key-self : goal.returns-then-key-self
unfolding is_due
returns-then-key-self c = simp (eq-eqb _ _ c.if-key-self.true)

pub returns-then-key-self-2 : goal.returns-then-key-self-2
unfolding is_due
returns-then-key-self-2 c = rw (eq-eqb _ _ c.if-key-self-2.true, or-true)

pub returns : goal.returns
unfolding is_due
returns c = rw (ne_eqb _ _ c.if-key-self.false, ne_eqb _ _ c.if-key-self-2.false)
