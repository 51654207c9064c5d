-- `order::key_of` is `key_of`.
use borrow.Author.Tests.{eq-eqb, ne_eqb}
use Rattle.file_order.specs.Order.{key_of}
use Rattle.file_order.proofs.order.key_of.Goals as goal

pub returns-then-id-eq11 : goal.returns-then-id-eq11
unfolding key_of
returns-then-id-eq11 c = simp (eq-eqb _ 0x0B c.if-id-eq11.true)

pub returns-else-id-eq11 : goal.returns-else-id-eq11
unfolding key_of
returns-else-id-eq11 c = simp (ne_eqb _ 0x0B c.if-id-eq11.false)
