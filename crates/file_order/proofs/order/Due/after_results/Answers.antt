-- `order::Due::after_results` is `due_after_results`.
use borrow.Author.Tests.{ne_eqb}
use mathlib.Core.Path.{◌∙◌}
use Rattle.file_order.specs.Order.{due_after_results}
use Rattle.file_order.proofs.order.Due.after_results.Goals as goal

pub returns-in-2 : goal.returns-in-2
unfolding due_after_results
returns-in-2 c = rw c.in-2.is c.only.ensures

pub returns-in-3 : goal.returns-in-3
unfolding due_after_results
returns-in-3 c = rw c.in-3.is c.only-in-3.ensures

pub returns-in_default : goal.returns-in_default
unfolding due_after_results
returns-in_default c = c.either.ensures ∙ simp (ne_eqb _ 2 c.in_default.in_default-own.rest.0.1, ne_eqb _ 3 c.in_default.in_default-own.rest.1)
