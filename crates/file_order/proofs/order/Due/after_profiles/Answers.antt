-- `order::Due::after_profiles` is `due_after_profiles`.
use borrow.Author.Tests.{eq-eqb, ne_eqb}
use mathlib.Core.Path.{◌∙◌}
use Rattle.file_order.specs.Order.{due_after_profiles}
use Rattle.file_order.proofs.order.Due.after_profiles.Goals as goal

pub returns-then-model-eq953 : goal.returns-then-model-eq953
unfolding due_after_profiles
returns-then-model-eq953 c = c.only.ensures ∙ simp (eq-eqb _ 953 c.if-model-eq953.true)

pub returns-else-model-eq953 : goal.returns-else-model-eq953
unfolding due_after_profiles
returns-else-model-eq953 c = c.either.ensures ∙ simp (ne_eqb _ 953 c.if-model-eq953.false)
