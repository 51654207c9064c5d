-- `judge::State::closed` is `closed`: each way out is the case that its tests say.
use borrow.Author.Tests.{eq-eqb, ne_eqb}
use native.Mathlib.Omega.{arith}
use mathlib.Core.Path.{refl, sym, ◌∙◌}
use Rattle.call_check.specs.Judge.{closed}
use Rattle.call_check.proofs.judge.State.closed.Goals as goal

pub returns-then-not-has : goal.returns-then-not-has
unfolding closed
returns-then-not-has c =
    rw (c.in-End.is, sym c.has.ensures ∙ c.if-not-has.true)

pub returns-then-left-ne0 : goal.returns-then-left-ne0
unfolding closed
returns-then-left-ne0 c =
    rw (c.in-End.is, sym c.has.ensures ∙ c.if-not-has.false, ne_eqb c.in-End.left 0 (λ z. omega arith)) refl

pub returns-else-left-ne0 : goal.returns-else-left-ne0
unfolding closed
returns-else-left-ne0 c =
    rw (c.in-End.is, sym c.has.ensures ∙ c.if-not-has.false, eq-eqb _ 0 c.if-left-ne0.false)

pub returns-in-Refused : goal.returns-in-Refused
unfolding closed
returns-in-Refused c = rw c.in-Refused.is
