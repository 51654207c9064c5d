-- `setup::bands_of` is `bands_of`.
use borrow.Author.Tests.{eq-eqb, ne_eqb}
use native.Mathlib.Omega.{arith}
use Rattle.file_order.specs.Setup.{bands_of}
use Rattle.file_order.proofs.setup.bands_of.Goals as goal

pub returns-then-buffering-ne0 : goal.returns-then-buffering-ne0
unfolding bands_of
returns-then-buffering-ne0 c = simp (ne_eqb c.args.buffering 0 (λ z. omega arith))

pub returns-in-2 : goal.returns-in-2
unfolding bands_of
returns-in-2 c = rw (c.if-buffering-ne0.false, c.in-2.is)

pub returns-in-3 : goal.returns-in-3
unfolding bands_of
returns-in-3 c = rw (c.if-buffering-ne0.false, c.in-3.is)

pub returns-in_default : goal.returns-in_default
unfolding bands_of
returns-in_default c = simp (eq-eqb _ 0 c.if-buffering-ne0.false, ne_eqb _ 2 c.in_default.in_default-own.rest.0.1, ne_eqb _ 3 c.in_default.in_default-own.rest.1)
