-- `setup::Setup::classes` is `classes_of`.
use mathlib.Core.Path.{refl}
use borrow.Author.Tests.{ne_eqb}
use Rattle.file_order.specs.Setup.{classes_of}
use Rattle.file_order.proofs.setup.Setup.classes.Goals as goal

pub returns-in-1 : goal.returns-in-1
unfolding classes_of
returns-in-1 c = rw c.in-1.is refl

pub returns-in-2 : goal.returns-in-2
unfolding classes_of
returns-in-2 c = rw c.in-2.is refl

pub returns-in_default : goal.returns-in_default
unfolding classes_of
returns-in_default c = simp (ne_eqb _ 1 c.in_default.in_default-own.rest.0.1, ne_eqb _ 2 c.in_default.in_default-own.rest.1)
