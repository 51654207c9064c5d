use borrow.Author.Rules.{rules}
use native.Mathlib.Omega.{arith}
use Prim.Native.Nat.{◌%◌}
use borrow.Author.Tests.{eq-eqb, ne_eqb}
use Rattle.units.specs.Frequency.{fraction}
use Rattle.text.proofs.Writing.{◌then◌, at_most, nothing}
use Rattle.units.proofs.frequency.put_fraction.Goals as goal

pub returns-then-f-eq0 : goal.returns-then-f-eq0
unfolding fraction
returns-then-f-eq0 c = let f = c.args.f in simp (eq-eqb f 0 (omega arith)) (at_most (nothing _) (search rules))

pub returns-then-f-eq0-2 : goal.returns-then-f-eq0-2
unfolding fraction
returns-then-f-eq0-2 c =
    let f = c.args.f in
    simp (ne_eqb f 0 c.if-f-eq0.false, eq-eqb (f % 10) 0 (omega arith))
    (at_most (c.put_byte-a.ensures then c.put_digit.ensures) (search rules))

pub returns : goal.returns
unfolding fraction
returns c =
    let f = c.args.f in
    simp (ne_eqb f 0 c.if-f-eq0.false, ne_eqb (f % 10) 0 (λ z. c.if-f-eq0-2.false (omega arith)))
    (at_most (c.put_byte-a.ensures then c.put_digit.ensures then c.put_digit-2.ensures) (search rules))
