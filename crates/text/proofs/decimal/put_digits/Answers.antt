use Rattle.std.proofs.Common.{◌≡◌, suc, ◌+◌, ◌-◌, length, arith}
use Rattle.text.specs.Decimal.{decimal}
use Rattle.text.proofs.DecimalLaws.{decimal_count, begin, turn, done}
use Rattle.text.proofs.decimal.put_digits.Goals as goal

pub loop-at-init : goal.loop-at-init
loop-at-init c =
    let k = c.ilog10.result in
    let v = c.args.v in
    let counted : k + 1 ≡ length (decimal v) = decimal_count k v _ c.max.ensures c.ilog10.ensures.power_le c.ilog10.ensures.next_power_gt in
    record { counted = counted; digits = begin v k c.args.out.now counted }

pub loop-at-preserved : goal.loop-at-preserved
loop-at-preserved c =
    let l = c.loop-at in
    let back : l.at ≡ suc (l.at - 1) = omega arith in
    record { counted = l.invariant.counted; digits = turn (l.at - 1) l.n _ (rw back at l.invariant.digits) (omega arith) c.digit.ensures }

pub returns : goal.returns
returns c = let zero : c.loop-at.at ≡ 0 = omega arith in done c.loop-at.n (rw zero at c.loop-at.invariant.digits) c.loop-at.invariant.counted
