-- `decimal::put_digits` meets its contract: after the digits that are left stand those that are written.
use Rattle.std.proofs.Common.{◌≡◌, length}
use Rattle.text.specs.Decimal.{decimal}
use Rattle.text.proofs.DecimalLaws.{Left}
use Rattle.text.proofs.decimal.put_digits.Given as goal

abbrev pub invariant-loop-at : goal.invariant-loop-at
invariant-loop-at l = record { counted : l.count ≡ length (decimal l.v); digits : Left (decimal l.v) l.initial.out l.out l.at l.n }
