use native.Mathlib.Nat.{le_trans}
use native.Mathlib.Omega.{arith}
use Rattle.text.proofs.DecimalLaws.{decimal_length}
use Rattle.text.proofs.Writing.{at_most}
use Rattle.text.proofs.decimal.put_decimal.Goals as goal

pub put_digits-requires : goal.put_digits-requires
put_digits-requires c = le_trans (decimal_length 19 _ (omega arith)) (omega arith)

pub returns : goal.returns
returns c = at_most c.put_digits.ensures (decimal_length 19 _ (omega arith))
