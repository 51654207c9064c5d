use Rattle.units.specs.Level.{fixed}
use Rattle.text.proofs.Writing.{◌then◌}
use Rattle.units.proofs.level.put_fixed.Goals as goal

pub returns : goal.returns
unfolding fixed
returns c =
    c.put_short-a.ensures then c.put_byte.ensures then c.put_digit.ensures
