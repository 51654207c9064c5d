use Rattle.units.specs.Frequency.{centihertz}
use Rattle.text.proofs.Writing.{◌then◌}
use Rattle.units.proofs.frequency.put_centihertz.Goals as goal

pub returns : goal.returns
unfolding centihertz
returns c = rw c.from-n.ensures at (c.put_short-a.ensures then c.put_fraction.ensures)
