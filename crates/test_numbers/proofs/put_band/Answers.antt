use Rattle.test_numbers.specs.Rows.{band_line}
use Rattle.text.proofs.Writing.{◌then◌}
use Rattle.test_numbers.proofs.put_band.Goals as goal

pub returns : goal.returns
unfolding band_line
returns c =
    c.put_centihertz-a.ensures then c.put_byte.ensures
