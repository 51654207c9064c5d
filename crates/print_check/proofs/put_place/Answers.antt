use Rattle.text.proofs.Writing.{◌then◌}
use Rattle.print_check.proofs.put_place.Goals as goal

pub returns : goal.returns
returns c =
    c.put_bytes-a.ensures then c.put_decimal.ensures then c.put_byte.ensures
