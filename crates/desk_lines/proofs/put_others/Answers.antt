use Rattle.text.proofs.Writing.{◌then◌}
use Rattle.desk_lines.proofs.put_others.Goals as goal

pub returns : goal.returns
returns c =
    c.put_count-a.ensures then c.put_decimal.ensures then c.put_bytes.ensures
