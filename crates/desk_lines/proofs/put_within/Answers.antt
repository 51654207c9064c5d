use Rattle.text.proofs.Writing.{◌then◌}
use Rattle.desk_lines.proofs.put_within.Goals as goal

pub returns : goal.returns
returns c =
    c.put_bytes-a.ensures then c.put_name.ensures then c.put_bytes.ensures
