use Rattle.text.proofs.Writing.{◌then◌}
use Rattle.sheet_head.proofs.put_key.Goals as goal

pub returns : goal.returns
returns c =
    c.put_bytes-a.ensures then c.put_byte.ensures
