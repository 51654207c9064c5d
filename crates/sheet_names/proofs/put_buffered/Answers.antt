use Rattle.text.proofs.Writing.{◌then◌}
use Rattle.sheet_names.proofs.put_buffered.Goals as goal

pub returns : goal.returns
returns c =
    c.put_profile-a.ensures then c.put_byte.ensures then c.put_buffer_code.ensures
