use Rattle.text.proofs.Writing.{◌then◌}
use Rattle.sheet_names.proofs.put_buffer_column.Goals as goal

pub returns : goal.returns
returns c =
    c.put_buffered-a.ensures then c.put_byte.ensures then c.put_profile_filter.ensures
