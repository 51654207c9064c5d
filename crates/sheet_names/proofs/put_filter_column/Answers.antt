use Rattle.text.proofs.Writing.{◌then◌}
use Rattle.sheet_names.specs.Names.{filter_column}
use Rattle.sheet_names.proofs.put_filter_column.Goals as goal

pub returns : goal.returns
unfolding filter_column
returns c =
    c.put_profile-a.ensures then c.put_byte.ensures then c.put_profile_filter.ensures
