use Rattle.text.proofs.Writing.{◌then◌}
use Rattle.sheet_names.specs.Names.{profile_name}
use Rattle.sheet_names.proofs.put_profile.Goals as goal

pub returns : goal.returns
unfolding profile_name
returns c =
    c.put_byte-a.ensures then c.put_short.ensures
