use Rattle.sheet_fields.specs.Fields.{lettered}
use Rattle.text.proofs.Writing.{◌then◌}
use Rattle.sheet_fields.proofs.put_lettered.Goals as goal

pub returns : goal.returns
unfolding lettered
returns c =
    c.put_byte-a.ensures then c.put_short.ensures
