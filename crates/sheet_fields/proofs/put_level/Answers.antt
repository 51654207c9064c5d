use Rattle.sheet_fields.specs.Fields.{level_field}
use Rattle.sheet_fields.proofs.put_level.Goals as goal

pub returns : goal.returns
unfolding level_field
returns c =
    rw c.level.ensures at c.put_decibels.ensures
