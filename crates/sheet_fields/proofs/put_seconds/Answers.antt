use Rattle.text.proofs.Writing.{◌then◌, text_is}
use Rattle.sheet_fields.proofs.ColumnLaws.{three_fields}
use Rattle.sheet_fields.proofs.put_seconds.Goals as goal

pub returns : goal.returns
returns c =
    text_is (c.put_whole-a.ensures then c.put_whole.ensures then c.put_whole-2.ensures then c.put_byte.ensures) (three_fields _ _ _)
