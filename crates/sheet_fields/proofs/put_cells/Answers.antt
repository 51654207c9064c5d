use Rattle.text.proofs.Writing.{◌then◌, text_is}
use Rattle.sheet_fields.proofs.ColumnLaws.{three_fields}
use Rattle.sheet_fields.proofs.put_cells.Goals as goal

pub returns : goal.returns
returns c =
    text_is (c.put_result_field-a.ensures then c.put_result_field.ensures then c.put_result_field-2.ensures then c.put_byte.ensures) (three_fields _ _ _)
