use Rattle.text.proofs.Writing.{◌then◌, text_is}
use Rattle.sheet_fields.proofs.ColumnLaws.{three_columns}
use Rattle.sheet_fields.proofs.put_columns.Goals as goal

pub returns : goal.returns
returns c =
    text_is (c.put_column-a.ensures then c.put_column.ensures then c.put_column-2.ensures) (three_columns _ _ _)
