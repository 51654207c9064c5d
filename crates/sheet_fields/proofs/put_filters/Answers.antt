use Rattle.text.proofs.Writing.{◌then◌, text_is}
use Rattle.sheet_fields.proofs.ColumnLaws.{three_fields}
use Rattle.sheet_fields.proofs.put_filters.Goals as goal

pub returns : goal.returns
returns c =
    text_is (c.put_filter-a.ensures then c.put_filter.ensures then c.put_filter-2.ensures then c.put_byte.ensures) (three_fields _ _ _)
