use native.Mathlib.Omega.{arith}
use Rattle.text.proofs.Writing.{◌then◌, text_is, at_most}
use Rattle.sheet_fields.proofs.ColumnLaws.{band_columns_lem}
use Rattle.sheet_fields.proofs.put_band_columns.Goals as goal

pub returns : goal.returns
returns c =
    at_most (text_is (c.put_column_names-a.ensures then c.put_column_names.ensures) (band_columns_lem _ _)) (omega arith)
