use borrow.Author.Rules.{rules}
use native.Mathlib.Omega.{arith}
use Rattle.text.proofs.Writing.{◌then◌, text_is, at_most, nothing}
use Rattle.sheet_fields.proofs.ColumnLaws.{column_none, column_some}
use Rattle.sheet_fields.proofs.put_column.Goals as goal

pub returns-then-code-eq0 : goal.returns-then-code-eq0
returns-then-code-eq0 c = text_is (at_most (nothing _) (search rules)) (column_none _ _ _ (omega arith))

pub returns : goal.returns
returns c =
    text_is (c.put_byte-a.ensures then c.put_buffer_column.ensures) (column_some _ _ _ (λ z. c.if-code-eq0.false (omega arith)))
