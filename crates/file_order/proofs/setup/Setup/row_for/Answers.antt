-- `setup::Setup::row_for` is `row_for`.
use Rattle.file_order.proofs.KnownLaws.{held_by}
use Rattle.file_order.proofs.setup.Setup.row_for.Goals as goal

pub returns-then-row : goal.returns-then-row
returns-then-row c =
    rw (c.histogram_row.ensures, c.classes.ensures, held_by _ c.args.header, ← c.row_of-row.ensures, c.if-row.true)

pub returns-then-row-2 : goal.returns-then-row-2
returns-then-row-2 c =
    rw (c.logger_row.ensures, held_by _ c.args.header, ← c.row_of-row.ensures, c.if-row.false, c.if-row-2.true)

pub returns : goal.returns
returns c =
    rw (held_by _ c.args.header, ← c.row_of-row.ensures, c.if-row.false, c.if-row-2.false)
