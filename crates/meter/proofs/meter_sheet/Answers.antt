-- `meter_sheet` answers and writes as Sheet does.
use mathlib.Core.Path.{ap}
use native.Mathlib.Omega.{arith}
use Rattle.meter.specs.Exports.{sheet_struct}
use Rattle.meter.proofs.FieldLaws.{sheeted_near}
use Rattle.meter.proofs.ExportLaws.{sheet_given}
use Rattle.meter.proofs.meter_sheet.Goals as goal

pub overflow_cast-result : goal.overflow_cast-result
overflow_cast-result c =
    omega (arith, sheeted_near c.sheet.ensures c.in-Err.is)

pub returns-in-Ok : goal.returns-in-Ok
unfolding sheet_struct
returns-in-Ok c =
    sheet_given c.sheet.ensures (ap sheet_struct c.in-Ok.is)

pub returns-in-Err : goal.returns-in-Err
unfolding sheet_struct
returns-in-Err c =
    sheet_given c.sheet.ensures (ap sheet_struct c.in-Err.is)
