-- `meter_slim` answers and writes as Slim does.
use mathlib.Core.Path.{ap}
use native.Mathlib.Omega.{arith}
use Rattle.meter.specs.Exports.{slim_struct}
use Rattle.meter.proofs.FieldLaws.{slimmed_near}
use Rattle.meter.proofs.ExportLaws.{slim_given}
use Rattle.meter.proofs.meter_slim.Goals as goal

pub overflow_cast-result : goal.overflow_cast-result
overflow_cast-result c =
    omega (arith, slimmed_near c.slim.ensures c.in-Err.is)

pub returns-in-Ok : goal.returns-in-Ok
unfolding slim_struct
returns-in-Ok c =
    slim_given c.slim.ensures (ap slim_struct c.in-Ok.is)

pub returns-in-Err : goal.returns-in-Err
unfolding slim_struct
returns-in-Err c =
    slim_given c.slim.ensures (ap slim_struct c.in-Err.is)
