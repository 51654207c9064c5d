-- `look` meets its contract: what was read decides.
use Rattle.std.specs.Prelude.{◌-◌, Ok, Err}
use Rattle.desk_targets.specs.Target.{by_reading}
use Rattle.desk_targets.proofs.look.Goals as goal

pub returns-in-Ok : goal.returns-in-Ok
unfolding by_reading
returns-in-Ok g c = record { got = Ok (c.in-Ok.n - 0); reads = c.by_bytes.ensures }

pub returns-in-Err : goal.returns-in-Err
unfolding by_reading
returns-in-Err g c = record { got = Err _; reads = c.by_error.ensures }
