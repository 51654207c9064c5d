-- `starts::Starts::start` is the start at a place; no other number is below 9.
use Rattle.std.proofs.Common.{arith, sym, ◌≤◌}
use lib.ListN.{get_or-eq_default}
use Rattle.call_check.specs.Starts.{absent, starts_in}
use Rattle.call_check.proofs.starts.Starts.start.Goals as goal

pub returns-in_default : goal.returns-in_default
returns-in_default c =
    let past : 9 ≤ c.args.place = omega arith in
    sym (get_or-eq_default (starts_in c.args.self) absent {n = c.args.place} past)
