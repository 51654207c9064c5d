-- `order::Due::after` is `due_after`.
use mathlib.Core.Path.{sym, ◌∙◌}
use Rattle.file_walk.specs.Walk.{end_marker}
use Rattle.file_models.proofs.ListLaws.{found_none}
use Rattle.file_order.specs.Order.{only, order, due_after}
use Rattle.file_order.proofs.order.Due.after.Goals as goal

pub returns-in-1 : goal.returns-in-1
unfolding due_after
returns-in-1 c = rw c.in-1.is c.only.ensures

pub returns-in-2 : goal.returns-in-2
unfolding due_after
returns-in-2 c = rw c.in-2.is c.only-in-2.ensures

pub returns-in-3 : goal.returns-in-3
unfolding due_after
returns-in-3 c = rw c.in-3.is c.only-in-3.ensures

pub returns-in-4 : goal.returns-in-4
unfolding due_after
returns-in-4 c = rw c.in-4.is c.only-in-4.ensures

pub returns-in-5 : goal.returns-in-5
unfolding due_after
returns-in-5 c = rw c.in-5.is c.after_profiles.ensures

pub returns-in-7 : goal.returns-in-7
unfolding due_after
returns-in-7 c = rw c.in-7.is c.after_results.ensures

pub returns-in-14 : goal.returns-in-14
unfolding due_after
returns-in-14 c = rw c.in-14.is c.either.ensures

pub returns-in-16 : goal.returns-in-16
unfolding due_after
returns-in-16 c = rw c.in-16.is c.either-in-16.ensures

pub returns-in-9 : goal.returns-in-9
unfolding due_after
returns-in-9 c = rw c.in-9.is c.only-in-9.ensures

pub returns-in-267 : goal.returns-in-267
unfolding due_after
returns-in-267 c = rw c.in-267.is c.only-in-267.ensures

pub returns-in-523 : goal.returns-in-523
unfolding due_after
returns-in-523 c = rw c.in-523.is c.only-in-523.ensures

pub returns-in_default : goal.returns-in_default
unfolding due_after
returns-in_default c = c.only-in_default.ensures ∙ sym (found_none (only end_marker) (Unit {0}) (order c.args.setup) _ c.in_default.in_default-own.rest)
