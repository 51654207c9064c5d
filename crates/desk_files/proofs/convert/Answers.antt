-- `convert` meets its contract: Check refuses, or the task is done.
use mathlib.Core.Path.{refl}
use Rattle.desk_files.specs.Desk.{refused, checked, saved}
use Rattle.desk_files.proofs.DeskLaws.{with_front, check_refused, check_accepted}
use Rattle.desk_files.proofs.convert.Goals as goal

pub returns-in-Err : goal.returns-in-Err
returns-in-Err g c =
    let a = c.args in
    refused _ _ (with_front c.front_of-front.ensures (check_refused a.order.now.task a.file.now a.order.now.label.now _ (rw c.in-Err.is at c.check.ensures)))

pub returns-in-Some : goal.returns-in-Some
returns-in-Some g c =
    let a = c.args in
    rw c.in-Some.ensures.written (saved c.in-Some.form _ refl (check_accepted a.file.now a.order.now.label.now _ (rw c.in-Ok.is at c.check.ensures)) c.save.ensures)

pub returns-in-None : goal.returns-in-None
returns-in-None g c =
    let a = c.args in
    rw c.in-None.ensures.nothing (checked refl (check_accepted a.file.now a.order.now.label.now _ (rw c.in-Ok.is at c.check.ensures)))
