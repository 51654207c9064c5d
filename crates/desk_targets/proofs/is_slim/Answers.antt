-- `is_slim` meets its contract: Slim refuses the bytes, or what it writes is compared with them.
use mathlib.Core.Path.{◌∙◌}
use native.Mathlib.Omega.{arith}
use borrow.Author.Rules.{rules}
use Rattle.call_slim.proofs.ReplyLaws.{slimmed_fits}
use Rattle.desk_targets.proofs.TargetLaws.{is_same_Decides, same_is, refused_not, written_same}
use Rattle.desk_targets.proofs.is_slim.Goals as goal

pub slice_bounds-is_same-end : goal.slice_bounds-is_same-end
slice_bounds-is_same-end c =
    omega (arith, slimmed_fits c.slim.ensures _ c.in-Ok.is)

pub returns-in-Err : goal.returns-in-Err
returns-in-Err c =
    refused_not (λ i. search rules) (omega (arith, c.requires)) (rw c.in-Err.is at c.slim.ensures)

pub returns-in-Ok : goal.returns-in-Ok
returns-in-Ok c =
    same_is (is_same_Decides c.is_same.ensures)
    ∙ written_same (λ i. search rules) (omega (arith, c.requires)) (rw c.in-Ok.is at c.slim.ensures)
