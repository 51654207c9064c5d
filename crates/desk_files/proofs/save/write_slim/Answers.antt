-- `save::write_slim` meets its contract: Slim's answer says it all.
use mathlib.Core.List.{[]}
use mathlib.Core.Path.{sym, ap, ◌∙◌}
use native.Mathlib.Omega.{arith}
use Rattle.std.proofs.lemmas.Result.{err_from_is_err_and}
use Rattle.call_slim.proofs.ReplyLaws.{slimmed_fits}
use Rattle.desk_files.specs.Desk.{told, as_due}
use Rattle.desk_files.proofs.DeskLaws.{by_slim, slim_said, system_unwritten}
use Rattle.desk_files.proofs.save.write_slim.Goals as goal

pub slice_bounds-write_all-end : goal.slice_bounds-write_all-end
slice_bounds-write_all-end g c =
    omega (arith, slimmed_fits c.slim.ensures _ c.in_ok-bytes.was)

pub returns-in_err-bytes : goal.returns-in_err-bytes
unfolding told
returns-in_err-bytes g c =
    let p = err_from_is_err_and c.from_residual.result c.from_residual.ensures.1 in
    rw (p.1, p.2) (as_due _ (ap (by_slim c.args.file.now) (sym c.in_err-bytes.was) ∙ slim_said c.slim.ensures (λ i. omega (arith, c.type_inv.file i)) (omega (arith, c.requires)) []))

pub returns-in_err-write_all : goal.returns-in_err-write_all
returns-in_err-write_all g c =
    let p = err_from_is_err_and c.from_residual-in_err-write_all.result c.from_residual-in_err-write_all.ensures.1 in
    rw p.1 (system_unwritten _ _ _ p.2)

pub returns : goal.returns
unfolding told
returns g c =
    as_due _ (ap (by_slim c.args.file.now) (sym c.in_ok-bytes.was) ∙ slim_said c.slim.ensures (λ i. omega (arith, c.type_inv.file i)) (omega (arith, c.requires)) [])
