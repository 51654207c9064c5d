-- `print_slim` is safe: what Slim counts fits into the output.
use native.Mathlib.Omega.{arith}
use Rattle.call_slim.proofs.ReplyLaws.{slimmed_fits}
use Rattle.print_calls.proofs.print_slim.Goals as goal

pub slice_bounds-write_all-end : goal.slice_bounds-write_all-end
slice_bounds-write_all-end g c =
    omega (arith, slimmed_fits c.slim.ensures _ c.in-Ok.is)
