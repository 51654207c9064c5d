use Rattle.std.proofs.Common.{◌<◌, get_or, arith}
use Rattle.text.proofs.Writing.{push, text_is, map_more}
use Rattle.text.proofs.put.put_mapped.Goals as goal

pub loop-i-preserved : goal.loop-i-preserved
loop-i-preserved g c =
    let src = c.args.src.now in
    let byte : get_or src c.loop-i.i 0 < 256 = omega (arith, c.type_inv.src c.loop-i.i) in
    λ h same. text_is (push _ (c.loop-i.invariant h same) (omega arith)) (map_more h src _ _ (omega arith) (same _ _ byte c.f.ensures))
