use Rattle.std.proofs.Common.{◌≡◌, ◌≤◌, arith, ap, pos, ◌+ℤ◌, ◌*◌, to_z, of_z}
use mir.Syntax.{w16, w32}
use mir.Val.{SFits}
use Rattle.std.proofs.lemmas.Int.{ints}
use Rattle.units.specs.Level.{signed, level, bound}
use Rattle.units.proofs.SignedLaws.{signed_fits, product}
use Rattle.units.proofs.level.Tenths.bound.Goals as goal

pub overflow_add-result : goal.overflow_add-result
unfolding level
overflow_add-result c =
    let f : SFits w16 (signed c.args.bottom) = signed_fits c.args.bottom (omega arith) in
    let above : c.from.result * c.from-2.result ≤ 2147385345 = product c.from.result c.from-2.result (omega arith) (omega arith) in
    rw (c.level.ensures, c.cast_signed.ensures) (record { sfits = grind (arith, ints, f.sfits, above) })

pub returns : goal.returns
unfolding bound level
returns c =
    let args = c.args in
    let f : SFits w16 (signed c.args.bottom) = signed_fits c.args.bottom (omega arith) in
    let times : c.from.result * c.from-2.result ≡ args.class * args.width = rw (c.from.ensures, c.from-2.ensures) in
    let above : c.from.result * c.from-2.result ≤ 2147385345 = product c.from.result c.from-2.result (omega arith) (omega arith) in
    let base : c.level.result.0 ≡ signed args.bottom = ap (λ t. t.0) c.level.ensures in
    let same : to_z w32 (of_z w32 (to_z w32 (of_z w32 c.level.result.0) +ℤ to_z w32 (of_z w32 c.cast_signed.result))) ≡ signed args.bottom +ℤ pos (args.class * args.width) = omega (arith, ints, f.sfits) in
    ap (λ z. record { 0 = z }) same
