use native.Mathlib.Omega.{arith}
use mathlib.Core.Path.{sym, ◌∙◌}
use Rattle.call_check.specs.Slims.{slims_in}
use Rattle.call_check.proofs.Onward.{onward}
use Rattle.file_slim.proofs.WordWriting.{begin}
use Rattle.call_slim.proofs.Turns.{turn, turn_end, part_room, part_next, end_room, end_next}
use Rattle.call_slim.proofs.put_copy.Goals as goal

pub loop-block-init : goal.loop-block-init
loop-block-init c =
    (slims_in c.args.file.now, (rw (c.none-known.ensures, c.start-cursor.ensures) (onward _ _ c.requires.0.passed), begin _ _))

pub put_word-requires : goal.put_word-requires
put_word-requires c =
    let last = turn_end c.loop-block.invariant.1.0 _ (sym c.step.ensures ∙ c.in_default.is) in
    omega (arith, end_room c.requires.1 _ last c.loop-block.invariant.1.1)

pub returns : goal.returns
returns c =
    let last = turn_end c.loop-block.invariant.1.0 _ (sym c.step.ensures ∙ c.in_default.is) in
    end_next c.requires.1 _ last c.loop-block.invariant.1.1 c.put_word.ensures

pub put_part-n-requires : goal.put_part-n-requires
put_part-n-requires c =
    let told = turn (λ i. omega (arith, c.type_inv.file i)) c.requires.0 c.loop-block.invariant.1.0 _ (sym c.step.ensures ∙ c.in-Ok.is) in
    (told.within, part_room c.requires.1 told c.loop-block.invariant.1.1)

pub loop-block-smaller : goal.loop-block-smaller
loop-block-smaller c =
    let told = turn (λ i. omega (arith, c.type_inv.file i)) c.requires.0 c.loop-block.invariant.1.0 _ (sym c.step.ensures ∙ c.in-Ok.is) in
    omega (arith, told.further)

pub loop-block-preserved : goal.loop-block-preserved
loop-block-preserved c =
    let told = turn (λ i. omega (arith, c.type_inv.file i)) c.requires.0 c.loop-block.invariant.1.0 _ (sym c.step.ensures ∙ c.in-Ok.is) in (
      told.more,
      (rw c.known_from-known.ensures told.on, part_next c.requires.1 told c.loop-block.invariant.1.1 c.put_part-n.ensures),
    )
