use native.Mathlib.Omega.{arith}
use mathlib.Core.Path.{sym, ap, ◌∙◌}
use lib.ListN.{length}
use Rattle.call_check.specs.Slims.{slims_in}
use Rattle.call_check.proofs.Onward.{onward}
use Rattle.call_slim.proofs.CopyLaws.{copy_few}
use Rattle.call_slim.proofs.Turns.{turn, turn_end}
use Rattle.call_slim.proofs.copy_words.Goals as goal

pub loop-block-init : goal.loop-block-init
loop-block-init c =
    (slims_in c.args.file.now, (rw (c.none-known.ensures, c.start-cursor.ensures) (onward _ _ c.requires.passed), omega arith))

pub overflow_add-result : goal.overflow_add-result
overflow_add-result c =
    let end = turn_end c.loop-block.invariant.1.0 _ (sym c.step.ensures ∙ c.in_default.is) in
    omega (arith, c.loop-block.invariant.1.1, ap length end, copy_few _ (λ i. omega (arith, c.type_inv.file i)) c.requires)

pub returns : goal.returns
returns c =
    let end = turn_end c.loop-block.invariant.1.0 _ (sym c.step.ensures ∙ c.in_default.is) in
    omega (arith, c.loop-block.invariant.1.1, ap length end)

pub part_words-n-requires : goal.part_words-n-requires
part_words-n-requires c =
    let told = turn (λ i. omega (arith, c.type_inv.file i)) c.requires c.loop-block.invariant.1.0 _ (sym c.step.ensures ∙ c.in-Ok.is) in
    told.within

pub overflow_add-n : goal.overflow_add-n
overflow_add-n c =
    let told = turn (λ i. omega (arith, c.type_inv.file i)) c.requires c.loop-block.invariant.1.0 _ (sym c.step.ensures ∙ c.in-Ok.is) in
    omega (arith, c.loop-block.invariant.1.1, c.part_words-n.ensures, told.sum, copy_few _ (λ i. omega (arith, c.type_inv.file i)) c.requires)

pub loop-block-smaller : goal.loop-block-smaller
loop-block-smaller c =
    let told = turn (λ i. omega (arith, c.type_inv.file i)) c.requires c.loop-block.invariant.1.0 _ (sym c.step.ensures ∙ c.in-Ok.is) in
    omega (arith, told.further)

pub loop-block-preserved : goal.loop-block-preserved
loop-block-preserved c =
    let told = turn (λ i. omega (arith, c.type_inv.file i)) c.requires c.loop-block.invariant.1.0 _ (sym c.step.ensures ∙ c.in-Ok.is) in
    (told.more, (rw c.known_from-known.ensures told.on, omega (arith, c.loop-block.invariant.1.1, c.part_words-n.ensures, told.sum)))
