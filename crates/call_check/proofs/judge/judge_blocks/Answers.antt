use native.Mathlib.Omega.{arith}
use mathlib.Core.Path.{sym, ap, ◌∙◌}
use Rattle.words.specs.Words.{words_of}
use Rattle.words.proofs.WordLaws.{words_length}
use Rattle.file_walk.proofs.Steps.{step_block}
use Rattle.file_refusal.proofs.Handed.{handed_on}
use Rattle.call_check.specs.Judge.{seen_in}
use Rattle.call_check.proofs.Turns.{near, ends, ahead, turn_over, turn_deny, turn_pass}
use Rattle.call_check.proofs.judge.judge_blocks.Goals as goal

pub loop-block-init : goal.loop-block-init
loop-block-init c =
    let a = c.args in
    (omega (arith, words_length a.file.now), rw (c.first-state.ensures, c.start-cursor.ensures) (ahead (words_of a.file.now)))

pub seen-requires : goal.seen-requires
seen-requires c = near _ _ c.loop-block.invariant.0 _ (sym c.step.ensures ∙ c.in-Ok.is)

pub returns-in_err-state-in-Ok : goal.returns-in_err-state-in-Ok
returns-in_err-state-in-Ok c =
    let q = sym c.step.ensures ∙ c.in-Ok.is in
    let seen = ap (seen_in c.loop-block.state c.in-Ok.block.start) (sym c.words.ensures.words) ∙ sym c.seen.ensures ∙ c.in_err-state-in-Ok.was in
    handed_on _ _ c.from_residual.ensures.1 ∙ turn_deny c.loop-block.invariant.1 _ q seen

pub loop-block-smaller : goal.loop-block-smaller
loop-block-smaller c =
    let b = step_block _ _ _ (sym c.step.ensures ∙ c.in-Ok.is) in
    omega (arith, b.here, b.some, b.fits, b.on)

pub loop-block-preserved : goal.loop-block-preserved
loop-block-preserved c =
    let q = sym c.step.ensures ∙ c.in-Ok.is in
    let seen = ap (seen_in c.loop-block.state c.in-Ok.block.start) (sym c.words.ensures.words) ∙ sym c.seen.ensures ∙ c.in_ok-state-in-Ok.was in
    (c.loop-block.invariant.0, turn_pass c.loop-block.invariant.1 _ q _ seen)

pub closed-requires : goal.closed-requires
closed-requires c = ends _ _ c.loop-block.invariant.0 _ (sym c.step.ensures ∙ c.in-Err.is)

pub returns-in-Err : goal.returns-in-Err
returns-in-Err c = c.closed.ensures ∙ turn_over c.loop-block.invariant.1 _ (sym c.step.ensures ∙ c.in-Err.is)
