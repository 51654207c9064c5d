-- `call_slim::put_whole` meets its contract: room is tested before anything is written.
use native.Mathlib.Omega.{arith}
use Rattle.call_slim.specs.Copy.{slim_copy, output_by}
use Rattle.call_slim.proofs.CopyLaws.{copy_few}
use Rattle.call_slim.proofs.ReplyLaws.{copy_length, no_room, has_room, left_alone}
use Rattle.call_slim.proofs.put_whole.Goals as goal

pub overflow_mul-bytes : goal.overflow_mul-bytes
overflow_mul-bytes c =
    omega (arith, c.copy_words-bytes.ensures, copy_few _ (λ i. omega (arith, c.type_inv.file i)) c.requires)

pub returns-then-out-bytes : goal.returns-then-out-bytes
returns-then-out-bytes c =
    let file = c.args.file.now in
    (no_room (slim_copy file) _ (omega (arith, copy_length file, c.copy_words-bytes.ensures)), left_alone (slim_copy file) _ _)

pub returns : goal.returns
unfolding slim_copy output_by
returns c =
    let file = c.args.file.now in
    (has_room (slim_copy file) _ _ (omega (arith, copy_length file, c.copy_words-bytes.ensures)) c.put_copy.ensures.counted, c.put_copy.ensures.out)
