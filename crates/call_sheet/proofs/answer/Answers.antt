-- `answer` meets its contract: the label and the room are tested before anything is written.
use mathlib.Core.Path.{refl}
use native.Mathlib.Omega.{arith}
use Rattle.call_sheet.proofs.ReplyLaws.{sheeted_label, sheeted_room, sheeted_written}
use Rattle.call_sheet.proofs.answer.Goals as goal

pub returns-then-label-gt507 : goal.returns-then-label-gt507
returns-then-label-gt507 c =
    sheeted_label c.args.file.now c.args.label.now c.args.n c.args.out.now _ c.args.state c.requires.passed (omega (arith, c.if-label-gt507.true)) refl

pub returns-then-out-lt1024 : goal.returns-then-out-lt1024
returns-then-out-lt1024 c =
    sheeted_room c.args.file.now c.args.label.now c.args.n c.args.out.now _ c.args.state c.requires.passed (omega (arith, c.if-label-gt507.false)) (omega (arith, c.if-out-lt1024.true)) refl

pub returns : goal.returns
returns c =
    sheeted_written c.args.file.now c.args.label.now c.args.n c.args.out.now _ c.args.state c.requires.passed _ (omega (arith, c.if-label-gt507.false)) (omega (arith, c.if-out-lt1024.false)) c.fill_sheet.ensures
