use Prim.Native.Nat.{ℕ}
use native.Mathlib.Nat.{le_refl}
use native.Mathlib.Omega.{arith}
use mathlib.Core.List.{List}
use mathlib.Core.Path.{refl, ap}
use Rattle.text.specs.Text.{shown}
use Rattle.text.proofs.Pieces.{begin, next, ended}
use Rattle.text.proofs.Writing.{text_is}
use Rattle.sheet_head.specs.Head.{doubled_byte}
use Rattle.sheet_head.proofs.HeadLaws.{doubled_shown}
use Rattle.sheet_head.proofs.put_doubled.Goals as goal

abbrev put : ℕ → List ℕ
put b = doubled_byte (shown b)

pub loop-b-init : goal.loop-b-init
loop-b-init c = begin _ _ _ _

pub loop-b-preserved : goal.loop-b-preserved
loop-b-preserved c =
    next put 2 c.args.text.now c.loop-b.invariant (omega arith) (omega arith) refl (text_is c.put_doubled_byte-at.ensures (ap doubled_byte c.show.ensures))

pub returns : goal.returns
returns c =
    let text = c.args.text.now in
    text_is (ended put 2 text c.loop-b.invariant (omega arith) (le_refl _)) (doubled_shown text)
