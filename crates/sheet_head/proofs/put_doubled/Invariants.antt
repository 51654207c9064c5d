-- `put_doubled` meets its contract: the loop's state is `Pieces`, of the bytes.
use Prim.Native.Nat.{ℕ}
use mathlib.Core.List.{List}
use Rattle.text.specs.Text.{shown}
use Rattle.text.proofs.Pieces.{Pieces}
use Rattle.sheet_head.specs.Head.{doubled_byte}
use Rattle.sheet_head.proofs.put_doubled.Given as goal

abbrev put : ℕ → List ℕ
put b = doubled_byte (shown b)

abbrev pub invariant-loop-b : goal.invariant-loop-b
invariant-loop-b l = Pieces put 2 l.text l.initial.out l.out l.at l.b-index
