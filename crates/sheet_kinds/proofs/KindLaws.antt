-- A line of a known kind was written.
use mathlib.Core.Path.{◌≡◌, sym, ap}
use mathlib.Core.List.{List}
use Prim.Native.Nat.{ℕ, ◌≤◌}
use Rattle.text.specs.Text.{Wrote}
use Rattle.text.proofs.Writing.{text_is, at_most}
use Rattle.sheet_lines.specs.Line.{bytes}
use Rattle.sheet_kinds.specs.declared.Line.{Line}
use Rattle.sheet_kinds.specs.Kinds.{line_of}

-- the line is of this kind, whose text was written
pub of_kind : {line kind : Line} {d e : List ℕ} {n p q : ℕ} → line ≡ kind → Wrote (bytes (line_of kind)) p d e n → p ≤ q
    → Wrote (bytes (line_of line)) q d e n
of_kind h w m = at_most (text_is w (ap (λ l. bytes (line_of l)) (sym h))) m
