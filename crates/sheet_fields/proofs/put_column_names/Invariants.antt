-- `put_column_names` meets its contract: the loop's state is `Pieces`, of the numbers from 1 on.
use mathlib.Core.List.{[], ◌∷◌}
use Rattle.sheet_fields.specs.Fields.{lettered}
use Rattle.words.specs.Numbers.{numbers_from}
use Rattle.text.proofs.Pieces.{Pieces}
use Rattle.sheet_fields.proofs.CellLaws.{cell}
use Rattle.sheet_fields.proofs.put_column_names.Given as goal

abbrev pub invariant-loop-i : goal.invariant-loop-i
invariant-loop-i l = Pieces (cell (lettered (l.letter ∷ []))) 11 (numbers_from 1 l.count) l.initial.out l.out l.at l.i
