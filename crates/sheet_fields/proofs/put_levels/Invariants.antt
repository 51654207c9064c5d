-- `put_levels` meets its contract: the loop's state is `Pieces`, of the words.
use Rattle.words.specs.Words.{words_of}
use Rattle.sheet_fields.specs.Fields.{level_field}
use Rattle.text.proofs.Pieces.{Pieces}
use Rattle.sheet_fields.proofs.CellLaws.{cell}
use Rattle.sheet_fields.proofs.put_levels.Given as goal

abbrev pub invariant-loop-i : goal.invariant-loop-i
invariant-loop-i l = Pieces (cell level_field) 13 (words_of l.words) l.initial.out l.out l.at l.i
