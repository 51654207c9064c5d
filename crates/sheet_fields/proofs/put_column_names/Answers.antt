use mathlib.Core.List.{[], ◌∷◌}
use native.Mathlib.Omega.{arith}
use Rattle.sheet_fields.specs.Fields.{lettered}
use Rattle.words.specs.Numbers.{numbers_from}
use Rattle.text.proofs.Pieces.{begin, next, ended}
use Rattle.text.proofs.Writing.{text_is}
use Rattle.sheet_fields.proofs.CellLaws.{cell, cells_are}
use Rattle.words.proofs.NumberLaws.{numbers_length, number_at}
use Rattle.sheet_fields.proofs.put_column_names.Goals as goal

pub loop-i-init : goal.loop-i-init
loop-i-init c = begin _ _ _ _

pub loop-i-preserved : goal.loop-i-preserved
loop-i-preserved c =
    let count = c.args.count in
    let all = numbers_length 1 count in
    next (cell (lettered (c.args.letter ∷ []))) 11 (numbers_from 1 count) c.loop-i.invariant (omega arith) (omega arith) (omega (arith, number_at 1 count c.loop-i.i (omega arith))) c.put_column_name-at.ensures

pub returns : goal.returns
returns c =
    let count = c.args.count in
    let all = numbers_length 1 count in
    let name = lettered (c.args.letter ∷ []) in
    text_is (ended (cell name) 11 (numbers_from 1 count) c.loop-i.invariant (omega arith) (omega arith)) (cells_are name (numbers_from 1 count))
