use native.Mathlib.Omega.{arith}
use Rattle.words.specs.Words.{words_of}
use Rattle.sheet_fields.specs.Fields.{level_field}
use Rattle.text.proofs.Pieces.{begin, next, ended}
use Rattle.text.proofs.Writing.{text_is}
use Rattle.sheet_fields.proofs.CellLaws.{cell, cells_are}
use Rattle.sheet_fields.proofs.put_levels.Goals as goal

pub loop-i-init : goal.loop-i-init
loop-i-init c = begin _ _ _ _

pub loop-i-preserved : goal.loop-i-preserved
loop-i-preserved c =
    let ws = words_of c.args.words.now in
    let n = c.count-i-end.ensures in
    next (cell level_field) 13 ws c.loop-i.invariant (omega arith) (omega arith) c.word.ensures c.put_level-at.ensures

pub returns : goal.returns
returns c =
    let ws = words_of c.args.words.now in
    let n = c.count-i-end.ensures in
    text_is (ended (cell level_field) 13 ws c.loop-i.invariant (omega arith) (omega arith)) (cells_are level_field ws)
