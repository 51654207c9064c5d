use native.Mathlib.Omega.{arith}
use native.Mathlib.Nat.{sub-zero}
use mathlib.Core.Path.{ap, ◌∙◌}
use mathlib.Core.List.{List}
use Prim.Native.Nat.{ℕ, ◌-◌}
use lib.ListN.{get_or, drop}
use Rattle.file_slim.proofs.CutLaws.{record_room, record_next, records_end}
use Rattle.file_slim.proofs.WordWriting.{begin, finished}
use Rattle.file_slim.proofs.put_records.Goals as goal

pub loop-init : goal.loop-init
loop-init c = (omega arith, rw sub-zero (begin _ _))

pub put_cut-n-requires : goal.put_cut-n-requires
put_cut-n-requires c =
    let l = c.loop in
    (c.requires.0.sub_one_byte, rw c.rest-part.ensures.words (record_room c.args.row.subs.least c.args.row.subs.count l.counter l.o _ l.invariant.1 c.requires.1 c.loop-test.true))

pub loop-preserved : goal.loop-preserved
loop-preserved c =
    let l = c.loop in
    let cut = rw c.rest-part.ensures.words at c.put_cut-n.ensures in
    let long = c.word.ensures ∙ ap (λ (x : List ℕ). get_or x 0 0) c.rest-part.ensures.words in
    (omega (arith, c.word.type_inv), record_next c.args.row.subs.least c.args.row.subs.count l.counter l.o _ l.invariant.1 c.requires.1 c.loop-test.true _ (omega (arith, long)) cut)

pub returns : goal.returns
returns c =
    let l = c.loop in
    finished (rw (records_end _ (c.args.row.subs.count - l.counter) (drop l.o _) (omega arith)) at l.invariant.1)
