-- `file_slim::put_slim` meets its contract: what stands before the sub-blocks, and then these.
use native.Mathlib.Omega.{arith}
use mathlib.Core.List.{flatten}
use lib.ListN.{drop}
use Rattle.words.specs.Words.{words_of}
use Rattle.file_rules.specs.Slim.{slim_records, head_by}
use Rattle.file_slim.proofs.CutLaws.{slim_parts, slim_length}
use Rattle.file_slim.proofs.WordWriting.{words_then, room_next}
use Rattle.file_slim.proofs.put_slim.Goals as goal

pub put_head-a-requires : goal.put_head-a-requires
put_head-a-requires c =
    (c.requires.0, omega (arith, slim_length c.args.row (words_of c.args.b.now)))

pub put_records-requires : goal.put_records-requires
put_records-requires c =
    let r = c.args.row in
    let ws = words_of c.args.b.now in (
      c.requires.0.sound,
      rw c.rest.ensures.words
          (room_next (head_by r ws) (flatten (slim_records r.subs.least r.subs.count (drop 2 ws))) c.put_head-a.ensures (rw (slim_parts r ws) at c.requires.1)),
    )

pub returns : goal.returns
returns c =
    let r = c.args.row in
    let ws = words_of c.args.b.now in
    rw (slim_parts r ws)
    (words_then (head_by r ws) (flatten (slim_records r.subs.least r.subs.count (drop 2 ws))) c.put_head-a.ensures (rw c.rest.ensures.words at c.put_records.ensures))
