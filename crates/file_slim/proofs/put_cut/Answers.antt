-- `file_slim::put_cut` meets its contract: its first word, and then the words after it.
use native.Mathlib.Omega.{arith}
use mathlib.Core.List.{[], ◌∷◌}
use Prim.Native.Nat.{◌-◌}
use lib.ListN.{take, drop}
use Rattle.words.specs.Words.{words_of}
use Rattle.file_rules.specs.Slim.{counted, cut_to}
use Rattle.file_slim.proofs.WordWriting.{words_then, words_are, room_next}
use Rattle.file_slim.proofs.CutLaws.{cut_rest}
use Rattle.file_slim.proofs.put_cut.Goals as goal

pub put_counted-a-requires : goal.put_counted-a-requires
unfolding cut_to
put_counted-a-requires c = (omega arith, omega arith)

pub put_words-requires : goal.put_words-requires
unfolding cut_to
put_words-requires c =
    let ws = words_of c.args.b.now in
    rw (cut_rest c.args.n ws c.front.ensures c.rest.ensures)
    (room_next (counted c.args.n ws ∷ []) (take (c.args.n - 1) (drop 1 ws)) c.put_counted-a.ensures c.requires.1)

pub returns : goal.returns
unfolding cut_to
returns c =
    let ws = words_of c.args.b.now in
    words_then (counted c.args.n ws ∷ []) (take (c.args.n - 1) (drop 1 ws)) c.put_counted-a.ensures
    (words_are c.put_words.ensures (cut_rest c.args.n ws c.front.ensures c.rest.ensures))
