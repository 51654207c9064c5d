-- `call_slim::put_part` meets its contract: the block's slim form, and then its raw words.
use native.Mathlib.Omega.{arith}
use mathlib.Core.List.{List, []}
use mathlib.Core.Path.{◌≡◌, sym, subst}
use Prim.Native.Nat.{ℕ, ◌+◌}
use lib.ListN.{take, drop}
use borrow.Author.Tests.{not-true, not-false}
use Rattle.words.specs.Words.{words_of, Holds}
use Rattle.file_walk.specs.Walk.{raw_of}
use Rattle.file_rules.specs.Slim.{slim_by, words_in}
use Rattle.file_slim.specs.Cut.{HasRoom}
use Rattle.file_slim.proofs.WordWriting.{begin, finished, words_are, words_then, room_next}
use Rattle.call_slim.proofs.CopyLaws.{read_at, read_unlisted, read_listed, read_cuts, read_length}
use Rattle.call_slim.proofs.put_part.Goals as goal

-- the raw words as the code finds them
raw_words : (ws b : List ℕ) (from n : ℕ) {part raw : List ℕ} → Holds (drop from ws) part → n ≡ raw_of b → Holds (take n (words_of part)) raw → words_of raw ≡ take (raw_of b) (drop from ws)
raw_words ws b from n p m r = rw (← m, ← p.words) r.words

pub returns-then-not-row : goal.returns-then-not-row
returns-then-not-row c =
    let told = read_at (words_of c.args.file.now) c.args.known c.args.block.start c.args.block.length c.words-b.ensures c.row_by-row.ensures in
    words_are (finished (begin [] _)) (sym (read_unlisted told (not-true _ c.if-not-row.true)))

pub put_slim-a-requires : goal.put_slim-a-requires
put_slim-a-requires c =
    let told = read_at (words_of c.args.file.now) c.args.known c.args.block.start c.args.block.length c.words-b.ensures c.row_by-row.ensures in
    let l = not-false _ c.if-not-row.false in
    (read_cuts told c.requires.0 l, omega (arith, read_length told c.requires.0 l))

pub put_words-requires : goal.put_words-requires
put_words-requires c =
    let told = read_at (words_of c.args.file.now) c.args.known c.args.block.start c.args.block.length c.words-b.ensures c.row_by-row.ensures in
    let ws = words_of c.args.file.now in
    let b = words_of c.words-b.result.now in
    let from = c.args.block.start + c.args.block.length in
    let raw = raw_words ws b from _ c.rest.ensures c.raw_words.ensures c.front-raw.ensures in
    rw raw
    (room_next (words_in (slim_by c.row_by-row.result b [])) (take (raw_of b) (drop from ws)) c.put_slim-a.ensures
    (subst (λ (l : List ℕ). HasRoom l c.args.out.now) (read_listed told (not-false _ c.if-not-row.false)) c.requires.1))

pub returns : goal.returns
returns c =
    let told = read_at (words_of c.args.file.now) c.args.known c.args.block.start c.args.block.length c.words-b.ensures c.row_by-row.ensures in
    let ws = words_of c.args.file.now in
    let b = words_of c.words-b.result.now in
    let from = c.args.block.start + c.args.block.length in
    let raw = raw_words ws b from _ c.rest.ensures c.raw_words.ensures c.front-raw.ensures in
    words_are (words_then (words_in (slim_by c.row_by-row.result b [])) (take (raw_of b) (drop from ws)) c.put_slim-a.ensures (rw raw at c.put_words.ensures))
    (sym (read_listed told (not-false _ c.if-not-row.false)))
