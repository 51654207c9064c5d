use native.Mathlib.Omega.{arith}
use mathlib.Core.Path.{sym, ap}
use lib.ListN.{length}
use borrow.Author.Tests.{not-true, not-false}
use Rattle.words.specs.Words.{words_of}
use Rattle.file_walk.specs.Walk.{raw_of}
use Rattle.call_slim.proofs.CopyLaws.{read_at, read_unlisted, read_length, read_short}
use Rattle.call_slim.proofs.part_words.Goals as goal

pub returns-then-not-row : goal.returns-then-not-row
returns-then-not-row c =
    let s = c.args in
    let t = read_at (words_of s.file.now) s.known s.block.start s.block.length c.words-b.ensures c.row_by-row.ensures in
    sym (ap length (read_unlisted t (not-true _ c.if-not-row.true)))

pub overflow_add-result : goal.overflow_add-result
overflow_add-result c =
    let t = read_at (words_of c.args.file.now) c.args.known c.args.block.start c.args.block.length c.words-b.ensures c.row_by-row.ensures in
    omega (arith, c.raw_words.ensures, c.slim_words.ensures, read_length t c.requires (not-false _ c.if-not-row.false), read_short t c.requires, c.requires.short, c.requires.fits, ap raw_of t.words)

pub returns : goal.returns
returns c =
    let t = read_at (words_of c.args.file.now) c.args.known c.args.block.start c.args.block.length c.words-b.ensures c.row_by-row.ensures in
    omega (arith, c.raw_words.ensures, c.slim_words.ensures, read_length t c.requires (not-false _ c.if-not-row.false))
