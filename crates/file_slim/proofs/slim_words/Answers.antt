-- `file_slim::slim_words` meets its contract, by the three kinds of rows.
use native.Mathlib.Omega.{arith}
use mathlib.Core.Path.{sym, ◌∙◌}
use Rattle.words.specs.Words.{words_of}
use Rattle.file_slim.proofs.TextLaws.{is_text_lem}
use Rattle.file_slim.proofs.CutLaws.{exact_words, text_words, plain_words}
use Rattle.file_slim.proofs.slim_words.Goals as goal

pub returns-then-row : goal.returns-then-row
returns-then-row c =
    c.count.ensures ∙ sym (exact_words c.requires c.if-row.true)

pub returns-then-row-2 : goal.returns-then-row-2
returns-then-row-2 c =
    let t = is_text_lem (words_of c.args.b.now) (c.requires.null c.if-row-2.true) c.rest.ensures c.before_null.ensures c.text_words.ensures in
    omega (arith, text_words c.requires c.if-row.false c.if-row-2.true, t.length_is)

pub returns : goal.returns
returns c = c.least_of.ensures ∙ sym (plain_words c.requires c.if-row.false c.if-row-2.false)
