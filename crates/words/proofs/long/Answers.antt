use Rattle.std.proofs.Common.{◌∙◌}
use Rattle.words.specs.Words.{words_of}
use Rattle.words.proofs.WordLaws.{long_from}
use Rattle.words.proofs.long.Goals as goal

pub returns : goal.returns
returns c =
    let args = c.args in
    long_from (words_of args.bytes.now) _ args.i _ _ c.rest-field.ensures.words (c.from.ensures ∙ c.word.ensures) (c.from-2.ensures ∙ c.word-2.ensures)
