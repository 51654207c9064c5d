-- `call_slim::known_from` is `known_from`.
use Rattle.words.specs.Words.{words_of}
use Rattle.call_slim.proofs.CopyLaws.{known_at}
use Rattle.call_slim.proofs.known_from.Goals as goal

pub returns : goal.returns
returns c =
    let s = c.args in
    known_at (words_of s.file.now) s.known s.block.start s.block.length c.words.ensures c.learnt.ensures
