use mathlib.Core.Path.{sym}
use Rattle.words.proofs.WordLaws.{words_length}
use Rattle.words.proofs.count.Goals as goal

pub returns : goal.returns
returns c = sym (words_length _)
