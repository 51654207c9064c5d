-- `words::word` meets its contract: the low byte is worth 1, the high byte 256.
use Rattle.std.proofs.Common.{sym, arith}
use Rattle.words.proofs.WordLaws.{word_at, word_past}
use Rattle.words.proofs.word.Goals as goal

pub returns-then-i-bytes : goal.returns-then-i-bytes
returns-then-i-bytes c = omega (arith, word_at _ _ c.if-i-bytes.true)

pub returns-else-i-bytes : goal.returns-else-i-bytes
returns-else-i-bytes c = sym (word_past _ _ c.if-i-bytes.false)
