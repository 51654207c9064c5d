-- `file_slim::put_text_block` meets its contract: its first word, its text, and the nulls.
use native.Mathlib.Omega.{arith}
use native.Mathlib.Nat.{sub-zero}
use Rattle.words.specs.Words.{words_of}
use Rattle.text.proofs.Writing.{◌then◌, text_is}
use Rattle.file_slim.proofs.TextLaws.{IsText, is_text_lem}
use Rattle.file_slim.proofs.WordWriting.{by_words}
use Rattle.file_slim.proofs.put_text_block.Goals as goal
use Rattle.file_slim.proofs.put_text_block.Goals.{After-text_words-words}

text : (c : After-text_words-words) → IsText (words_of c.args.b.now) c.before_null-text.result.now c.text_words-words.result
text c = is_text_lem (words_of c.args.b.now) c.requires.0 c.rest.ensures c.before_null-text.ensures c.text_words-words.ensures

pub put_counted-a-requires : goal.put_counted-a-requires
put_counted-a-requires c = let t = text (goal.at.put_counted-a-requires c).After-text_words-words in (omega arith, omega arith)

pub put_bytes-requires : goal.put_bytes-requires
put_bytes-requires c = let t = text (goal.at.put_bytes-requires c).After-text_words-words in omega arith

pub put_bytes-requires-2 : goal.put_bytes-requires-2
put_bytes-requires-2 c = let t = text (goal.at.put_bytes-requires-2 c).After-text_words-words in omega arith

pub returns : goal.returns
returns c =
    let t = text (goal.at.returns c).After-text_words-words in
    by_words _ (text_is (c.put_counted-a.ensures then c.put_bytes.ensures then rw sub-zero at c.put_bytes-2.ensures) t.bytes)
