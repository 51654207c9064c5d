use mathlib.Core.Path.{ap}
use native.Mathlib.Omega.{arith}
use lib.ListN.{length}
use Rattle.words.specs.Words.{words_of}
use Rattle.words.proofs.WordLaws.{bytes_length}
use Rattle.text.proofs.Writing.{text_is}
use Rattle.file_slim.proofs.WordWriting.{by_words}
use Rattle.file_slim.proofs.put_words.Goals as goal

pub put_bytes-requires : goal.put_bytes-requires
put_bytes-requires c =
    let ws = words_of c.args.b.now in
    omega (arith, ap length c.rest.ensures.bytes, bytes_length ws)

pub returns : goal.returns
returns c = by_words _ (text_is c.put_bytes.ensures c.rest.ensures.bytes)
