use native.Mathlib.Omega.{arith}
use mathlib.Core.List.{[], ◌∷◌}
use mathlib.Core.Path.{◌≡◌}
use Prim.Native.Nat.{◌/◌, ◌%◌}
use Rattle.words.specs.Words.{bytes_of}
use Rattle.text.proofs.Writing.{text_is}
use Rattle.file_slim.proofs.WordWriting.{by_words}
use Rattle.file_slim.proofs.put_word.Goals as goal

pub returns : goal.returns
unfolding bytes_of
returns c =
    let w = c.args.w in
    let high_byte : w / 256 % 256 ≡ w / 256 = omega arith in
    by_words (w ∷ []) (text_is c.put_bytes.ensures (rw high_byte at c.to_le_bytes.ensures))
