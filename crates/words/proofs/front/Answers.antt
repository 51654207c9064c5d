use Rattle.std.proofs.Common.{◌≡◌, ◌*◌, min, length, take, refl, arith}
use Rattle.std.proofs.lemmas.List.{length-take, take_min}
use Rattle.words.specs.Words.{words_of}
use Rattle.words.proofs.WordLaws.{words_length, part_holds}
use Rattle.words.proofs.front.Goals as goal

pub slice_bounds-result-end : goal.slice_bounds-result-end
slice_bounds-result-end c = rw length-take (omega (arith, words_length c.args.bytes.now))

pub returns : goal.returns
returns c =
    let bytes = c.args.bytes.now in
    let few : c.min.result ≡ min c.args.n (length (words_of bytes)) = omega arith in
    let same : take c.min.result (words_of bytes) ≡ take c.args.n (words_of bytes) = rw few (take_min c.args.n (words_of bytes)) in
    rw same at (part_holds bytes 0 c.min.result (2 * c.min.result) (λ i. omega (arith, c.type_inv.bytes i)) refl (omega (arith, words_length bytes)))
