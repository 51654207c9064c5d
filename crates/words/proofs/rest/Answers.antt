use Rattle.std.proofs.Common.{◌≡◌, min, length, drop, refl, arith}
use Rattle.std.proofs.lemmas.List.{drop_min}
use Rattle.words.specs.Words.{words_of}
use Rattle.words.proofs.WordLaws.{rest_holds}
use Rattle.words.proofs.rest.Goals as goal

pub returns : goal.returns
returns c =
    let bytes = c.args.bytes.now in
    let from : c.min.result ≡ min c.args.k (length (words_of bytes)) = omega arith in
    let same : drop c.min.result (words_of bytes) ≡ drop c.args.k (words_of bytes) = rw from (drop_min c.args.k (words_of bytes)) in
    rw same at (rest_holds bytes c.min.result c.count-n.result _ (λ i. omega (arith, c.type_inv.bytes i)) c.count-n.ensures (omega arith) refl)
