use Rattle.std.proofs.Common.{rules}
use Rattle.std.proofs.lemmas.List.{map-id}
use Rattle.text.proofs.Writing.{text_is}
use Rattle.text.proofs.put.put_bytes.Goals as goal

pub returns : goal.returns
returns c = text_is (c.put_mapped.ensures (λ b. b) (λ b r h same. search rules)) (map-id c.args.src.now)
