-- `is_input` meets its contract: the chunks are the numbers of the files to convert, and each is compared with the target's.
use borrow.Author.Rules.{rules}
use Rattle.desk_targets.proofs.ChunkLaws.{input_is}
use Rattle.desk_targets.proofs.is_input.Goals as goal

pub returns : goal.returns
returns c =
    let made = c.chunks_exact.ensures in
    input_is _ _ c.args.ids.now c.args.id.now (λ x b k. search rules) made.rest made.size made.runs c.any.ensures.runs (λ a r f k. search rules)
