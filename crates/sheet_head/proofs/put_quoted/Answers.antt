use borrow.Author.Rules.{rules}
use Rattle.text.specs.Ascii.{ascii}
use Rattle.text.specs.Text.{Wrote}
use Rattle.text.proofs.Writing.{◌then◌, text_is, at_most}
use Rattle.sheet_head.proofs.HeadLaws.{quoted_head}
use Rattle.sheet_head.proofs.put_quoted.Goals as goal

pub returns : goal.returns
returns c =
    let close : Wrote (ascii "\"\n") 2 _ _ _ = c.put_bytes.ensures in
    at_most (text_is (c.put_byte-a.ensures then c.put_key.ensures then c.put_doubled.ensures then close) (quoted_head c.args.key.now _ c.requires.key_value)) (search rules)
