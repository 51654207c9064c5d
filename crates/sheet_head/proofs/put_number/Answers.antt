use borrow.Author.Rules.{rules}
use Rattle.text.proofs.Writing.{◌then◌, text_is, at_most}
use Rattle.sheet_head.proofs.HeadLaws.{number_bare}
use Rattle.sheet_head.proofs.put_number.Goals as goal

pub returns : goal.returns
returns c =
    at_most (text_is (c.put_key-a.ensures then c.put_short.ensures then c.put_byte.ensures) (number_bare _ _)) (search rules)
