use borrow.Author.Rules.{rules}
use Rattle.desk_lines.specs.Notices.{again}
use Rattle.text.proofs.Writing.{◌then◌, text_is, at_most}
use Rattle.desk_lines.proofs.put_again.Goals as goal

pub returns : goal.returns
unfolding again
returns c =
    at_most (text_is (at_most c.put_bytes-a.ensures c.again_word.ensures.short) c.again_word.ensures.words then c.put_name.ensures then c.put_byte.ensures) (search rules)
