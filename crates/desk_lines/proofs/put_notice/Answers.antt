use borrow.Author.Rules.{rules}
use Rattle.desk_lines.specs.Notices.{notice}
use Rattle.text.proofs.Writing.{◌then◌, at_most}
use Rattle.desk_lines.proofs.put_notice.Goals as goal

pub returns : goal.returns
unfolding notice
returns c =
    at_most (c.put_place-a.ensures then c.put_outcome.ensures then c.put_older.ensures then c.put_byte.ensures) (search rules)
