use borrow.Author.Rules.{rules}
use Rattle.text.proofs.Writing.{◌then◌, at_most}
use Rattle.desk_lines.proofs.put_done.Goals as goal

pub returns : goal.returns
returns c =
    at_most (c.put_count-a.ensures then c.put_bytes.ensures then c.put_bytes-2.ensures) (search rules)
