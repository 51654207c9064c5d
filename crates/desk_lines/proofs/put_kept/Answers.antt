use borrow.Author.Rules.{rules}
use Rattle.text.proofs.Writing.{◌then◌, at_most}
use Rattle.desk_lines.proofs.put_kept.Goals as goal

pub returns : goal.returns
returns c =
    at_most (c.put_bytes-a.ensures then c.put_name.ensures then c.put_taken.ensures) (search rules)
