-- `save::put_part_path` meets its contract. Assumes nothing.
use borrow.Author.Rules.{rules}
use Rattle.desk_files.specs.Desk.{part_path}
use Rattle.text.proofs.Writing.{◌then◌, at_most}
use Rattle.desk_files.proofs.save.put_part_path.Goals as goal

pub returns : goal.returns
unfolding part_path
returns c = at_most (c.put_bytes-a.ensures then c.put_bytes.ensures then c.put_decimal.ensures then c.put_bytes-2.ensures) (search rules)
