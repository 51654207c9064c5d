use borrow.Author.Rules.{rules}
use Rattle.desk_lines.specs.Notices.{place}
use Rattle.text.proofs.Writing.{◌then◌, at_most}
use Rattle.desk_lines.proofs.put_place.Goals as goal

pub returns : goal.returns
unfolding place
returns c =
    at_most (c.put_count-a.ensures then c.put_decimal.ensures then c.put_within.ensures) (search rules)
