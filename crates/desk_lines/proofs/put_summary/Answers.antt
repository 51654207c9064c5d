-- `put_summary` meets its contract: what is left after the three subtractions is what the tally does not count.
use mathlib.Core.Path.{ap}
use borrow.Author.Rules.{rules}
use native.Mathlib.Omega.{arith}
use Rattle.desk_lines.specs.Notices.{summary, not_begun, total}
use Rattle.text.proofs.Writing.{◌then◌, text_is, at_most}
use Rattle.desk_lines.proofs.put_summary.Goals as goal

pub returns : goal.returns
unfolding summary total
returns c =
    at_most (c.put_files-a.ensures then c.put_done.ensures then c.put_others.ensures then text_is c.put_not_begun.ensures (ap not_begun (omega arith)) then c.put_byte.ensures) (search rules)
