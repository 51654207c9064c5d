use Rattle.print_check.specs.Replies.{entry}
use Rattle.text.proofs.Writing.{◌then◌}
use Rattle.print_check.proofs.put_entry.Goals as goal

pub returns : goal.returns
unfolding entry
returns c =
    c.put_key-a.ensures then c.put_short.ensures
