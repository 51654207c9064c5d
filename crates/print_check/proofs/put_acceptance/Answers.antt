use Rattle.print_check.specs.Replies.{acceptance, entry}
use Rattle.text.proofs.Writing.{◌then◌}
use Rattle.print_check.proofs.put_acceptance.Goals as goal

pub returns : goal.returns
unfolding acceptance entry
returns c =
    c.put_bytes-a.ensures then c.put_short.ensures then c.put_starts.ensures then c.put_byte.ensures
