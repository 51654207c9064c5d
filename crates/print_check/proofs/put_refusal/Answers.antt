use Rattle.print_check.specs.Replies.{refusal_line}
use Rattle.text.proofs.Writing.{◌then◌}
use Rattle.print_check.proofs.put_refusal.Goals as goal

pub returns : goal.returns
unfolding refusal_line
returns c =
    c.put_bytes-a.ensures then c.put_short.ensures then c.put_place.ensures
