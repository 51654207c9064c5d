use mathlib.Core.Path.{sym, ◌∙◌}
use Rattle.paging.proofs.RunLaws.{over_one, tried_one}
use Rattle.paging.proofs.run.Run.write_line.Goals as goal

pub returns-then-not-writes : goal.returns-then-not-writes
returns-then-not-writes g c =
    λ line p. rw c.passed.ensures (over_one c.requires.inside line (sym c.writes.ensures ∙ c.if-not-writes.true))

pub returns : goal.returns
returns g c =
    λ line p. rw c.after.ensures (tried_one c.requires.inside line c.fit.new.out c.fit.result p.some (sym c.writes.ensures ∙ c.if-not-writes.false) (c.fit.ensures line p))
