use borrow.Author.Rules.{rules}
use borrow.Author.Tests.{eq-eqb, ne_eqb}
use Rattle.desk_lines.specs.Notices.{not_begun}
use Rattle.text.proofs.Writing.{◌then◌, at_most, nothing}
use Rattle.desk_lines.proofs.put_not_begun.Goals as goal

pub returns-then-n-eq0 : goal.returns-then-n-eq0
unfolding not_begun
returns-then-n-eq0 c =
    simp (eq-eqb _ _ c.if-n-eq0.true) (at_most (nothing _) (search rules))

pub returns : goal.returns
unfolding not_begun
returns c =
    simp (ne_eqb _ _ c.if-n-eq0.false) (c.put_bytes-a.ensures then c.put_count.ensures)
