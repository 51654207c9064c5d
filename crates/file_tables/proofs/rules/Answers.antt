-- `file_tables::rules` is `rules`: the rules, and what fills them up.
use borrow.Author.Rules.{rules}
use mathlib.Core.Path.{◌≡◌}
use lib.ListN.{length}
use Rattle.file_tables.proofs.TableLaws.{filled_up}
use Rattle.file_tables.proofs.rules.Goals as goal

pub returns : goal.returns
returns g c =
    let n : length c.args.first ≡ g.row.N = search rules in
    rw (c.copy_from_slice.ensures.after, ← n) (rw (filled_up c.args.first (rw n c.requires)))
