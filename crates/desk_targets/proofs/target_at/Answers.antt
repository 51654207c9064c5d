-- `target_at` meets its contract: an earlier file has the target, or it is looked at.
use mathlib.Core.List.{[]}
use mathlib.Core.Path.{refl}
use Rattle.std.specs.Prelude.{Ok}
use Rattle.desk_targets.specs.Target.{standing}
use Rattle.desk_targets.proofs.TargetLaws.{read_stood}
use Rattle.desk_targets.proofs.target_at.Goals as goal

pub returns-then-mark : goal.returns-then-mark
unfolding standing
returns-then-mark g c = record { input = c.is_input-input.result; asked = c.is_input-input.ensures; got = Ok 0; held = []; stood = rw c.if-mark.true refl }

pub returns : goal.returns
returns g c =
    read_stood c.if-mark.false c.is_input-input.ensures c.look.ensures
