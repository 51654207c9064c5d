-- `setup::profile_levels` is `profile_levels`.
use mathlib.Core.Path.{ap, ap₂, ◌∙◌}
use Prim.Native.Nat.{◌+◌}
use native.Mathlib.Omega.{arith}
use Rattle.file_order.specs.Setup.{levels_of, profile_levels}
use Rattle.file_order.proofs.KnownLaws.{levels_small}
use Rattle.file_order.proofs.setup.profile_levels.Goals as goal

pub overflow_add-result : goal.overflow_add-result
overflow_add-result c = omega (arith, levels_small _ _ c.levels_of-3.ensures, levels_small _ _ c.levels_of-2.ensures)

pub overflow_add-result-2 : goal.overflow_add-result-2
overflow_add-result-2 c = omega (arith, levels_small _ _ c.levels_of-3.ensures, levels_small _ _ c.levels_of-2.ensures, levels_small _ _ c.levels_of.ensures)

pub returns : goal.returns
unfolding profile_levels
returns c =
    let a = c.levels_of.ensures ∙ ap levels_of c.record_word.ensures in
    let b = c.levels_of-2.ensures ∙ ap levels_of c.record_word-2.ensures in
    let d = c.levels_of-3.ensures ∙ ap levels_of c.record_word-3.ensures in
    ap₂ ◌+◌ a (ap₂ ◌+◌ b d)
