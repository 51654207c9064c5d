-- `is_sheet` meets its contract. Assumes nothing.
use mathlib.Core.Path.{sym}
use lib.ListN.{take}
use Rattle.std.proofs.lemmas.Bool.Decides.{Decides-eqb}
use Rattle.std.proofs.lemmas.Slice.Eq.{slice_eq-Decides}
use Rattle.text.specs.Ascii.{ascii}
use Rattle.desk_targets.specs.Target.{is_sheet}
use Rattle.desk_targets.proofs.TargetLaws.{same_is}
use Rattle.desk_targets.proofs.is_sheet.Goals as goal

pub returns : goal.returns
unfolding is_sheet
returns c =
    let w = slice_eq-Decides Decides-eqb (ascii "unit=") (take 5 c.args.bytes.now) _ c.starts_with.ensures.value in
    same_is ((λ t. sym (w.0 t)), (λ e. w.1 (sym e)))
