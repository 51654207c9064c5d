use mathlib.Core.Path.{refl, sym, subst⁻¹, ◌∙◌}
use Rattle.std.specs.Prelude.{Result}
use Rattle.paging.specs.declared.fit.Progress.{Progress}
use Rattle.file_refusal.specs.declared.Refusal.{Refusal}
use Rattle.file_refusal.proofs.Handed.{handed_on}
use Rattle.call_sheet.specs.Reply.{Sheeted}
use Rattle.call_sheet.proofs.ReplyLaws.{sheeted_denied}
use Rattle.call_sheet.proofs.sheet.Goals as goal

pub returns-in_err-state : goal.returns-in_err-state
returns-in_err-state c =
    let a = c.args in
    let denied = sheeted_denied a.file.now a.label.now a.n a.out.now a.out.now _ (sym c.survey.ensures ∙ c.in_err-state.was) refl in
    subst⁻¹ (λ (r : Result Progress Refusal). Sheeted a.file.now a.label.now a.n a.out.now a.out.now r) (handed_on _ _ c.from_residual.ensures.1) denied
