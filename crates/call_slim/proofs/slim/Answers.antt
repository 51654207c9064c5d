use mathlib.Core.Path.{refl, sym, subst⁻¹, ◌∙◌}
use Rattle.std.specs.Prelude.{Result}
use Prim.Native.Nat.{ℕ}
use Rattle.file_refusal.specs.declared.Refusal.{Refusal}
use Rattle.file_refusal.proofs.Handed.{handed_on}
use Rattle.call_slim.specs.Copy.{Slimmed}
use Rattle.call_slim.proofs.ReplyLaws.{slimmed_passed, slimmed_denied}
use Rattle.call_slim.proofs.slim.Goals as goal

pub returns-in_err-survey : goal.returns-in_err-survey
returns-in_err-survey c =
    let a = c.args in
    subst⁻¹ (λ (r : Result ℕ Refusal). Slimmed a.file.now a.out.now a.out.now r) (handed_on _ _ c.from_residual.ensures.1)
    (slimmed_denied _ _ _ _ (sym c.survey.ensures ∙ c.in_err-survey.was) refl)

pub returns : goal.returns
returns c =
    let w = c.put_whole.ensures in
    slimmed_passed _ _ _ _ (sym c.survey.ensures ∙ c.in_ok-survey.was) _ w.0 w.1
