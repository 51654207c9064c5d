-- `call_title::title_at` is `title_at`.
use mathlib.Core.Path.{sym, ◌∙◌}
use native.Mathlib.Omega.{arith}
use Rattle.call_title.proofs.TitleLaws.{text_none, text_some, title_denied, title_read}
use Rattle.call_title.proofs.title_at.Goals as goal

pub returns-in_default : goal.returns-in_default
returns-in_default c =
    sym (title_denied c.args.file.now (sym c.survey.ensures ∙ c.in_default.is))

pub returns-then-len-eq0 : goal.returns-then-len-eq0
returns-then-len-eq0 c =
    sym
    (title_read c.args.file.now _ (sym c.survey.ensures ∙ c.in-Ok.is) _ _ c.rest.ensures.bytes c.before_null-len.ensures
    ∙ text_none _ _ (omega arith))

pub returns : goal.returns
returns c =
    sym
    (title_read c.args.file.now _ (sym c.survey.ensures ∙ c.in-Ok.is) _ _ c.rest.ensures.bytes c.before_null-len.ensures
    ∙ text_some _ _ _ (λ z. omega arith) (omega arith))
