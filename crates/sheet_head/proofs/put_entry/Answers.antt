use borrow.Author.Rules.{rules}
use mathlib.Core.Path.{sym, ◌∙◌}
use Rattle.text.proofs.Writing.{◌then◌, text_is, at_most}
use Rattle.sheet_head.proofs.HeadLaws.{with_quotes, without}
use Rattle.sheet_head.proofs.put_entry.Goals as goal

pub returns-then-needs_quotes : goal.returns-then-needs_quotes
returns-then-needs_quotes c =
    text_is c.put_quoted.ensures (with_quotes _ _ (sym c.needs_quotes.ensures ∙ c.if-needs_quotes.true))

pub returns : goal.returns
returns c =
    at_most (text_is (c.put_key-a.ensures then c.put_text.ensures then c.put_byte.ensures) (without _ _ (sym c.needs_quotes.ensures ∙ c.if-needs_quotes.false))) (search rules)
