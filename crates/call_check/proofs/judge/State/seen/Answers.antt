-- `judge::State::seen` is `seen_in`: each way out is the case that its tests say.
use borrow.Author.Tests.{not-true, not-false}
use mathlib.Core.Path.{sym, ap, subst⁻¹, ◌∙◌}
use Rattle.words.specs.Words.{words_of}
use Rattle.file_rules.specs.Sound.{Sound}
use Rattle.file_order.specs.Setup.{row_for}
use Rattle.file_order.specs.Order.{key_of, is_due}
use Rattle.file_order.proofs.KnownLaws.{each_sound}
use Rattle.file_refusal.proofs.Handed.{handed_on}
use Rattle.call_check.proofs.Turns.{seen_skip, seen_order, seen_good, seen_bad}
use borrow.Author.Rules.{rules}
use Rattle.call_check.proofs.judge.State.seen.Goals as goal
use Rattle.std.specs.declared.result.Result.TheVariants.{Ok}

pub returns-then-not-row : goal.returns-then-not-row
returns-then-not-row c =
    let a = c.args in
    let b = words_of a.b.now in
    let e = c.row_for-row.ensures ∙ ap (row_for a.self.setup) c.word-header.ensures in
    ap Ok c.skipped.ensures ∙ seen_skip c.row_for-row.result a.self a.at b e (not-true _ c.if-not-row.true)

pub returns-then-not-has : goal.returns-then-not-has
returns-then-not-has c =
    let a = c.args in
    let b = words_of a.b.now in
    let e = c.row_for-row.ensures ∙ ap (row_for a.self.setup) c.word-header.ensures in
    let key = c.key_of.ensures ∙ ap key_of c.word-header.ensures in
    let d = sym (c.has.ensures ∙ ap (is_due a.self.due) key) in
    seen_order c.row_for-row.result a.self a.at b e (not-false _ c.if-not-row.false) (d ∙ c.if-not-has.true)

pub keeps-requires : goal.keeps-requires
keeps-requires c =
    let a = c.args in
    let b = words_of a.b.now in
    let e = c.row_for-row.ensures ∙ ap (row_for a.self.setup) c.word-header.ensures in
    (search rules, subst⁻¹ Sound e (each_sound a.self.setup _))

pub returns : goal.returns
returns c =
    let a = c.args in
    let b = words_of a.b.now in
    let e = c.row_for-row.ensures ∙ ap (row_for a.self.setup) c.word-header.ensures in
    let key = c.key_of.ensures ∙ ap key_of c.word-header.ensures in
    let d = sym (c.has.ensures ∙ ap (is_due a.self.due) key) in
    let good = sym c.keeps.ensures ∙ c.in_ok-keeps.was in
    ap Ok c.entered.ensures
    ∙ seen_good c.row_for-row.result a.self a.at b e (not-false _ c.if-not-row.false) (d ∙ c.if-not-has.false) good

pub returns-in_err-keeps : goal.returns-in_err-keeps
returns-in_err-keeps c =
    let a = c.args in
    let b = words_of a.b.now in
    let e = c.row_for-row.ensures ∙ ap (row_for a.self.setup) c.word-header.ensures in
    let key = c.key_of.ensures ∙ ap key_of c.word-header.ensures in
    let d = sym (c.has.ensures ∙ ap (is_due a.self.due) key) in
    let bad = sym c.keeps.ensures ∙ c.in_err-keeps.was in
    handed_on _ _ c.from_residual.ensures.1
    ∙ seen_bad c.row_for-row.result a.self a.at b e (not-false _ c.if-not-row.false) (d ∙ c.if-not-has.false) bad
