use Rattle.std.proofs.Common.{refl, ◌∙◌, rules}
use mir.Facts.{to_z-of_z}
use mir.Syntax.{w32}
use mir.Val.{SFits}
use Rattle.text.proofs.Writing.{◌then◌, text_is, at_most}
use Rattle.units.specs.Level.{signed_fixed, tenths}
use Rattle.units.proofs.SignedLaws.{text_negative, text_positive}
use Rattle.units.proofs.level.put_tenths.Goals as goal

pub returns-then-t-lt0 : goal.returns-then-t-lt0
unfolding tenths
returns-then-t-lt0 c =
    let v = c.args.t.0 in
    let fits : SFits w32 v = search rules in
    let back = to_z-of_z fits in
    text_is {u = signed_fixed v} (c.put_byte-a.ensures then c.put_fixed.ensures)
    (text_negative v c.from-n.result _ refl (rw back at c.if-t-lt0.true) (c.from-n.ensures ∙ rw back at c.unsigned_abs.ensures.value))

pub returns-else-t-lt0 : goal.returns-else-t-lt0
unfolding tenths
returns-else-t-lt0 c =
    let v = c.args.t.0 in
    let fits : SFits w32 v = search rules in
    let back = to_z-of_z fits in
    at_most
    (text_is c.put_fixed-else-t-lt0.ensures
    (text_positive v c.from-n.result (rw back at c.if-t-lt0.false) (c.from-n.ensures ∙ rw back at c.unsigned_abs.ensures.value)))
    (search rules)
