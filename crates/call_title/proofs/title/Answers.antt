-- `call_title::title` hands back what `title_of` says, with its place.
use mathlib.Core.Path.{◌≡◌, sym, ap, ◌∙◌}
use Prim.Native.Nat.{◌+◌, ◌-◌}
use native.Mathlib.Omega.{arith}
use Rattle.call_title.specs.Title.{part_of, handed, title_of}
use Rattle.call_title.proofs.TitleLaws.{title_part}
use Rattle.call_title.proofs.title.Goals as goal

pub returns-in_default : goal.returns-in_default
unfolding title_of handed
returns-in_default c =
    let a = c.args in
    sym (ap (handed a.file a.label) (sym c.title_at.ensures ∙ c.in_default.is))

pub overflow_add-result : goal.overflow_add-result
overflow_add-result c =
    let there = title_part c.args.file.now (λ i. omega (arith, c.type_inv.file i)) _ _ (sym c.title_at.ensures ∙ c.in-Some.is) in
    omega (arith, there.fits)

pub slice_bounds-result-end : goal.slice_bounds-result-end
slice_bounds-result-end c =
    let there = title_part c.args.file.now (λ i. omega (arith, c.type_inv.file i)) _ _ (sym c.title_at.ensures ∙ c.in-Some.is) in
    omega (arith, there.fits)

pub returns : goal.returns
unfolding title_of handed part_of
returns c =
    let a = c.args in
    let at = c.in-Some.span.at in
    let n = c.in-Some.span.len in
    let size : at + n - at ≡ n = omega arith in
    ap (part_of a.file at) size
    ∙ sym (ap (handed a.file a.label) (sym c.title_at.ensures ∙ c.in-Some.is))
