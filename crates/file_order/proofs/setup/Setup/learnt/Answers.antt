-- `setup::Setup::learnt` is `learnt` of the slim form.
use mathlib.Core.List.{[]}
use mathlib.Core.Path.{sym, ap, ◌∙◌}
use Rattle.words.specs.Words.{low, words_of}
use Rattle.file_order.proofs.KnownLaws.{learnt_02, learnt_04, learnt_05, learnt_09, learnt_none}
use Rattle.file_order.proofs.setup.Setup.learnt.Goals as goal

pub returns-in-2 : goal.returns-in-2
returns-in-2 c =
    let a = c.args in
    rw c.word-in-2.ensures (sym (learnt_02 a.self (words_of a.b.now) [] (ap low (sym c.word.ensures) ∙ c.in-2.is)))

pub returns-in-4 : goal.returns-in-4
returns-in-4 c =
    let a = c.args in
    rw (c.bands_in.ensures, c.word-in-4.ensures)
    (sym (learnt_04 a.self (words_of a.b.now) [] (ap low (sym c.word.ensures) ∙ c.in-4.is)))

pub returns-in-5 : goal.returns-in-5
returns-in-5 c =
    let a = c.args in
    rw c.profile_levels.ensures (sym (learnt_05 a.self (words_of a.b.now) [] (ap low (sym c.word.ensures) ∙ c.in-5.is)))

pub returns-in-9 : goal.returns-in-9
returns-in-9 c =
    let a = c.args in
    rw (c.record_word-in-9-2.ensures, c.record_word-in-9.ensures, c.record_word.ensures)
    (sym (learnt_09 a.self (words_of a.b.now) [] (ap low (sym c.word.ensures) ∙ c.in-9.is)))

pub returns-in_default : goal.returns-in_default
returns-in_default c =
    let a = c.args in
    let e = ap low c.word.ensures in
    let m = c.in_default.in_default-own.rest in
    sym (learnt_none a.self (words_of a.b.now) [] (λ z. m.0.0.0.1 (e ∙ z)) (λ z. m.0.0.1 (e ∙ z)) (λ z. m.0.1 (e ∙ z)) (λ z. m.1 (e ∙ z)))
