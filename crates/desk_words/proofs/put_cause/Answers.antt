-- `put_cause` meets its contract: an error has words, or goes by its number.
use mathlib.Core.Path.{◌≡◌, ap}
use native.Mathlib.Omega.{arith}
use borrow.Author.Rules.{rules}
use borrow.Author.Tests.{eq-eqb, ne_eqb}
use lib.ListN.{length}
use Rattle.text.specs.Text.{named}
use Rattle.text.proofs.Writing.{text_is, at_most}
use Rattle.desk_words.specs.Meanings.{causes, cause}
use Rattle.desk_words.proofs.put_cause.Goals as goal

pub returns-in-Some : goal.returns-in-Some
unfolding cause
returns-in-Some c =
    let w = c.in-Some.ensures in
    let same : length c.in-Some.words.now ≡ length (named causes c.args.error) = ap length w.words in
    simp (ne_eqb (length (named causes c.args.error)) 0 (omega arith)) (text_is (at_most c.put_bytes.ensures w.sized.1) w.words)

pub returns-in-None : goal.returns-in-None
unfolding cause
returns-in-None c =
    let none : length (named causes c.args.error) ≡ 0 = ap length c.in-None.ensures.words in
    simp (eq-eqb (length (named causes c.args.error)) 0 none) (at_most c.put_error.ensures (search rules))
