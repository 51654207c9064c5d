-- `file_slim::put_head` meets its contract, by the kinds of rows.
use native.Mathlib.Omega.{arith}
use mathlib.Core.Path.{◌≡◌, sym, ap, ◌∙◌}
use Prim.Native.Nat.{ℕ}
use mathlib.Core.List.{[], ◌∷◌}
use lib.ListN.{length, get_or}
use Rattle.words.specs.Words.{words_of}
use Rattle.file_rules.specs.Slim.{counted, cut_to, head_by}
use Rattle.file_slim.proofs.CutLaws.{least_byte, head_exact, head_text, head_plain, head_subs}
use Rattle.file_slim.proofs.WordWriting.{words_then, words_are}
use Rattle.file_slim.proofs.put_head.Goals as goal
use Rattle.file_slim.proofs.put_head.Goals.{Else-row-eq0}

pub put_words-requires : goal.put_words-requires
put_words-requires c =
    omega (arith, ap length (head_exact c.args.row (words_of c.args.b.now) c.if-row.true))

pub returns-then-row : goal.returns-then-row
returns-then-row c =
    words_are c.put_words.ensures (sym (head_exact c.args.row _ c.if-row.true))

pub put_text_block-requires : goal.put_text_block-requires
put_text_block-requires c =
    (c.requires.0.null c.if-row-2.true, (c.requires.0.short c.if-row.false, omega (arith, ap length (head_text c.args.row (words_of c.args.b.now) c.if-row.false c.if-row-2.true))))

pub returns-then-row-2 : goal.returns-then-row-2
returns-then-row-2 c =
    words_are c.put_text_block.ensures (sym (head_text c.args.row _ c.if-row.false c.if-row-2.true))

pub put_cut-requires : goal.put_cut-requires
put_cut-requires c =
    rw c.least_of.ensures
    (least_byte c.requires.0 c.if-row.false, omega (arith, ap length (head_plain c.args.row (words_of c.args.b.now) c.if-row.false c.if-row-2.false (omega arith))))

pub returns-then-row-eq0 : goal.returns-then-row-eq0
returns-then-row-eq0 c =
    let l = c.least_of.ensures in
    words_are c.put_cut.ensures
    (ap (λ (n : ℕ). cut_to n (words_of c.args.b.now)) l ∙ sym (head_plain c.args.row (words_of c.args.b.now) c.if-row.false c.if-row-2.false (omega arith)))

-- what stands before sub-blocks
two_words : (c : Else-row-eq0) → head_by c.args.row (words_of c.args.b.now) ≡ counted c.args.row.least (words_of c.args.b.now) ∷ (get_or (words_of c.args.b.now) 1 0 ∷ [])
two_words c = head_subs c.args.row (words_of c.args.b.now) c.if-row.false c.if-row-2.false (λ z. omega arith)

pub put_counted-a-requires : goal.put_counted-a-requires
put_counted-a-requires c =
    (omega (arith, ap length (two_words (goal.at.put_counted-a-requires c).Else-row-eq0)), c.requires.0.sound.one_byte c.if-row.false)

pub put_word-requires : goal.put_word-requires
put_word-requires c = omega (arith, ap length (two_words (goal.at.put_word-requires c).Else-row-eq0))

pub returns : goal.returns
returns c =
    rw (two_words (goal.at.returns c).Else-row-eq0, ← c.word.ensures)
    (words_then (counted c.args.row.least (words_of c.args.b.now) ∷ []) (c.word.result ∷ []) c.put_counted-a.ensures c.put_word.ensures)
