use borrow.Author.Tests.{lt-ltb, le-ltb}
use mathlib.Core.Path.{◌≡◌, refl}
use native.Mathlib.Omega.{arith}
use Prim.Native.Nat.{◌<◌, ◌/◌, ◌%◌}
use Rattle.words.specs.Words.{words_of}
use Rattle.words.proofs.WordLaws.{words_below, below_take}
use Rattle.file_walk.specs.Walk.{raw_of, stepped}
use Rattle.file_walk.proofs.Fronts.{raw_below}
use Rattle.file_walk.proofs.Cursor.cut.Goals as goal
use Rattle.file_walk.proofs.Cursor.cut.Goals.{After-front}

pub returns-then-count-length : goal.returns-then-count-length
unfolding stepped
returns-then-count-length c =
    let args = c.args in
    simp (← c.count.ensures, lt-ltb c.count.result args.len (omega arith))

-- how many raw words may follow
few_raw : (c : After-front) → raw_of (words_of c.front.result.now) < 2147483648
few_raw c =
    let args = c.args in
    rw c.front.ensures.words (raw_below _ (below_take _ (words_of args.left.now) (omega arith) (words_below args.left.now (λ i. omega (arith, c.type_inv.left i)))))

pub overflow_add-next : goal.overflow_add-next
overflow_add-next c = omega (arith, few_raw (goal.at.overflow_add-next c).After-front)

pub overflow_add-next-2 : goal.overflow_add-next-2
overflow_add-next-2 c = omega (arith, few_raw (goal.at.overflow_add-next-2 c).After-front)

pub returns : goal.returns
unfolding stepped
returns c =
    let args = c.args in
    let high_byte : c.word.result / 256 % 256 ≡ c.word.result / 256 = omega (arith, c.word.type_inv) in
    simp (← c.count.ensures, ← c.from-length.ensures, le-ltb c.count.result c.from-length.result c.if-count-length.false, ← c.word.ensures, ← c.front.ensures.words, ← c.raw_words-raw.ensures, c.to_le_bytes.ensures, high_byte) refl
