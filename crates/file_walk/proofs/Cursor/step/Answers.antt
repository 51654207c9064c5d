-- `Cursor::step` meets its contract: what each call answers and how each test came out, put into `step_at`.
use borrow.Author.Tests.{lt-ltb, le-ltb, ne_eqb}
use mathlib.Core.Path.{◌≡◌}
use native.Mathlib.Omega.{arith}
use lib.ListN.{get_or}
use Rattle.words.specs.Words.{words_of}
use Rattle.words.proofs.WordLaws.{words_length}
use Rattle.file_walk.specs.Walk.{end_marker, fronted, front_of, stepped, step_at}
use Rattle.file_walk.proofs.Fronts.{sized, sized_front}
use Rattle.file_walk.proofs.Cursor.step.Goals as goal
use Rattle.file_walk.proofs.Cursor.step.Goals.{After-count-n, After-is_long}

-- the step, by the words that are left
by_left : (c : After-count-n) → step_at (words_of c.args.file.now) c.args.self
    ≡ stepped c.args.self.at (words_of c.rest-left.result.now) (fronted (get_or (words_of c.rest-left.result.now) 0 0) (get_or (words_of c.rest-left.result.now) 1 0) c.count-n.result)
unfolding step_at front_of
by_left c = simp (← c.count.ensures, le-ltb _ _ c.if-count-at.false, ← c.rest-left.ensures.words, ← c.count-n.ensures)

-- the same, where these are some, and do not begin with the end marker
by_size : (c : After-is_long) → step_at (words_of c.args.file.now) c.args.self
    ≡ stepped c.args.self.at (words_of c.rest-left.result.now) (sized c.is_long.result c.word-header.result (get_or (words_of c.rest-left.result.now) 1 0) c.count-n.result)
unfolding step_at front_of
by_size c =
    let no_end : c.word-header.result ≡ end_marker → ⊥ = omega (arith, c.if-header.false) in
    simp (← c.count.ensures, le-ltb _ _ c.if-count-at.false, ← c.rest-left.ensures.words, ← c.count-n.ensures, ← c.word-header.ensures, sized_front c.word-header.result (get_or (words_of c.rest-left.result.now) 1 0) c.count-n.result c.if-n-eq0.false no_end, ← c.is_long.ensures)

pub returns-then-count-at : goal.returns-then-count-at
unfolding step_at
returns-then-count-at c = simp (← c.count.ensures, lt-ltb _ _ c.if-count-at.true)

pub returns-then-n-eq0 : goal.returns-then-n-eq0
unfolding fronted stepped
returns-then-n-eq0 c = rw (by_left (goal.at.returns-then-n-eq0 c).After-count-n, c.if-n-eq0.true)

pub returns-then-header : goal.returns-then-header
unfolding fronted stepped
returns-then-header c =
    rw (by_left (goal.at.returns-then-header c).After-count-n, ne_eqb _ _ c.if-n-eq0.false, ← c.word-header.ensures, c.if-header.true, ← c.count-n.ensures)

pub cut-requires : goal.cut-requires
cut-requires c = omega (arith, words_length c.args.file.now)

pub returns-then-not-is_long : goal.returns-then-not-is_long
returns-then-not-is_long c =
    rw (by_size (goal.at.returns-then-not-is_long c).After-is_long, c.if-not-is_long.true, c.count-n.ensures) c.cut.ensures

pub returns-then-n-lt2 : goal.returns-then-n-lt2
unfolding stepped
returns-then-n-lt2 c = rw (by_size (goal.at.returns-then-n-lt2 c).After-is_long, c.if-not-is_long.false, lt-ltb _ _ c.if-n-lt2.true)

pub returns-then-length-lt2 : goal.returns-then-length-lt2
unfolding stepped
returns-then-length-lt2 c =
    rw (by_size (goal.at.returns-then-length-lt2 c).After-is_long, c.if-not-is_long.false, le-ltb _ _ c.if-n-lt2.false, ← c.word-length.ensures, lt-ltb _ _ c.if-length-lt2.true)

pub cut-requires-2 : goal.cut-requires-2
cut-requires-2 c = omega (arith, words_length c.args.file.now)

pub returns : goal.returns
returns c =
    rw (by_size (goal.at.returns c).After-is_long, c.if-not-is_long.false, le-ltb _ _ c.if-n-lt2.false, ← c.word-length.ensures, le-ltb _ _ c.if-length-lt2.false, c.count-n.ensures) c.cut-2.ensures
