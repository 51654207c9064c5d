-- The walk judged block by block: the first fault in file order, or what is known at the end (document 01, Refusal numbers).
use Rattle.std.specs.Prelude.{Bool, cond, ◌||◌, List, [], ℕ, ◌+◌, ◌%◌, eqb, ltb, length, get_or, Result, Ok, Err, ⊤}
use Rattle.words.specs.Words.{low, words_of}
use Rattle.file_refusal.specs.Refusal.{refusal}
use Rattle.file_walk.specs.declared.Stop.{Stop}
use Rattle.file_walk.specs.declared.Stop.TheVariants.{End}
use Rattle.file_walk.specs.Walk.{Walk, over, block, walked, end_marker}
use Rattle.file_rules.specs.declared.Row.{Row}
use Rattle.file_rules.specs.Block.{kept, offset_by}
use Rattle.file_order.specs.declared.setup.Setup.{Setup}
use Rattle.file_order.specs.declared.order.Due.{Due}
use Rattle.call_check.specs.declared.judge.State.{State}
use Rattle.file_order.specs.Setup.{no_setup, slim_of, learnt, row_for}
use Rattle.file_order.specs.Order.{key_of, only, is_due, passed_over, due_after}
use Rattle.call_check.specs.Starts.{starts_of, noted}
use Rattle.file_refusal.specs.declared.Refusal.{Refusal}

abbrev pub first_state : State
first_state = record { due = only 0x01; setup = no_setup; starts = starts_of [] }

-- a block that is not listed is passed over
unfoldable pub skipped : State → State
skipped s = record { due = passed_over s.due; setup = s.setup; starts = s.starts }

-- a listed block that starts at word `at` has been there, and this is known now
unfoldable pub entered : State → ℕ → ℕ → Setup → State
entered s key at known = record { due = due_after known key; setup = known; starts = noted s.starts (low key) at }

-- the same by the block's own words; no state depends on raw contents
unfoldable pub entered_by : State → ℕ → List ℕ → State
entered_by s at b = entered s (key_of (get_or b 0 0)) at (learnt s.setup (slim_of s.setup b []))

-- "order (4), long form not allowed or short (3), then words": a listed block, against what is due and its row
unfoldable pub tested_by : Row → Due → List ℕ → Result ⊤ Refusal
tested_by r d b = cond (is_due d (key_of (get_or b 0 0))) (kept r b) (Err (refusal 4 0))

-- the state that a test lets through, or its refusal
unfoldable pub judged_by : State → Result ⊤ Refusal → Result State Refusal
judged_by s (Ok tt) = Ok s
judged_by s (Err r) = Err r

-- a block that starts at word `at`
unfoldable pub seen_by : Row → State → ℕ → List ℕ → Result State Refusal
seen_by r s at b =
    cond r.listed
    (judged_by (entered_by s at b) (offset_by at (tested_by r s.due b)))
    (Ok (skipped s))

unfoldable pub seen_in : State → ℕ → List ℕ → Result State Refusal
seen_in s at b = seen_by (row_for s.setup (get_or b 0 0)) s at b

-- the end of the walk: "the end marker out of order" is 4, "a word after the end marker" 9 at the first such word
unfoldable pub closed : State → Stop → Result State Refusal
closed s (End at left) =
    cond (is_due s.due end_marker) (cond (eqb left 0) (Ok s) (Err (refusal 9 (at + 1)))) (Err (refusal 4 at))
closed s (Stop.Refused r) = Err r

-- the whole walk
unfoldable pub judge : State → Walk → Result State Refusal
judge s (over stop) = closed s stop
judge s (block at b raw w) = elim (seen_in s at b) [ Ok s' ↦ judge s' w | Err r ↦ Err r ]

-- "byte length odd or over 65,536"
unfoldable pub misfit : List ℕ → Bool
misfit file = eqb (length file % 2) 1 || ltb 65536 (length file)

-- "The order is 1; then file order"
unfoldable pub surveyed : List ℕ → Result State Refusal
surveyed file = cond (misfit file) (Err (refusal 1 0)) (judge first_state (walked (words_of file)))
