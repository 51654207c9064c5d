-- The slim copy of a file, and what Slim answers (document 01, Slim copy and Refusal numbers).
use Rattle.std.specs.Prelude.{cond, ◌≡◌, ℕ, ltb, length, Result, Ok, Err}
use mathlib.Core.List.{List, [], ◌∷◌, ◌++◌, flat_map}
use Rattle.words.specs.Words.{bytes_of}
use Rattle.text.specs.Text.{over}
use Rattle.file_refusal.specs.Refusal.{refusal}
use Rattle.file_walk.specs.Walk.{end_marker}
use Rattle.file_rules.specs.Slim.{Slim, words_in}
use Rattle.call_check.specs.Judge.{surveyed}
use Rattle.call_check.specs.Slims.{slims_in}
use Rattle.file_refusal.specs.declared.Refusal.{Refusal}
use Rattle.call_check.specs.declared.judge.State.{State}

-- "The listed blocks and raw contents in order .. ; the end marker"
unfoldable pub slim_words : List Slim → List ℕ
slim_words xs = flat_map words_in xs ++ (end_marker ∷ [])

-- the slim copy of a file, as bytes
unfoldable pub slim_copy : List ℕ → List ℕ
slim_copy file = bytes_of (slim_words (slims_in file))

-- ---- the call

-- "11 .. output .. under the slim length": an accepted file, and an output of `room` bytes
unfoldable pub room_for : List ℕ → ℕ → Result ℕ Refusal
room_for copy room = cond (ltb room (length copy)) (Err (refusal 11 0)) (Ok (length copy))

-- "The order is 1; then file order; .. then 11"
unfoldable pub replied : List ℕ → ℕ → Result State Refusal → Result ℕ Refusal
replied copy room (Ok s) = room_for copy room
replied copy room (Err r) = Err r

-- the answer of Slim to a file and an output of `room` bytes
unfoldable pub slim_reply : List ℕ → ℕ → Result ℕ Refusal
slim_reply file room = replied (slim_copy file) room (surveyed file)

-- the output after an answer: "Refusals .. write no byte; a success writes only the bytes it counts"
unfoldable pub output_by : List ℕ → List ℕ → Result ℕ Refusal → List ℕ
output_by copy before (Ok n) = over copy before
output_by copy before (Err r) = before

-- document 01's numbers and values for each answer: a refusal's number and position; for a success 0, which is no refusal's
-- number, at 0, and the byte length
unfoldable pub values : Result ℕ Refusal → List ℕ
values (Ok n) = 0 ∷ (0 ∷ (n ∷ []))
values (Err r) = r.num ∷ (r.at ∷ [])

-- the promise of Slim: its answer has the number and the values of the reply, and the output is as the reply leaves it
pub record Slimmed (file before after : List ℕ) (answer : Result ℕ Refusal) : Type 0 where
  pub answer_is : values answer ≡ values (slim_reply file (length before))
  pub output_is : after ≡ output_by (slim_copy file) before (slim_reply file (length before))
