-- What Check answers (document 01, What the converter takes).
use Rattle.std.specs.Prelude.{List, [], ◌∷◌, ◌≡◌, ℕ, Result, Ok, Err}
use Rattle.call_check.specs.declared.judge.State.{State}
use Rattle.call_check.specs.declared.check.Outline.{Outline}
use Rattle.call_check.specs.Starts.{starts_in}
use Rattle.call_check.specs.Judge.{surveyed}
use Rattle.file_refusal.specs.declared.Refusal.{Refusal}

-- "The record holds the function, and the start word of each of 01, 02, 03, 04, 05, 07, spectrum (0E or 10), 09 and 0F"
unfoldable pub outline_of : State → Outline
outline_of s = record { function = s.setup.function; starts = s.starts }

unfoldable pub answered : Result State Refusal → Result Outline Refusal
answered (Ok s) = Ok (outline_of s)
answered (Err r) = Err r

-- the answer of Check to a file's bytes
unfoldable pub verdict : List ℕ → Result Outline Refusal
verdict file = answered (surveyed file)

-- document 01's numbers and values for each answer: a refusal's number and position; for an acceptance 0, which is no
-- refusal's number, the function and the nine starts
unfoldable pub values : Result Outline Refusal → List ℕ
values (Ok r) = 0 ∷ (r.function ∷ starts_in r.starts)
values (Err r) = r.num ∷ (r.at ∷ [])

-- the promise of Check: its answer has the number and the values of the verdict
unfoldable pub Checked : List ℕ → Result Outline Refusal → Type 0
Checked file answer = values answer ≡ values (verdict file)
