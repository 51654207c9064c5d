-- What Sheet answers (document 01, What the converter takes and Refusal numbers).
use Rattle.std.specs.Prelude.{cond, List, [], ◌∷◌, ◌≡◌, ℕ, eqb, ltb, length, take, drop, Result, Ok, Err}
use Rattle.paging.specs.declared.fit.Progress.{Progress}
use Rattle.paging.specs.Fit.{fit, joined}
use Rattle.text.specs.Text.{over}
use Rattle.file_refusal.specs.Refusal.{refusal}
use Rattle.call_check.specs.Judge.{surveyed}
use Rattle.sheet_page.specs.Sheet.{sheet_texts}
use Rattle.file_refusal.specs.declared.Refusal.{Refusal}
use Rattle.call_check.specs.declared.judge.State.{State}

-- "it writes lines n, n+1, .. as many whole lines as fit, and answers the lines written, the bytes written and whether the
-- sheet is finished": of these lines into `room` bytes
unfoldable pub progress_in : ℕ → List (List ℕ) → Progress
progress_in room ls =
    record {
      lines = fit room ls;
      bytes = length (joined (take (fit room ls) ls));
      finished = eqb (fit room ls) (length ls);
    }

-- "10 label over 507 bytes", "11 output under 1,024 bytes", both at 0
unfoldable pub asked_for : List ℕ → ℕ → List (List ℕ) → Result Progress Refusal
asked_for label room ls =
    cond (ltb 507 (length label)) (Err (refusal 10 0))
    (cond (ltb room 1024) (Err (refusal 11 0))
    (Ok (progress_in room ls)))

-- "The order is 1; then file order; then 10; then 11"
unfoldable pub replied : List ℕ → ℕ → List (List ℕ) → Result State Refusal → Result Progress Refusal
replied label room ls (Ok s) = asked_for label room ls
replied label room ls (Err r) = Err r

-- the answer of Sheet to a file, a label, a line number and an output of `room` bytes
unfoldable pub sheet_reply : List ℕ → List ℕ → ℕ → ℕ → Result Progress Refusal
sheet_reply file label n room = replied label room (drop n (sheet_texts file label)) (surveyed file)

-- the output after an answer: "Refusals .. write no byte; a success writes only the bytes it counts"
unfoldable pub output_by : List (List ℕ) → List ℕ → Result Progress Refusal → List ℕ
output_by ls before (Ok p) = over (joined (take p.lines ls)) before
output_by ls before (Err r) = before

-- document 01's numbers and values for each answer: a refusal's number and position; for a success 0, which is no refusal's
-- number, at 0, the lines, the bytes, and 1 where the sheet is finished
unfoldable pub values : Result Progress Refusal → List ℕ
values (Ok p) = 0 ∷ (0 ∷ (p.lines ∷ (p.bytes ∷ (cond p.finished 1 0 ∷ []))))
values (Err r) = r.num ∷ (r.at ∷ [])

-- the promise of Sheet: its answer has the number and the values of the reply, and the output is as the reply leaves it
pub record Sheeted (file label : List ℕ) (n : ℕ) (before after : List ℕ) (answer : Result Progress Refusal) : Type 0 where
  pub answer_is : values answer ≡ values (sheet_reply file label n (length before))
  pub output_is : after ≡ output_by (drop n (sheet_texts file label)) before (sheet_reply file label n (length before))
