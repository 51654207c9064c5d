-- What the desk says of a file is what the calls answer.
use mathlib.Core.Bool.{Bool, true, false, cond}
use mathlib.Core.List.{List, []}
use mathlib.Core.Path.{◌≡◌, refl, sym, ap, subst, ◌∙◌}
use Prim.Native.Nat.{ℕ, ◌+◌, ◌≤◌}
use native.Mathlib.Omega.{arith}
use borrow.Author.Tests.{le-ltb, eqb-true}
use lib.Dec.{ltb}
use lib.ListN.{length, drop, length-drop}
use Rattle.words.proofs.WordLaws.{Below}
use Rattle.paging.specs.declared.fit.Progress.{Progress}
use Rattle.paging.specs.Fit.{fit}
use Rattle.paging.proofs.FilledLaws.{fit_le}
use Rattle.file_refusal.specs.{declared.Refusal.Refusal, Refusal.refusal}
use Rattle.call_check.specs.declared.judge.State.{State}
use Rattle.std.specs.Prelude.{Result, Ok, Err}
use Rattle.call_check.specs.Judge.{surveyed}
use Rattle.call_check.specs.declared.check.Outline.{Outline}
use Rattle.call_check.specs.Check.{verdict, answered, Checked}
use Rattle.call_check.proofs.Answers.{checked_verdict}
use Rattle.sheet_page.specs.Sheet.{sheet_texts}
use Rattle.call_sheet.specs.Reply.{progress_in, asked_for, sheet_reply, Sheeted, replied as sheet·replied}
use Rattle.call_sheet.proofs.ReplyLaws.{values_one as sheet·values-one}
use Rattle.call_sheet.proofs.WrittenLaws.{Success}
use Rattle.call_slim.specs.Copy.{slim_copy, room_for, slim_reply, Slimmed, replied as slim·replied}
use Rattle.call_slim.proofs.ReplyLaws.{values_one as slim·values-one, copy_no_longer}
use Rattle.desk_words.specs.declared.Front.{Front}
use Rattle.desk_lines.specs.declared.Outcome.{Outcome}
use Rattle.desk_lines.specs.declared.Outcome.TheVariants.{Converted, Copied, Accepted}
use Rattle.desk_files.specs.declared.save.Fault.{Fault}
use Rattle.desk_files.specs.declared.Task.{Task}
use Rattle.desk_files.specs.declared.Task.TheVariants.{Sheets, Slims, Checks}
use Rattle.desk_files.specs.Desk.{front_of, done_with, by_verdict, outcome_of, IsSystem, told, Said, as_due, unwritten}

-- what could not be written after all
pub said_on : {a b c : Outcome} → Said a b → Said b c → Said a c
said_on s (unwritten error) = unwritten error
said_on {a} s (as_due o e) = subst (Said a) (sym e) s

-- nor what the system did not let be written
pub system_unwritten : (due : Outcome) (file : List ℕ) (fault : Fault) → IsSystem fault → Said due (told file (Err fault))
unfolding told
system_unwritten due file (Fault.System error) h = unwritten error
system_unwritten due file (Fault.Refused r) h = elim h [ ]

-- a refusal with the front that was found
pub with_front : {x : Refusal} {front f : Front} {due : Outcome} → front ≡ f → Outcome.Refused x f ≡ due → Outcome.Refused x front ≡ due
with_front {x} e q = ap (Outcome.Refused x) e ∙ q

-- ---- Check

by_check : List ℕ → Result Outline Refusal → Outcome
by_check file (Ok r) = Accepted
by_check file (Err x) = Outcome.Refused x (front_of file)

pub check_refused : (task : Task) (file label : List ℕ) (x : Refusal) → Checked file (Err x) → Outcome.Refused x (front_of file) ≡ outcome_of task file label
unfolding verdict answered outcome_of by_verdict by_check
check_refused task file label x w = go (surveyed file) (checked_verdict file (Err x) w)
  where
    go : (j : Result State Refusal) → Err x ≡ answered j → Outcome.Refused x (front_of file) ≡ by_verdict task file label j
    go (Err y) e = ap (by_check file) e
    go (Ok s) e = let z : ◌≡◌ {A = ℕ} 0 1 = cc in absurd (omega arith)

pub check_accepted : (file label : List ℕ) (r : Outline) → Checked file (Ok r) → Accepted ≡ outcome_of Checks file label
unfolding verdict answered outcome_of by_verdict done_with
check_accepted file label r w = go (surveyed file) (checked_verdict file (Ok r) w)
  where
    go : (j : Result State Refusal) → Ok r ≡ answered j → Accepted ≡ by_verdict Checks file label j
    go (Ok s) e = refl
    go (Err y) e = let z : ◌≡◌ {A = ℕ} 0 1 = cc in absurd (omega arith)

-- ---- Sheet

by_sheet : List ℕ → Result Progress Refusal → Outcome
by_sheet file (Ok p) = Accepted
by_sheet file (Err x) = Outcome.Refused x (front_of file)

pub sheet_refused : {file label : List ℕ} {n : ℕ} {before after : List ℕ} {x : Refusal} → Sheeted file label n before after (Err x) → 1024 ≤ length before
    → Outcome.Refused x (front_of file) ≡ outcome_of Sheets file label
unfolding sheet_reply sheet·replied asked_for outcome_of by_verdict done_with by_sheet
sheet_refused {file} {label} {n} {before} {x = x} w roomy = go (surveyed file) (sheet·values-one (Err x) (sheet_reply file label n (length before)) w.answer_is)
  where
    go₂ : (b : Bool) → Err x ≡ cond b (Err (refusal 10 0)) (Ok (progress_in (length before) (drop n (sheet_texts file label)))) → Outcome.Refused x (front_of file) ≡ cond b (Outcome.Refused (refusal 10 0) (front_of file)) (Converted (length (sheet_texts file label)))
    go₂ true e = ap (by_sheet file) e
    go₂ false e = let z : ◌≡◌ {A = ℕ} 0 1 = cc in absurd (omega arith)

    go : (j : Result State Refusal) → Err x ≡ sheet·replied label (length before) (drop n (sheet_texts file label)) j → Outcome.Refused x (front_of file) ≡ by_verdict Sheets file label j
    go (Err y) e = ap (by_sheet file) e
    go (Ok s) e = go₂ (ltb 507 (length label)) (rw (le-ltb (length before) 1024 roomy) at e)

module _ {file label : List ℕ} {n room : ℕ} {p : Progress} (w : Success file label n room p) (within : n ≤ length (sheet_texts file label)) where
  -- the lines so far are lines of the sheet
  pub lines_within : n + p.lines ≤ length (sheet_texts file label)
  unfolding progress_in
  lines_within = rw w.came (omega (arith, fit_le room (drop n (sheet_texts file label)), length-drop n (sheet_texts file label)))

  -- and all of them, where the last ones were written
  pub sheet_done : p.finished ≡ true → Converted (n + p.lines) ≡ outcome_of Sheets file label
  unfolding progress_in outcome_of by_verdict done_with
  sheet_done f =
      let ls = drop n (sheet_texts file label) in
      let all : n + p.lines ≡ length (sheet_texts file label) =
      rw w.came (omega (arith, eqb-true (fit room ls) (length ls) (sym (ap (λ (q : Progress). q.finished) w.came) ∙ f), length-drop n (sheet_texts file label))) in
      rw (w.passed, le-ltb 507 (length label) w.brief) (ap Converted all)

-- ---- Slim

abbrev pub by_slim : List ℕ → Result ℕ Refusal → Outcome
by_slim file (Ok n) = Copied n
by_slim file (Err x) = Outcome.Refused x (front_of file)

-- where the output has room for the file, the answer says it all
pub slim_said : {file before after : List ℕ} {r : Result ℕ Refusal} → Slimmed file before after r → Below 256 file → length file ≤ length before → (label : List ℕ)
    → by_slim file r ≡ outcome_of Slims file label
unfolding slim_reply slim·replied room_for outcome_of by_verdict done_with
slim_said {file} {before} {r = r} w small roomy label = ap (by_slim file) (slim·values-one r (slim_reply file (length before)) w.answer_is) ∙ go (surveyed file) refl
  where
    go : (j : Result State Refusal) → surveyed file ≡ j → by_slim file (slim·replied (slim_copy file) (length before) j) ≡ by_verdict Slims file label j
    go (Err y) e = refl
    go (Ok s) e = rw (le-ltb (length before) (length (slim_copy file)) (omega (arith, copy_no_longer file s e small))) refl

-- a slim copy has no label
pub slim_label : (file label : List ℕ) → outcome_of Slims file [] ≡ outcome_of Slims file label
unfolding outcome_of by_verdict done_with
slim_label file label = go (surveyed file)
  where
    go : (j : Result State Refusal) → by_verdict Slims file [] j ≡ by_verdict Slims file label j
    go (Err y) = refl
    go (Ok s) = refl
