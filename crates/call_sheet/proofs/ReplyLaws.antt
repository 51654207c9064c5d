-- The answer of Sheet: how its cases come about, and that there is one.
use mathlib.Core.Bool.{Bool, true, false, cond}
use mathlib.Core.List.{List, [], ◌++◌}
use mathlib.Core.Path.{◌≡◌, refl, sym, ap, subst, ◌∙◌}
use Prim.Native.Nat.{ℕ, ◌≤◌, ◌<◌}
use native.Mathlib.Omega.{arith}
use borrow.Author.Tests.{lt-ltb, le-ltb}
use lib.Dec.{eqb}
use lib.ListN.{length, get_or, take, drop, length-drop}
use Rattle.paging.specs.declared.fit.Progress.{Progress}
use Rattle.paging.specs.Fit.{joined, Filled}
use Rattle.paging.proofs.FitLaws.{same_progress}
use Rattle.file_refusal.specs.{declared.Refusal.Refusal, Refusal.refusal}
use Rattle.call_check.specs.declared.judge.State.{State}
use Rattle.call_check.specs.Judge.{surveyed}
use Rattle.call_check.specs.Slims.{slims_in}
use Rattle.sheet_page.specs.Rows.{texts}
use Rattle.sheet_page.specs.Sheet.{head_lines, result_lines, spectrum_lines, statistics_lines, buffer_lines, sheet_lines, sheet_texts}
use Rattle.sheet_page.proofs.RowLaws.{texts_append}
use Rattle.sheet_page.proofs.Fewness.{sheet_few}
use Rattle.paging.specs.declared.run.Run.{Run}
use Rattle.paging.specs.Run.{start_run, progress_of, Running, Continued}
use Rattle.paging.proofs.FilledLaws.{filled_few}
use Rattle.paging.proofs.RunLaws.{begin, lines_are}
use Rattle.call_sheet.specs.Reply.{progress_in, asked_for, replied, sheet_reply, output_by, values, Sheeted}
use Rattle.file_refusal.specs.declared.Refusal.{Refusal}
use Rattle.std.specs.declared.result.Result.TheVariants.{Ok, Err}
use Rattle.std.specs.declared.result.Result.{Result}

-- ---- section after section

all_texts : (file label : List ℕ)
    → texts (head_lines (slims_in file) label) ++ texts (result_lines (slims_in file)) ++ texts (spectrum_lines (slims_in file)) ++ texts (statistics_lines (slims_in file)) ++ texts (buffer_lines (slims_in file))
    ≡ sheet_texts file label
unfolding sheet_texts sheet_lines
all_texts file label =
    let xs = slims_in file in
    let a = head_lines xs label in
    let b = result_lines xs in
    let c = spectrum_lines xs in
    let d = statistics_lines xs in
    let e = buffer_lines xs in
    sym (
    texts_append (a ++ b ++ c ++ d) e
    ∙ ap (λ (l : List (List ℕ)). l ++ texts e)
    (
    texts_append (a ++ b ++ c) d
    ∙ ap (λ (l : List (List ℕ)). l ++ texts d) (texts_append (a ++ b) c ∙ ap (λ (l : List (List ℕ)). l ++ texts c) (texts_append a b))
    )
    )

module _ (file label : List ℕ) (n : ℕ) {d e : List ℕ} where
  -- all sections from the first on
  pub ran : {start end : Run} → start ≡ start_run n
      → Continued (texts (head_lines (slims_in file) label) ++ texts (result_lines (slims_in file)) ++ texts (spectrum_lines (slims_in file)) ++ texts (statistics_lines (slims_in file)) ++ texts (buffer_lines (slims_in file))) d e start end
      → Filled (drop n (sheet_texts file label)) d e (progress_of end)
  ran s c =
      let all = lines_are c (all_texts file label) in
      (all.goes n [] d (subst (λ (r : Run). Running n [] d d r) (sym s) (begin n d))).filled

  -- it has few lines
  pub ran_few : (s : State) → surveyed file ≡ Ok s → {p : Progress} → Filled (drop n (sheet_texts file label)) d e p → p.lines < 4294967296
  ran_few s p f = omega (arith, filled_few f, length-drop n (sheet_texts file label), sheet_few file label s p)

-- ---- the cases

filled_is : {ls : List (List ℕ)} {d e : List ℕ} {p : Progress} → Filled ls d e p → p ≡ progress_in (length d) ls
unfolding progress_in
filled_is {ls} {d} {p = p} f =
    let bytes : p.bytes ≡ (progress_in (length d) ls).bytes = f.wrote.counted ∙ ap (λ (k : ℕ). length (joined (take k ls))) f.most in
    let finished : p.finished ≡ (progress_in (length d) ls).finished = f.finished ∙ ap (λ (k : ℕ). eqb k (length ls)) f.most in
    same_progress f.most bytes finished

module _ (file label : List ℕ) (n : ℕ) (before after : List ℕ) where
  -- the answer and the output of a reply
  as_replied : (r : Result Progress Refusal) → sheet_reply file label n (length before) ≡ r → after ≡ output_by (drop n (sheet_texts file label)) before r → Sheeted file label n before after r
  as_replied r e o = record { answer_is = ap values (sym e); output_is = o ∙ ap (output_by (drop n (sheet_texts file label)) before) (sym e) }

  pub sheeted_denied : (x : Refusal) → surveyed file ≡ Err x → after ≡ before → Sheeted file label n before after (Err x)
  unfolding sheet_reply replied output_by
  sheeted_denied x e o = as_replied (Err x) (rw e) o

  module _ (s : State) (e : surveyed file ≡ Ok s) where
    pub sheeted_label : 507 < length label → after ≡ before → Sheeted file label n before after (Err (refusal 10 0))
    unfolding sheet_reply replied asked_for output_by
    sheeted_label h o = as_replied _ (rw (e, lt-ltb 507 (length label) h)) o

    pub sheeted_room : length label ≤ 507 → length before < 1024 → after ≡ before → Sheeted file label n before after (Err (refusal 11 0))
    unfolding sheet_reply replied asked_for output_by
    sheeted_room h l o = as_replied _ (rw (e, le-ltb 507 (length label) h, lt-ltb (length before) 1024 l)) o

    pub sheeted_written : (p : Progress) → length label ≤ 507 → 1024 ≤ length before → Filled (drop n (sheet_texts file label)) before after p → Sheeted file label n before after (Ok p)
    unfolding sheet_reply replied asked_for output_by
    sheeted_written p h l f =
        as_replied (Ok p) (rw (e, le-ltb 507 (length label) h, le-ltb (length before) 1024 l) (ap Ok (sym (filled_is f)))) f.wrote.out

-- ---- one answer

flag_one : (f g : Bool) → ◌≡◌ {A = ℕ} (cond f 1 0) (cond g 1 0) → f ≡ g
flag_one true true e = refl
flag_one true false e = absurd (omega arith)
flag_one false true e = absurd (omega arith)
flag_one false false e = refl

pub values_one : (a b : Result Progress Refusal) → values a ≡ values b → a ≡ b
unfolding values
values_one (Ok p) (Ok q) e =
    let lines : p.lines ≡ q.lines = cc in
    let bytes : p.bytes ≡ q.bytes = cc in
    let flag : ◌≡◌ {A = ℕ} (cond p.finished 1 0) (cond q.finished 1 0) = cc in
    ap Ok (same_progress lines bytes (flag_one p.finished q.finished flag))
values_one (Ok p) (Err x) e = let z : length (values (Ok p)) ≡ length (values (Err x)) = ap length e in absurd (omega arith)
values_one (Err x) (Ok p) e = let z : length (values (Err x)) ≡ length (values (Ok p)) = ap length e in absurd (omega arith)
values_one (Err x) (Err y) e = ap (λ (vs : List ℕ). Err (refusal (get_or vs 0 0) (get_or vs 1 0))) e

-- two answers to one file, label, line number and output are the same, and leave the same bytes
pub sheeted_one : {file label : List ℕ} {n : ℕ} {before a b : List ℕ} {r q : Result Progress Refusal} → Sheeted file label n before a r → Sheeted file label n before b q → (r ≡ q) × (a ≡ b)
sheeted_one {r = r} {q} s t = (values_one r q (s.answer_is ∙ sym t.answer_is), s.output_is ∙ sym t.output_is)
