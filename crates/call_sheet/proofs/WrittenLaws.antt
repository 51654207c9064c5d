-- What a success of Sheet tells its caller: how it came about; it counts what fits; line numbers stay small; and a sheet that is
-- not finished went on by a line at least, so that asking again for the next lines ends.
use mathlib.Core.Bool.{Bool, true, false, cond}
use mathlib.Core.List.{List, [], ◌∷◌}
use mathlib.Core.Path.{◌≡◌, refl, sym, ap, ◌∙◌}
use Prim.Native.Nat.{ℕ, zero, suc, ◌+◌, ◌≤◌, ◌<◌}
use native.Mathlib.Omega.{arith}
use borrow.Author.Tests.{le-leb, ltb-false, eqb-false}
use lib.Dec.{ltb}
use lib.ListN.{length, drop, length-drop}
use Rattle.words.proofs.WordLaws.{Below}
use Rattle.paging.specs.declared.fit.Progress.{Progress}
use Rattle.paging.specs.Fit.{fit}
use Rattle.paging.proofs.FitLaws.{fit_fits}
use Rattle.file_refusal.specs.{declared.Refusal.Refusal, Refusal.refusal}
use Rattle.call_check.specs.declared.judge.State.{State}
use Rattle.call_check.specs.Judge.{surveyed}
use Rattle.sheet_page.specs.Sheet.{sheet_texts}
use Rattle.sheet_page.specs.Limits.{Short}
use Rattle.sheet_page.proofs.Shortness.{lines_short}
use Rattle.sheet_page.proofs.Fewness.{sheet_few}
use Rattle.paging.proofs.FilledLaws.{fit_le}
use Rattle.call_sheet.specs.Reply.{progress_in, asked_for, replied, sheet_reply, Sheeted}
use Rattle.call_sheet.proofs.ReplyLaws.{values_one}
use Rattle.file_refusal.specs.declared.Refusal.{Refusal}
use Rattle.std.specs.declared.result.Result.TheVariants.{Ok, Err}
use Rattle.std.specs.declared.result.Result.{Result}

-- the file is accepted, the label and the output are as they may be, and the numbers are those of the lines that fit
pub record Success (file label : List ℕ) (n room : ℕ) (p : Progress) : Type 0 where
  pub state : State
  pub passed : surveyed file ≡ Ok state
  pub brief : length label ≤ 507
  pub roomy : 1024 ≤ room
  pub came : p ≡ progress_in room (drop n (sheet_texts file label))

no_refusal : {p : Progress} {x : Refusal} → Ok p ≡ Err x → ⊥
no_refusal e = let z : ◌≡◌ {A = ℕ} 0 1 = cc in omega arith

pub success : {file label : List ℕ} {n : ℕ} {before after : List ℕ} (p : Progress) → Sheeted file label n before after (Ok p) → Success file label n (length before) p
unfolding sheet_reply replied asked_for
success {file} {label} {n} {before} p w = go (surveyed file) refl (values_one (Ok p) (sheet_reply file label n (length before)) w.answer_is)
  where
    go : (j : Result State Refusal) → surveyed file ≡ j → Ok p ≡ replied label (length before) (drop n (sheet_texts file label)) j → Success file label n (length before) p
    go (Err x) e q = absurd (no_refusal q)
    go (Ok s) e q = go₂ (ltb 507 (length label)) (ltb (length before) 1024) refl refl q
      where
        go₂ : (a b : Bool) → ltb 507 (length label) ≡ a → ltb (length before) 1024 ≡ b
            → Ok p ≡ cond a (Err (refusal 10 0)) (cond b (Err (refusal 11 0)) (Ok (progress_in (length before) (drop n (sheet_texts file label))))) → Success file label n (length before) p
        go₂ true b x y r = absurd (no_refusal r)
        go₂ false true x y r = absurd (no_refusal r)
        go₂ false false x y r = record { state = s; passed = e; brief = ltb-false 507 (length label) x; roomy = ltb-false (length before) 1024 y; came = cc }

-- ---- what it tells

short_fits : (room : ℕ) (ls : List (List ℕ)) → Short 1024 ls → 1024 ≤ room → fit room ls < length ls → 1 ≤ fit room ls
unfolding fit
short_fits room [] s r h = absurd (omega arith)
short_fits room (l ∷ ls) s r h = rw (le-leb (length l) room (omega (arith, s.0))) (omega arith)

short_drop : (n : ℕ) (ls : List (List ℕ)) → Short 1024 ls → Short 1024 (drop n ls)
short_drop zero ls s = s
short_drop (suc n) [] s = s
short_drop (suc n) (l ∷ ls) s = short_drop n ls s.1

module _ {file label : List ℕ} {n room : ℕ} {p : Progress} (w : Success file label n room p) where
  -- the bytes fit
  pub counts_within : p.bytes ≤ room
  unfolding progress_in
  counts_within = rw w.came (fit_fits room (drop n (sheet_texts file label)))

  -- the next line number is small
  pub next_small : n < 4294967296 → n + p.lines < 4294967296
  unfolding progress_in
  next_small h =
      rw w.came
      (omega (arith, fit_le room (drop n (sheet_texts file label)), length-drop n (sheet_texts file label), sheet_few file label w.state w.passed))

  -- a line at least was written where there are more
  pub goes_on : Below 256 file → p.finished ≡ false → 1 ≤ p.lines
  unfolding progress_in
  goes_on small f =
      let ls = drop n (sheet_texts file label) in
      let some : fit room ls < length ls = omega (arith, eqb-false (fit room ls) (length ls) (sym (ap (λ (q : Progress). q.finished) w.came) ∙ f), fit_le room ls) in
      rw w.came (short_fits room ls (short_drop n (sheet_texts file label) (lines_short file label w.state w.passed small w.brief)) w.roomy some)
