-- The numbers in an answer fit the fields of the structs: a function is 4 at most, a position 32,768.
use mathlib.Core.Bool.{Bool, true, false, cond}
use mathlib.Core.List.{List}
use mathlib.Core.Path.{◌≡◌, refl, sym, ap, ◌∙◌}
use Prim.Native.Nat.{ℕ, ◌≤◌}
use native.Mathlib.Omega.{arith}
use lib.Dec.{ltb}
use lib.ListN.{length, drop}
use Rattle.std.specs.declared.result.Result.TheVariants.{Ok, Err}
use Rattle.std.specs.declared.result.Result.{Result}
use Rattle.paging.specs.declared.fit.Progress.{Progress}
use Rattle.file_refusal.specs.{declared.Refusal.Refusal, Refusal.refusal}
use Rattle.call_check.specs.declared.judge.State.{State}
use Rattle.call_check.specs.declared.check.Outline.{Outline}
use Rattle.call_check.specs.Judge.{surveyed}
use Rattle.call_check.specs.Check.{outline_of, answered, verdict, Checked}
use Rattle.call_check.proofs.Answers.{checked_verdict}
use Rattle.sheet_page.specs.Sheet.{sheet_texts}
use Rattle.call_sheet.specs.Reply.{progress_in, asked_for, replied, sheet_reply, Sheeted}
use Rattle.call_sheet.proofs.ReplyLaws as SheetLaws
use Rattle.call_slim.specs.Copy as SlimCall
use Rattle.call_slim.proofs.ReplyLaws as SlimLaws
use Rattle.law_sound.proofs.Positions.{denied_near}
use Rattle.meter.proofs.FunctionLaws.{function_small}

-- a call that refuses what Check refuses, as Check does, is near where it refuses near for each state of an accepted file
module _ {T : Type 0} (file : List ℕ) (call : Result State Refusal → Result T Refusal) {x : Refusal}
    (same : (y : Refusal) → call (Err y) ≡ Err y) (near : (s : State) → call (Ok s) ≡ Err x → x.at ≤ 32768) where
  refused_near : call (surveyed file) ≡ Err x → x.at ≤ 32768
  refused_near e = go (surveyed file) refl e
    where
      go : (j : Result State Refusal) → surveyed file ≡ j → call j ≡ Err x → x.at ≤ 32768
      go (Ok s) f q = near s q
      go (Err y) f q = let one : x ≡ y = cc (same y) in rw one (denied_near file f).small

-- ---- Check

module _ (file : List ℕ) {a : Result Outline Refusal} (h : Checked file a) where
  -- an outline's function is small
  pub accepted_function : {r : Outline} → a ≡ Ok r → r.function ≤ 4
  unfolding verdict answered outline_of
  accepted_function {r} e = go (surveyed file) refl (sym e ∙ checked_verdict file a h)
    where
      go : (j : Result State Refusal) → surveyed file ≡ j → Ok r ≡ answered j → r.function ≤ 4
      go (Ok s) f q = let same : r ≡ outline_of s = cc in omega (arith, ap (λ (k : Outline). k.function) same, function_small file s f)
      go (Err x) f q = cc

  -- a refusal is at a word of the file, or at their number
  pub checked_near : {x : Refusal} → a ≡ Err x → x.at ≤ 32768
  unfolding verdict answered
  checked_near e = refused_near file answered (λ y. refl) (λ s q. cc) (sym (checked_verdict file a h) ∙ e)

-- ---- Sheet

module _ {file label : List ℕ} {n : ℕ} {before after : List ℕ} {a : Result Progress Refusal} (h : Sheeted file label n before after a) where
  -- the answer is the reply, not only its values
  pub answer_of_sheet : a ≡ sheet_reply file label n (length before)
  answer_of_sheet = SheetLaws.values_one a _ h.answer_is

  -- 10 and 11 are at 0, the others are Check's
  pub sheeted_near : {x : Refusal} → a ≡ Err x → x.at ≤ 32768
  unfolding sheet_reply replied asked_for
  sheeted_near {x} e =
      refused_near file (replied label (length before) ls) (λ y. refl) (λ s q. asked (ltb 507 (length label)) (ltb (length before) 1024) q) (sym answer_of_sheet ∙ e)
    where
      ls : List (List ℕ)
      ls = drop n (sheet_texts file label)

      asked : (t u : Bool) → cond t (Err (refusal 10 0)) (cond u (Err (refusal 11 0)) (Ok (progress_in (length before) ls))) ≡ Err x → x.at ≤ 32768
      asked true u q = let same : x ≡ refusal 10 0 = cc in rw same (omega arith)
      asked false true q = let same : x ≡ refusal 11 0 = cc in rw same (omega arith)
      asked false false q = cc

-- ---- Slim

module _ {file before after : List ℕ} {a : Result ℕ Refusal} (h : SlimCall.Slimmed file before after a) where
  -- the answer is the reply, not only its values
  pub answer_of_slim : a ≡ SlimCall.slim_reply file (length before)
  answer_of_slim = SlimLaws.values_one a _ h.answer_is

  -- 11 is at 0, the others are Check's
  pub slimmed_near : {x : Refusal} → a ≡ Err x → x.at ≤ 32768
  unfolding SlimCall.slim_reply SlimCall.replied SlimCall.room_for
  slimmed_near {x} e =
      refused_near file (SlimCall.replied copy (length before)) (λ y. refl) (λ s q. room (ltb (length before) (length copy)) q) (sym answer_of_slim ∙ e)
    where
      copy : List ℕ
      copy = SlimCall.slim_copy file

      room : (t : Bool) → cond t (Err (refusal 11 0)) (Ok (length copy)) ≡ Err x → x.at ≤ 32768
      room true q = let same : x ≡ refusal 11 0 = cc in rw same (omega arith)
      room false q = cc
