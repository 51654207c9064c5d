-- The third demand, of the sheet, of the slim copy, and of the whole replies of Sheet and Slim.
use mathlib.Core.List.{List}
use mathlib.Core.Path.{◌≡◌, refl, ap, ◌∙◌}
use Prim.Native.Nat.{ℕ}
use native.Mathlib.Omega.{arith}
use lib.ListN.{length, drop}
use Rattle.call_check.specs.Judge.{surveyed}
use Rattle.call_check.specs.Check.{answered, verdict}
use Rattle.file_rules.specs.Slim.{Slim}
use Rattle.law_grammar.specs.Grammar.{Accepts}
use Rattle.law_additions.specs.Additions.{Added}
use Rattle.law_additions.proofs.Unchanged.{additions_accepted}
use Rattle.words.specs.Words.{bytes_of}
use Rattle.call_slim.specs.Copy.{slim_words, slim_copy, Slimmed}
use Rattle.call_slim.specs.Copy as Copy
use Rattle.call_slim.specs.Parts.{IsAccepted}
use Rattle.call_slim.proofs.ReplyLaws.{slimmed_one}
use Rattle.sheet_page.specs.Rows.{texts}
use Rattle.sheet_page.specs.Sheet.{sheet_lines, sheet_texts}
use Rattle.call_sheet.specs.Reply.{Sheeted}
use Rattle.call_sheet.specs.Reply as Sheet
use Rattle.call_sheet.proofs.ReplyLaws.{sheeted_one}
use Rattle.law_demands.specs.Demand.{SameAnswers}
use Rattle.file_refusal.specs.declared.Refusal.{Refusal}
use Rattle.call_check.specs.declared.judge.State.{State}
use Rattle.paging.specs.declared.fit.Progress.{Progress}
use Rattle.std.specs.declared.result.Result.TheVariants.{Ok, Err}
use Rattle.std.specs.declared.result.Result.{Result}

-- "the new file is accepted too, and with the same label gives the same sheet and the same slim copy, byte for byte"
pub additions_change_nothing : (f g : List ℕ) → Accepts f → Added f g → SameAnswers f g
unfolding sheet_texts slim_copy
additions_change_nothing f g accepted added =
    let same = additions_accepted f g accepted added in
    record {
      accepted = same.0;
      sheet = λ label. ap (λ (xs : List Slim). texts (sheet_lines xs label)) same.1;
      copy = ap (λ (xs : List Slim). bytes_of (slim_words xs)) same.1;
    }

-- ---- the calls

-- the walk over an accepted file passes
accepted_passes : (f : List ℕ) → Accepts f → IsAccepted f
unfolding verdict answered
accepted_passes f a = go (surveyed f) refl a.answer
  where
    go : (j : Result State Refusal) → surveyed f ≡ j → answered j ≡ Ok a.found → IsAccepted f
    go (Ok s) e h = record { state = s; passed = e }
    go (Err x) e h = let z : ◌≡◌ {A = ℕ} 0 1 = cc in absurd (omega arith)

module _ (f g : List ℕ) (accepted : Accepts f) (added : Added f g) where
  abbrev same : SameAnswers f g
  same = additions_change_nothing f g accepted added

  -- for the same label, line number and output the whole reply of Sheet is the same, 10 and 11 too
  pub same_sheet : {label : List ℕ} {n : ℕ} {before a b : List ℕ} {r q : Result Progress Refusal} → Sheeted f label n before a r → Sheeted g label n before b q → (r ≡ q) × (a ≡ b)
  unfolding Sheet.sheet_reply Sheet.replied
  same_sheet {label} {n} {before} {a} {b} {r} {q} s t =
      let x = accepted_passes f accepted in
      let y = accepted_passes g same.accepted in
      let reply : Sheet.sheet_reply g label n (length before) ≡ Sheet.sheet_reply f label n (length before) = rw (x.passed, y.passed, same.sheet label) in
      let output : b ≡ Sheet.output_by (drop n (sheet_texts f label)) before (Sheet.sheet_reply f label n (length before)) = rw (← reply, ← same.sheet label) t.output_is in
      sheeted_one s (record { answer_is = t.answer_is ∙ ap Sheet.values reply; output_is = output })

  -- and so is that of Slim
  pub same_slim : {before a b : List ℕ} {r q : Result ℕ Refusal} → Slimmed f before a r → Slimmed g before b q → (r ≡ q) × (a ≡ b)
  unfolding Copy.slim_reply Copy.replied
  same_slim {before} {a} {b} {r} {q} s t =
      let x = accepted_passes f accepted in
      let y = accepted_passes g same.accepted in
      let reply : Copy.slim_reply g (length before) ≡ Copy.slim_reply f (length before) = rw (x.passed, y.passed, same.copy) in
      let output : b ≡ Copy.output_by (slim_copy f) before (Copy.slim_reply f (length before)) = rw (← reply, ← same.copy) t.output_is in
      slimmed_one s (record { answer_is = t.answer_is ∙ ap Copy.values reply; output_is = output })
