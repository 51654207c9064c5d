-- Laws of what stands at a target: texts that are the same, and a file that is its own slim copy.
use Rattle.std.specs.Prelude.{Result, Ok, Err}
use Rattle.std.specs.Bool.{Decides}
use Rattle.std.proofs.lemmas.Slice.Eq.{compares_Decides}
use Rattle.desk_lines.specs.declared.Taken.{Taken}
use mathlib.Core.Bool.{Bool, true, false}
use mathlib.Core.List.{List}
use mathlib.Core.Path.{◌≡◌, refl, ap}
use Prim.Native.Nat.{ℕ, ◌-◌, ◌≤◌}
use native.Mathlib.Nat.{sub-zero}
use native.Mathlib.Omega.{arith}
use borrow.Author.Rules.{rules}
use borrow.Author.Tests.{le-ltb}
use lib.ListN.{length, take, drop}
use lib.Seq.{take-append_seam}
use Rattle.words.proofs.WordLaws.{Below}
use Rattle.text.specs.Text.{over}
use Rattle.file_refusal.specs.declared.Refusal.{Refusal}
use Rattle.call_check.specs.declared.judge.State.{State}
use Rattle.call_check.specs.Judge.{surveyed}
use Rattle.call_slim.specs.Copy.{slim_copy, room_for, replied, slim_reply, output_by, Slimmed}
use Rattle.call_slim.proofs.ReplyLaws.{values_one, copy_no_longer}
use Rattle.desk_targets.specs.declared.Form.{Form}
use Rattle.desk_targets.specs.Target.{same, is_itself, is_slim, IsInput, Read, standing, Stood}

same_Decides : (a b : List ℕ) → Decides (same a b) (a ≡ b)
unfolding same
same_Decides = compares_Decides same (search rules)

-- what `is_same` answers decides it
pub is_same_Decides : {a b : List ℕ} {r : Bool} → (r ≡ true → a ≡ b) × (r ≡ false → a ≡ b → ⊥) → Decides r (a ≡ b)
is_same_Decides {r = true} w = (w.0, λ e. refl)
is_same_Decides {r = false} w = (w.0, λ e. absurd (w.1 refl e))

-- what a comparison answers
pub same_is : {a b : List ℕ} {r : Bool} → Decides r (a ≡ b) → r ≡ same a b
same_is {a} {b} w = search (rules, same_Decides a b)

module _ {file before after : List ℕ} (below : Below 256 file) (roomy : length file ≤ length before) where
  -- a file that Slim refuses
  pub refused_not : {x : Refusal} → Slimmed file before after (Err x) → false ≡ is_slim file
  unfolding slim_reply replied room_for is_slim is_itself
  refused_not {x} w = go (surveyed file) refl (values_one (Err x) (slim_reply file (length before)) w.answer_is)
    where
      go : (j : Result State Refusal) → surveyed file ≡ j → Err x ≡ replied (slim_copy file) (length before) j → false ≡ is_itself file j
      go (Err y) e q = refl
      go (Ok s) e q =
          let z : Err x ≡ Ok (length (slim_copy file)) = rw (le-ltb (length before) (length (slim_copy file)) (omega (arith, copy_no_longer file s e below))) at q in
          let y : ◌≡◌ {A = ℕ} 0 1 = cc in absurd (omega arith)

  -- and one that it copies: the output's front is the slim copy
  pub written_same : {n : ℕ} → Slimmed file before after (Ok n) → same (take (n - 0) after) file ≡ is_slim file
  unfolding slim_reply replied room_for output_by is_slim is_itself
  written_same {n} w = go (surveyed file) refl (values_one (Ok n) (slim_reply file (length before)) w.answer_is) w.output_is
    where
      go : (j : Result State Refusal) → surveyed file ≡ j → Ok n ≡ replied (slim_copy file) (length before) j → after ≡ output_by (slim_copy file) before (replied (slim_copy file) (length before) j)
          → same (take (n - 0) after) file ≡ is_itself file j
      go (Err y) e q o = let z : ◌≡◌ {A = ℕ} 0 1 = cc in absurd (omega arith)
      go (Ok s) e q o =
          let fits = le-ltb (length before) (length (slim_copy file)) (omega (arith, copy_no_longer file s e below)) in
          let a : Ok n ≡ Ok (length (slim_copy file)) = rw fits at q in
          let k : n ≡ length (slim_copy file) = cc in
          let b : after ≡ over (slim_copy file) before = rw fits at o in
          ap (λ (l : List ℕ). same l file) (rw (sub-zero, k, b) (take-append_seam (slim_copy file) (drop (length (slim_copy file)) before)))

-- a target that no earlier file has is what it was read to be
pub read_stood : {form : Form} {claimed input : Bool} {ids id held : List ℕ} {t : Result (Unit {0}) Taken} → claimed ≡ false → IsInput ids id input → Read form input held t → Stood form claimed ids id t
unfolding standing
read_stood {input = input} {held = held} free asked r = record { input = input; asked = asked; got = r.got; held = held; stood = rw free r.reads }
