-- The answer of Slim: how its cases come about, what a success says, and that there is one.
use mathlib.Core.Bool.{Bool, true, false, cond}
use mathlib.Core.List.{List}
use mathlib.Core.Path.{◌≡◌, refl, sym, ap, ◌∙◌}
use Prim.Native.Nat.{ℕ, ◌*◌, ◌≤◌, ◌<◌}
use native.Mathlib.Omega.{arith}
use lib.Dec.{ltb}
use lib.ListN.{length, get_or}
use borrow.Author.Tests.{lt-ltb, le-ltb, ltb-false}
use Rattle.words.proofs.WordLaws.{Below, bytes_length, words_length}
use Rattle.file_refusal.specs.{declared.Refusal.Refusal, Refusal.refusal}
use Rattle.call_check.specs.declared.judge.State.{State}
use Rattle.call_check.specs.Judge.{surveyed}
use Rattle.call_check.specs.Slims.{slims_in}
use Rattle.call_slim.specs.Copy.{slim_words, slim_copy, room_for, replied, slim_reply, output_by, values, Slimmed}
use Rattle.call_slim.proofs.CopyLaws.{no_longer}
use Rattle.file_refusal.specs.declared.Refusal.{Refusal}
use Rattle.std.specs.declared.result.Result.TheVariants.{Ok, Err}
use Rattle.std.specs.declared.result.Result.{Result}

pub copy_length : (file : List ℕ) → length (slim_copy file) ≡ 2 * length (slim_words (slims_in file))
unfolding slim_copy
copy_length file = bytes_length (slim_words (slims_in file))

-- a slim copy is no longer than its file
pub copy_no_longer : (file : List ℕ) (s : State) → surveyed file ≡ Ok s → Below 256 file → length (slim_copy file) ≤ length file
copy_no_longer file s e below = omega (arith, copy_length file, no_longer file s e below, words_length file)

-- ---- the cases

pub no_room : (copy : List ℕ) (room : ℕ) → room < length copy → Err (refusal 11 0) ≡ room_for copy room
unfolding room_for
no_room copy room h = rw (lt-ltb room (length copy) h)

pub has_room : (copy : List ℕ) (room n : ℕ) → length copy ≤ room → n ≡ length copy → Ok n ≡ room_for copy room
unfolding room_for
has_room copy room n h e = rw (le-ltb room (length copy) h, e)

-- a refusal leaves every byte as it was
pub left_alone : (copy before : List ℕ) (x : Refusal) → before ≡ output_by copy before (Err x)
unfolding output_by
left_alone copy before x = refl

module _ (file before after : List ℕ) where
  pub slimmed_passed : (s : State) → surveyed file ≡ Ok s → (r : Result ℕ Refusal) → r ≡ room_for (slim_copy file) (length before) → after ≡ output_by (slim_copy file) before r → Slimmed file before after r
  unfolding slim_reply replied
  slimmed_passed s e r q o =
      let same : slim_reply file (length before) ≡ r = ap (replied (slim_copy file) (length before)) e ∙ sym q in
      record { answer_is = ap values (sym same); output_is = o ∙ ap (output_by (slim_copy file) before) (sym same) }

  pub slimmed_denied : (x : Refusal) → surveyed file ≡ Err x → after ≡ before → Slimmed file before after (Err x)
  unfolding slim_reply replied
  slimmed_denied x e o =
      let same : slim_reply file (length before) ≡ Err x = ap (replied (slim_copy file) (length before)) e in
      record { answer_is = ap values (sym same); output_is = o ∙ left_alone (slim_copy file) before x ∙ ap (output_by (slim_copy file) before) (sym same) }

-- ---- one answer

pub values_one : (a b : Result ℕ Refusal) → values a ≡ values b → a ≡ b
unfolding values
values_one (Ok n) (Ok m) e = cc
values_one (Ok n) (Err x) e = let z : length (values (Ok n)) ≡ length (values (Err x)) = ap length e in absurd (omega arith)
values_one (Err x) (Ok n) e = let z : length (values (Err x)) ≡ length (values (Ok n)) = ap length e in absurd (omega arith)
values_one (Err x) (Err y) e = ap (λ (vs : List ℕ). Err (refusal (get_or vs 0 0) (get_or vs 1 0))) e

-- two answers to one file and one output are the same, and leave the same bytes
pub slimmed_one : {file before a b : List ℕ} {r q : Result ℕ Refusal} → Slimmed file before a r → Slimmed file before b q → (r ≡ q) × (a ≡ b)
slimmed_one {r = r} {q} s t = (values_one r q (s.answer_is ∙ sym t.answer_is), s.output_is ∙ sym t.output_is)

-- ---- a success

-- it counts what fits
pub slimmed_fits : {file before after : List ℕ} {r : Result ℕ Refusal} → Slimmed file before after r → (n : ℕ) → r ≡ Ok n → n ≤ length before
unfolding slim_reply replied room_for
slimmed_fits {file} {before} s n e = go (surveyed file) (values_one (Ok n) (slim_reply file (length before)) (ap values (sym e) ∙ s.answer_is))
  where
    room : (t : Bool) → ltb (length before) (length (slim_copy file)) ≡ t → Ok n ≡ cond t (Err (refusal 11 0)) (Ok (length (slim_copy file))) → n ≤ length before
    room true p q = let z : ◌≡◌ {A = ℕ} 0 1 = cc in absurd (omega arith)
    room false p q = let z : n ≡ length (slim_copy file) = cc in omega (arith, z, ltb-false (length before) (length (slim_copy file)) p)

    go : (j : Result State Refusal) → Ok n ≡ replied (slim_copy file) (length before) j → n ≤ length before
    go (Ok s') q = room (ltb (length before) (length (slim_copy file))) refl q
    go (Err x) q = let z : ◌≡◌ {A = ℕ} 0 1 = cc in absurd (omega arith)
