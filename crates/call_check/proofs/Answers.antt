-- The number and the values of an answer tell which answer it is, so the promise of Check allows one answer alone.
use mathlib.Core.Bool.{cond}
use mathlib.Core.List.{List}
use mathlib.Core.Path.{◌≡◌, refl, sym, ap, ◌∙◌}
use Prim.Native.Nat.{ℕ}
use lib.Dec.{eqb}
use lib.ListN.{length, get_or, drop}
use Rattle.file_refusal.specs.Refusal.{refusal}
use Rattle.call_check.specs.Starts.{starts_of}
use Rattle.call_check.specs.Check.{verdict, values, Checked}
use Rattle.file_refusal.specs.declared.Refusal.{Refusal}
use Rattle.call_check.specs.declared.check.Outline.{Outline}
use Rattle.std.specs.declared.result.Result.TheVariants.{Ok, Err}
use Rattle.std.specs.declared.result.Result.{Result}

-- an answer, read back from its values
unfoldable answer_of : List ℕ → Result Outline Refusal
answer_of vs =
    cond (eqb (length vs) 2) (Err (refusal (get_or vs 0 0) (get_or vs 1 0)))
    (Ok (record { function = get_or vs 1 0; starts = starts_of (drop 2 vs) }))

read_back : (a : Result Outline Refusal) → answer_of (values a) ≡ a
unfolding answer_of values
read_back (Ok r) = refl
read_back (Err x) = refl

pub values_one : (a b : Result Outline Refusal) → values a ≡ values b → a ≡ b
values_one a b e = sym (read_back a) ∙ ap answer_of e ∙ read_back b

pub checked_verdict : (file : List ℕ) (a : Result Outline Refusal) → Checked file a → a ≡ verdict file
unfolding Checked
checked_verdict file a p = values_one a (verdict file) p

pub checked_one : (file : List ℕ) (a b : Result Outline Refusal) → Checked file a → Checked file b → a ≡ b
unfolding Checked
checked_one file a b p q = values_one a b (p ∙ sym q)
