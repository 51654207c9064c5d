-- A refusal stands at a word of the file, or at the number of its words: for every file.
use mathlib.Core.Bool.{Bool, true, false, cond}
use mathlib.Core.List.{List}
use mathlib.Core.Path.{◌≡◌, refl, sym, ap, subst, ◌∙◌}
use Prim.Native.Nat.{ℕ, zero, suc, ◌+◌, ◌-◌, ◌%◌, ◌≤◌, ◌<◌}
use native.Mathlib.Omega.{arith}
use lib.Dec.{eqb, ltb}
use lib.ListN.{length, get_or, take, drop, length-take, length-drop}
use borrow.Author.Tests.{ltb-false}
use Rattle.words.specs.Words.{words_of}
use Rattle.words.proofs.Choice.{or_neither}
use Rattle.words.proofs.WordLaws.{words_length}
use Rattle.file_refusal.specs.{declared.Refusal.Refusal, Refusal.refusal, Refusal.is_of_file}
use Rattle.file_walk.specs.declared.Stop.{Stop}
use Rattle.file_walk.specs.Walk.{Front, refused, ended, cut, front_of, raw_of, Walk, over, block, walk, walked, end_marker}
use Rattle.file_walk.proofs.Fronts.{front_cuts, front_ended, front_refused}
use Rattle.file_walk.proofs.Steps.{walk_refused, walk_ended, walk_cut}
use Rattle.file_rules.specs.declared.Row.{Row}
use Rattle.file_rules.specs.Block.{offset_by}
use Rattle.file_order.specs.Setup.{row_for}
use Rattle.file_order.specs.Order.{key_of, is_due}
use Rattle.file_order.proofs.KnownLaws.{each_sound}
use Rattle.call_check.specs.declared.judge.State.{State}
use Rattle.call_check.specs.Judge.{first_state, skipped, entered_by, tested_by, judged_by, seen_by, seen_in, closed, judge, misfit, surveyed}
use Rattle.call_check.proofs.Seen.{no_denied}
use Rattle.call_check.proofs.Turns.{judge_pass, judge_deny}
use Rattle.law_sound.proofs.BlockPositions.{Near, further, Upto, good, bad, cond_upto, offset_upto, kept_upto}
use Rattle.file_refusal.specs.declared.Refusal.{Refusal}
use Rattle.std.specs.declared.result.Result.TheVariants.{Ok, Err}
use Rattle.std.specs.declared.result.Result.{Result}
use Rattle.std.specs.Prelude.{⊤}

same_refusal : {x y : Refusal} → ◌≡◌ {A = Result State Refusal} (Err x) (Err y) → x ≡ y
same_refusal e = cc

-- a refusal that is known
known : {n num at : ℕ} {x : Refusal} → ◌≡◌ {A = Result State Refusal} (Err (refusal num at)) (Err x) → at ≤ n → is_of_file num ≡ true → Near n x
known {n} e h m = subst (Near n) (same_refusal e) (record { at = h; num = m })

-- a block against the state
module _ (s : State) (at : ℕ) (b : List ℕ) where
  seen_near : {x : Refusal} → seen_in s at b ≡ Err x → Near (at + length b) x
  unfolding seen_in seen_by tested_by judged_by is_of_file
  seen_near {x} e = go r.listed refl e
    where
      r : Row
      r = row_for s.setup (get_or b 0 0)

      by : {t : Result ⊤ Refusal} → Upto (at + length b) t → judged_by (entered_by s at b) t ≡ Err x → Near (at + length b) x
      by good f = absurd (no_denied (sym f))
      by (bad h m) f = known f h m

      go : (t : Bool) → r.listed ≡ t → cond t (judged_by (entered_by s at b) (offset_by at (tested_by r s.due b))) (Ok (skipped s)) ≡ Err x → Near (at + length b) x
      go false l f = absurd (no_denied (sym f))
      go true l f =
          by (offset_upto at (omega arith) (cond_upto (is_due s.due (key_of (get_or b 0 0))) (λ t. kept_upto r b (each_sound s.setup (get_or b 0 0)) l) (λ t. bad (omega arith) refl))) f

-- what is refused of some words that start at word `at` is refused at one of them or at their end
abbrev Nearby : ℕ → Type 0
Nearby m = (at : ℕ) (ws : List ℕ) (s : State) (x : Refusal) → judge s (walk m at ws) ≡ Err x → Near (at + length ws) x

-- at the end marker: a word after it is one of the words
closed_near : (at : ℕ) (ws : List ℕ) (s : State) (x : Refusal) → 0 < length ws → closed s (Stop.End at (length ws - 1)) ≡ Err x → Near (at + length ws) x
unfolding closed is_of_file
closed_near at ws s x some e = go (is_due s.due end_marker) e
  where
    last : (t : Bool) → cond t (Ok s) (Err (refusal 9 (at + 1))) ≡ Err x → Near (at + length ws) x
    last true f = absurd (no_denied (sym f))
    last false f = known f (omega arith) refl

    go : (t : Bool) → cond t (cond (eqb (length ws - 1) 0) (Ok s) (Err (refusal 9 (at + 1)))) (Err (refusal 4 at)) ≡ Err x → Near (at + length ws) x
    go true f = last (eqb (length ws - 1) 0) f
    go false f = known f (omega arith) refl

-- a block, and the words after it
cut_near : (m at : ℕ) (ws : List ℕ) (s : State) (x : Refusal) (k : ℕ) → front_of ws ≡ cut k → Nearby m → judge s (walk (suc m) at ws) ≡ Err x → Near (at + length ws) x
unfolding judge closed is_of_file
cut_near m at ws s x k f near e = go (seen_in s at b) refl (sym (ap (judge s) (walk_cut m at ws k f)) ∙ e)
  where
    b : List ℕ
    b = take k ws

    raw : List ℕ
    raw = take (raw_of b) (drop k ws)

    later : Bool → Walk
    later t = cond t (over (Stop.Refused (refusal 2 at))) (walk m (at + (k + raw_of b)) (drop (k + raw_of b) ws))

    test : Bool
    test = ltb (length (drop k ws)) (raw_of b)

    on : (s₁ : State) (t : Bool) → test ≡ t → judge s₁ (later t) ≡ Err x → Near (at + length ws) x
    on s₁ true q h = known h (omega arith) refl
    on s₁ false q h =
        further (omega (arith, length-drop (k + raw_of b) ws, length-drop k ws, ltb-false (length (drop k ws)) (raw_of b) q, (front_cuts ws k f).fits)) (near _ _ s₁ x h)

    go : (j : Result State Refusal) → seen_in s at b ≡ j → judge s (block at b raw (later test)) ≡ Err x → Near (at + length ws) x
    go (Ok s₁) q h = on s₁ test refl (sym (judge_pass s at b raw (later test) s₁ q) ∙ h)
    go (Err y) q h = further (omega (arith, length-take k ws)) (subst (Near (at + length b)) (same_refusal (sym (judge_deny s at b raw (later test) q) ∙ h)) (seen_near s at b q))

judge_near : (m : ℕ) → Nearby m
unfolding judge walk closed is_of_file
judge_near zero at ws s x e = known e (omega arith) refl
judge_near (suc m) at ws s x e = go (front_of ws) refl (judge_near m)
  where
    go : (f : Front) → front_of ws ≡ f → Nearby m → Near (at + length ws) x
    go (refused n) f near = known (sym (ap (judge s) (walk_refused m at ws n f)) ∙ e) (omega arith) (front_refused ws n f)
    go ended f near = closed_near at ws s x (front_ended ws f).1 (sym (ap (judge s) (walk_ended m at ws f)) ∙ e)
    go (cut k) f near = cut_near m at ws s x k f near e

-- a refusal of a file has one of a file's numbers, and stands at one of its words, or at their number; a file that is walked at all has
-- at most 32,768
pub record Placed (file : List ℕ) (x : Refusal) : Type 0 where
  pub of_file : is_of_file x.num ≡ true
  pub inside : x.at ≤ length (words_of file)
  pub small : x.at ≤ 32768

pub denied_near : {x : Refusal} (file : List ℕ) → surveyed file ≡ Err x → Placed file x
unfolding surveyed misfit walked is_of_file
denied_near {x} file e = go (misfit file) refl e
  where
    placed : {n : ℕ} → Near n x → n ≤ length (words_of file) → n ≤ 32768 → Placed file x
    placed p h l = record { of_file = p.num; inside = omega (arith, p.at); small = omega (arith, p.at) }

    go : (t : Bool) → misfit file ≡ t → cond t (Err (refusal 1 0)) (judge first_state (walked (words_of file))) ≡ Err x → Placed file x
    go true q f = placed (known {n = 0} f (omega arith) refl) (omega arith) (omega arith)
    go false q f =
        let few : length file ≤ 65536 = ltb-false _ _ (or_neither (eqb (length file % 2) 1) _ q).1 in
        placed (judge_near _ 0 (words_of file) first_state x f) (omega arith) (omega (arith, words_length file))
