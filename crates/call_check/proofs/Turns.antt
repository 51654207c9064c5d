-- One block against the state, and one turn of the loop over the blocks.
use mathlib.Core.Bool.{true, false}
use mathlib.Core.List.{List}
use mathlib.Core.Path.{◌≡◌, sym, ap, ◌∙◌}
use Prim.Native.Nat.{ℕ, suc, ◌+◌, ◌-◌, ◌≤◌, ◌<◌}
use native.Mathlib.Nat.{add-zero}
use native.Mathlib.Omega.{arith}
use lib.ListN.{length, get_or, take, drop}
use Rattle.file_refusal.specs.Refusal.{refusal}
use Rattle.file_walk.specs.declared.Cursor.{Cursor}
use Rattle.file_walk.specs.declared.Stop.{Stop}
use Rattle.file_walk.specs.declared.Block.{Block}
use Rattle.file_walk.specs.Walk.{Walk, block, walked, step_at, raw_of}
use Rattle.file_walk.proofs.Steps.{walk_from, walk_start, walk_over, walk_block, step_block, end_bounds}
use Rattle.file_rules.specs.declared.Row.{Row}
use Rattle.file_rules.specs.Block.{kept, offset_by}
use Rattle.call_check.specs.declared.judge.State.{State}
use Rattle.file_order.specs.Setup.{row_for}
use Rattle.file_order.specs.Order.{key_of, is_due}
use Rattle.call_check.specs.Judge.{first_state, skipped, entered_by, tested_by, judged_by, seen_by, seen_in, closed, judge}
use Rattle.call_check.specs.Steps.{Ends}
use Rattle.file_refusal.specs.declared.Refusal.{Refusal}
use Rattle.std.specs.declared.result.Result.TheVariants.{Ok, Err}
use Rattle.std.specs.declared.result.Result.{Result}

-- ---- a block, by what its row, the order and its tests say

module _ (r : Row) (s : State) (at : ℕ) (b : List ℕ) (e : r ≡ row_for s.setup (get_or b 0 0)) where
  pub seen_skip : r.listed ≡ false → Ok (skipped s) ≡ seen_in s at b
  unfolding seen_in seen_by
  seen_skip l = rw (← e, l)

  module _ (l : r.listed ≡ true) where
    pub seen_order : is_due s.due (key_of (get_or b 0 0)) ≡ false → Err (refusal 4 at) ≡ seen_in s at b
    unfolding seen_in seen_by tested_by judged_by offset_by
    seen_order d = rw (← e, l, d, add-zero)

    module _ (d : is_due s.due (key_of (get_or b 0 0)) ≡ true) where
      pub seen_good : offset_by at (kept r b) ≡ Ok tt → Ok (entered_by s at b) ≡ seen_in s at b
      unfolding seen_in seen_by tested_by judged_by
      seen_good g = rw (← e, d, g, l)

      pub seen_bad : {x : Refusal} → offset_by at (kept r b) ≡ Err x → Err x ≡ seen_in s at b
      unfolding seen_in seen_by tested_by judged_by
      seen_bad g = rw (← e, d, g, l)

-- ---- the judgement of a walk, a block at a time

module _ (s : State) (at : ℕ) (b raw : List ℕ) (w : Walk) where
  pub judge_pass : (s' : State) → seen_in s at b ≡ Ok s' → judge s (block at b raw w) ≡ judge s' w
  unfolding judge
  judge_pass s' e = rw (e, judge)

  pub judge_deny : {x : Refusal} → seen_in s at b ≡ Err x → judge s (block at b raw w) ≡ Err x
  unfolding judge
  judge_deny e = rw (e, judge)

-- a block, or the end marker, of a file of at most 32,768 words
pub near : (ws : List ℕ) (c : Cursor) → length ws ≤ 32768 → (b : Block) → step_at ws c ≡ Ok b → b.start < 65536
near ws c h b e = let s = step_block ws c b e in omega (arith, s.fits)

pub ends : (ws : List ℕ) (c : Cursor) → length ws ≤ 32768 → (stop : Stop) → step_at ws c ≡ Err stop → Ends stop
ends ws c h (Stop.End p left) e = omega (arith, (end_bounds ws c p left e).1)
ends ws c h (Stop.Refused x) e = tt

-- ---- the loop: the answer is what the judgement says from the cursor on, with enough fuel left

pub record Ahead (ws : List ℕ) (c : Cursor) (s : State) (answer : Result State Refusal) : Type 0 where
  pub fuel : ℕ
  pub enough : length ws ≤ fuel + c.at
  pub same : answer ≡ judge s (walk_from (suc fuel) ws c)

pub ahead : (ws : List ℕ) → Ahead ws (record { at = 0; last = 0 }) first_state (judge first_state (walked ws))
ahead ws = record { fuel = length ws; enough = omega arith; same = ap (judge first_state) (sym (walk_start ws)) }

module _ {ws : List ℕ} {c : Cursor} {s : State} {answer : Result State Refusal} (h : Ahead ws c s answer) where
  pub turn_over : (stop : Stop) → step_at ws c ≡ Err stop → closed s stop ≡ answer
  unfolding judge
  turn_over stop e = sym (h.same ∙ ap (judge s) (walk_over h.fuel ws c stop e))

  module _ (b : Block) (e : step_at ws c ≡ Ok b) where
    abbrev bs : List ℕ
    bs = take b.length (drop b.start ws)

    turn_block : answer ≡ judge s (block b.start bs (take (raw_of bs) (drop (b.start + b.length) ws)) (walk_from h.fuel ws b.next))
    turn_block = h.same ∙ ap (judge s) (walk_block h.fuel ws c b e)

    pub turn_deny : {x : Refusal} → seen_in s b.start bs ≡ Err x → Err x ≡ answer
    turn_deny d = sym (turn_block ∙ judge_deny s b.start bs _ _ d)

    pub turn_pass : (s' : State) → seen_in s b.start bs ≡ Ok s' → Ahead ws b.next s' answer
    turn_pass s' d =
        let p = step_block ws c b e in
        let m : h.fuel ≡ suc (h.fuel - 1) = omega (arith, h.enough, p.here, p.some, p.fits) in
        record {
          fuel = h.fuel - 1;
          enough = omega (arith, h.enough, p.here, p.some, p.on);
          same = rw (← m) (turn_block ∙ judge_pass s b.start bs _ _ s' d);
        }
