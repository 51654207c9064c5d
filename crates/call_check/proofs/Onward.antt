-- An accepted file, from a cursor on: over a block it goes on, and what it holds is that block's slim form and what is left
-- after it. For the calls that go over a file's blocks once more.
use mathlib.Core.Bool.{Bool, true, false, cond}
use mathlib.Core.List.{List, [], ◌++◌}
use mathlib.Core.Path.{◌≡◌, refl, sym, ap, ◌∙◌}
use Prim.Native.Nat.{ℕ, zero, suc, ◌+◌, ◌≤◌}
use native.Mathlib.Omega.{arith}
use lib.Dec.{ltb}
use lib.ListN.{length, take, drop}
use borrow.Author.Tests.{ltb-false}
use Rattle.words.specs.Words.{words_of}
use Rattle.words.proofs.Choice.{cond_second}
use Rattle.file_refusal.specs.declared.Refusal.{Refusal}
use Rattle.file_walk.specs.declared.Cursor.{Cursor}
use Rattle.file_walk.specs.declared.Stop.{Stop}
use Rattle.file_walk.specs.declared.Block.{Block}
use Rattle.file_walk.specs.Walk.{end_marker, cut, front_of, raw_of, step_at, Walk, over, block, walk, Part, parts_of}
use Rattle.file_walk.proofs.Steps.{walk_from, walk_start, walk_over, walk_block, step_block}
use Rattle.file_rules.specs.Slim.{Slim}
use Rattle.file_order.specs.declared.setup.Setup.{Setup}
use Rattle.file_order.specs.Setup.{no_setup}
use Rattle.file_order.specs.Order.{is_due}
use Rattle.file_order.proofs.KnownLaws.{learnt_raw}
use Rattle.call_check.specs.declared.judge.State.{State}
use Rattle.call_check.specs.Judge.{first_state, skipped, entered, entered_by, seen_in, closed, judge, misfit, surveyed}
use Rattle.call_check.specs.Slims.{slim_part, known_from, slims, slims_in}
use Rattle.file_read.specs.Read.{part_at}
use Rattle.call_check.proofs.Turns.{judge_pass, judge_deny}
use Rattle.call_check.proofs.Seen.{no_denied, Through, unlisted, listed, seen_through, closed_due}
use Rattle.std.specs.declared.result.Result.TheVariants.{Ok, Err}
use Rattle.std.specs.declared.result.Result.{Result}

pub refused : (s s' : State) (x : Refusal) → judge s (over (Stop.Refused x)) ≡ Ok s' → ⊥
unfolding judge closed
refused s s' x e = no_denied e

pub no_fuel : (ws : List ℕ) (s s' : State) (c : Cursor) → judge s (walk_from zero ws c) ≡ Ok s' → ⊥
unfolding walk_from walk
no_fuel ws s s' c e = go _ _ (ltb (length ws) c.at) e
  where
    go : (x y : Refusal) (t : Bool) → judge s (cond t (over (Stop.Refused x)) (over (Stop.Refused y))) ≡ Ok s' → ⊥
    go x y true f = refused s s' x f
    go x y false f = refused s s' y f

-- a cursor from which an accepted file goes on is no further than its end
within : (ws : List ℕ) (m : ℕ) (s s' : State) (c : Cursor) → judge s (walk_from m ws c) ≡ Ok s' → c.at ≤ length ws
unfolding walk_from
within ws m s s' c e = go _ (ltb (length ws) c.at) refl e
  where
    go : (x : Refusal) (t : Bool) → ltb (length ws) c.at ≡ t → judge s (cond t (over (Stop.Refused x)) (walk m c.at (drop c.at ws))) ≡ Ok s' → c.at ≤ length ws
    go x true p f = absurd (refused s s' x f)
    go x false p f = ltb-false (length ws) c.at p

-- a block that goes through: where it ends, and the state after it
pub record Passes (ws : List ℕ) (m : ℕ) (s s' : State) (start len : ℕ) (next : Cursor) : Type 0 where
  pub front : front_of (drop start ws) ≡ cut len
  pub fits : start + (len + raw_of (take len (drop start ws))) ≤ length ws
  pub state : State
  pub through : Through s start (take len (drop start ws)) state
  pub goes : judge state (walk_from m ws next) ≡ Ok s'

pub passes : (ws : List ℕ) (m : ℕ) (c : Cursor) (s s' : State) (b : Block) → step_at ws c ≡ Ok b
    → judge s (walk_from (suc m) ws c) ≡ Ok s' → Passes ws m s s' b.start b.length b.next
passes ws m c s s' b q e = go (seen_in s b.start bs) refl (sym (ap (judge s) (walk_block m ws c b q)) ∙ e)
  where
    bs : List ℕ
    bs = take b.length (drop b.start ws)

    go : (j : Result State Refusal) → seen_in s b.start bs ≡ j
        → judge s (block b.start bs (take (raw_of bs) (drop (b.start + b.length) ws)) (walk_from m ws b.next)) ≡ Ok s'
        → Passes ws m s s' b.start b.length b.next
    go (Err x) r f = absurd (no_denied (sym (judge_deny s b.start bs _ _ r) ∙ f))
    go (Ok s₁) r f =
        let on = sym (judge_pass s b.start bs _ _ s₁ r) ∙ f in
        let step = step_block ws c b q in
        record {
          front = step.front;
          fits = omega (arith, step.on, within ws m s₁ s' b.next on);
          state = s₁;
          through = seen_through s b.start bs s₁ r;
          goes = on;
        }

-- what is known in the state after a block is what is known from it
pub known_through : (s s' : State) (at : ℕ) (p : Part) → Through s at p.words s' → s'.setup ≡ known_from s.setup p
unfolding known_from skipped entered_by entered
known_through s s' at p (unlisted l e) = rw l (ap (λ (x : State). x.setup) (sym e))
known_through s s' at p (listed l d g e) = rw l (ap (λ (x : State). x.setup) (sym e) ∙ learnt_raw s.setup p.words p.raw)

-- ---- the slim blocks that are left

module _ (m : ℕ) (ws : List ℕ) (c : Cursor) (s : Setup) where
  pub slims_over : (stop : Stop) → step_at ws c ≡ Err stop → slims s (parts_of (walk_from (suc m) ws c)) ≡ []
  unfolding slims parts_of
  slims_over stop q = ap (λ (w : Walk). slims s (parts_of w)) (walk_over m ws c stop q)

  pub slims_block : (b : Block) → step_at ws c ≡ Ok b
      → slims s (parts_of (walk_from (suc m) ws c)) ≡ slim_part s (part_at ws b.start b.length) ++ slims (known_from s (part_at ws b.start b.length)) (parts_of (walk_from m ws b.next))
  unfolding slims parts_of part_at
  slims_block b q = ap (λ (w : Walk). slims s (parts_of w)) (walk_block m ws c b q)

pub record Onward (ws : List ℕ) (c : Cursor) (known : Setup) (xs : List Slim) : Type 0 where
  pub fuel : ℕ
  pub state : State
  pub last : State
  pub goes : judge state (walk_from fuel ws c) ≡ Ok last
  pub known_is : state.setup ≡ known
  pub left : slims known (parts_of (walk_from fuel ws c)) ≡ xs

pub onward : (file : List ℕ) (s : State) → surveyed file ≡ Ok s → Onward (words_of file) (record { at = 0; last = 0 }) no_setup (slims_in file)
unfolding surveyed slims_in
onward file s e =
    let ws = words_of file in
    record {
      fuel = suc (length ws);
      state = first_state;
      last = s;
      goes = ap (judge first_state) (walk_start ws) ∙ (cond_second (misfit file) e no_denied).1;
      known_is = refl;
      left = ap (λ (w : Walk). slims no_setup (parts_of w)) (walk_start ws);
    }

-- at the end nothing is left
pub onward_over : {ws : List ℕ} {c : Cursor} {known : Setup} {xs : List Slim} → Onward ws c known xs → (stop : Stop) → step_at ws c ≡ Err stop → xs ≡ []
onward_over {ws} {c} {known} {xs} o stop q = go o.fuel o.goes o.left
  where
    go : (m : ℕ) → judge o.state (walk_from m ws c) ≡ Ok o.last → slims known (parts_of (walk_from m ws c)) ≡ xs → xs ≡ []
    go zero e l = absurd (no_fuel ws o.state o.last c e)
    go (suc m) e l = sym l ∙ slims_over m ws c known stop q

module _ {ws : List ℕ} {c : Cursor} {known : Setup} {xs : List Slim} (o : Onward ws c known xs) where
  -- a block, and what is left after it
  pub record Over-block (b : Block) : Type 0 where
    pub fuel : ℕ
    pub passes : Passes ws fuel o.state o.last b.start b.length b.next
    pub more : List Slim
    pub split : xs ≡ slim_part known (part_at ws b.start b.length) ++ more
    pub on : Onward ws b.next (known_from known (part_at ws b.start b.length)) more
    pub state_is : on.state ≡ passes.state

  pub onward_block : (b : Block) → step_at ws c ≡ Ok b → Over-block b
  unfolding part_at
  onward_block b q = go o.fuel o.goes o.left
    where
      go : (m : ℕ) → judge o.state (walk_from m ws c) ≡ Ok o.last → slims known (parts_of (walk_from m ws c)) ≡ xs → Over-block b
      go zero e l = absurd (no_fuel ws o.state o.last c e)
      go (suc m) e l =
          let p = passes ws m c o.state o.last b q e in
          record {
            fuel = m;
            passes = p;
            more = slims (known_from known (part_at ws b.start b.length)) (parts_of (walk_from m ws b.next));
            split = sym l ∙ slims_block m ws c known b q;
            on =
                record {
                  fuel = m;
                  state = p.state;
                  last = o.last;
                  goes = p.goes;
                  known_is = known_through o.state p.state b.start (part_at ws b.start b.length) p.through ∙ ap (λ (k : Setup). known_from k (part_at ws b.start b.length)) o.known_is;
                  left = refl;
                };
            state_is = refl;
          }

  -- at the end the end marker is due
  pub onward_end : (stop : Stop) → step_at ws c ≡ Err stop → is_due o.state.due end_marker ≡ true
  unfolding judge
  onward_end stop q = go o.fuel o.goes
    where
      go : (m : ℕ) → judge o.state (walk_from m ws c) ≡ Ok o.last → is_due o.state.due end_marker ≡ true
      go zero e = absurd (no_fuel ws o.state o.last c e)
      go (suc m) e = closed_due o.state o.last stop (sym (ap (judge o.state) (walk_over m ws c stop q)) ∙ e)
