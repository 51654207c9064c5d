-- What holds before the first block of an accepted file, and is kept by each of its blocks, holds of what is known at its end
-- and of all its slim blocks.
use mathlib.Core.Bool.{true, false}
use mathlib.Core.List.{List, [], ◌∷◌, ◌++◌, append_assoc, append-nil}
use mathlib.Core.Path.{◌≡◌, refl, sym, ap, subst, ◌∙◌}
use Prim.Native.Nat.{ℕ, zero, suc, ◌+◌, ◌≤◌}
use native.Mathlib.Omega.{arith}
use lib.ListN.{length, get_or, take, drop, length-take, length-drop}
use Rattle.words.specs.Words.{low, words_of}
use Rattle.words.proofs.Choice.{cond_second}
use Rattle.file_walk.specs.declared.Cursor.{Cursor}
use Rattle.file_walk.specs.declared.Stop.{Stop}
use Rattle.file_walk.specs.declared.Block.{Block}
use Rattle.file_walk.specs.Walk.{end_marker, raw_of, step_at, Part, parts_of}
use Rattle.file_walk.proofs.Steps.{walk_from, walk_start, walk_over}
use Rattle.file_rules.specs.Block.{kept}
use Rattle.file_rules.specs.Slim.{Slim}
use Rattle.file_order.specs.declared.setup.Setup.{Setup}
use Rattle.file_tables.specs.Table.{kind_of}
use Rattle.file_order.specs.Setup.{row_for, slim_of}
use Rattle.file_order.specs.Order.{key_of, is_due}
use Rattle.call_check.specs.declared.judge.State.{State}
use Rattle.call_check.specs.Judge.{first_state, skipped, entered_by, closed, judge, misfit, surveyed}
use Rattle.call_check.specs.Slims.{slim_part, known_from, slims, slims_in}
use Rattle.file_read.specs.Read.{part_at}
use Rattle.call_check.proofs.Seen.{no_denied, Through, unlisted, listed, closed_passed, closed_due}
use Rattle.call_check.proofs.Onward.{no_fuel, passes, known_through, slims_over, slims_block}
use Rattle.call_check.proofs.FoundWords.{accepted_few}
use Rattle.std.specs.Prelude.{Result, Ok, Err}

-- a listed block that comes in a state: it is due, and good by its row
pub record Comes (s : State) (b : List ℕ) : Type 0 where
  pub due : is_due s.due (key_of (get_or b 0 0)) ≡ true
  pub good : kept (row_for s.setup (get_or b 0 0)) b ≡ Ok tt
  pub few : length b ≤ 32768

part_none : (k : Setup) (p : Part) → (kind_of (low (get_or p.words 0 0))).listed ≡ false → slim_part k p ≡ []
unfolding slim_part
part_none k p l = rw l

part_one : (k : Setup) (p : Part) → (kind_of (low (get_or p.words 0 0))).listed ≡ true → slim_part k p ≡ slim_of k p.words p.raw ∷ []
unfolding slim_part
part_one k p l = rw l

module _ (P : State → List Slim → Type 0) (pass : (s : State) (xs : List Slim) → P s xs → P (skipped s) xs)
    (come : (s : State) (at : ℕ) (b raw : List ℕ) (xs : List Slim) → Comes s b → P s xs → P (entered_by s at b) (xs ++ (slim_of s.setup b raw ∷ []))) where
  module _ (ws : List ℕ) (few : length ws ≤ 32768) where
    -- the end, with the slim blocks before it
    abbrev Ended : State → List Slim → Type 0
    Ended s xs = P s xs × (is_due s.due end_marker ≡ true)

    -- the blocks from a cursor on, up to the end of an accepted file
    abbrev Later : ℕ → Type 0
    Later m = (c : Cursor) (s s' : State) (xs : List Slim) → P s xs → judge s (walk_from m ws c) ≡ Ok s' → Ended s' (xs ++ slims s.setup (parts_of (walk_from m ws c)))

    always_over : (m : ℕ) (c : Cursor) (s s' : State) (xs : List Slim) (stop : Stop) → step_at ws c ≡ Err stop → P s xs
        → judge s (walk_from (suc m) ws c) ≡ Ok s' → Ended s' (xs ++ slims s.setup (parts_of (walk_from (suc m) ws c)))
    unfolding judge
    always_over m c s s' xs stop q h e =
        let last : closed s stop ≡ Ok s' = sym (ap (judge s) (walk_over m ws c stop q)) ∙ e in
        rw (slims_over m ws c s.setup stop q, append-nil)
        (subst (λ (st : State). Ended st xs) (closed_passed s s' stop last) (h, closed_due s s' stop last))

    -- one block more: the state after it, and its slim form if it is listed
    always_next : (s s' : State) (start len : ℕ) (xs ys : List Slim) → Through s start (take len (drop start ws)) s' → P s xs
        → (zs : List Slim) × (P s' zs × (xs ++ (slim_part s.setup (part_at ws start len) ++ ys) ≡ zs ++ ys))
    unfolding part_at
    always_next s s' start len xs ys (unlisted l e) h =
        (xs, (subst (λ (st : State). P st xs) e (pass s xs h), rw (part_none s.setup (part_at ws start len) l)))
    always_next s s' start len xs ys (listed l d g e) h =
        let b = take len (drop start ws) in
        let x = slim_of s.setup b (take (raw_of b) (drop (start + len) ws)) in
        let comes : Comes s b = record { due = d; good = g; few = rw (length-take, length-drop) (omega arith) } in (
          xs ++ (x ∷ []),
          (subst (λ (st : State). P st (xs ++ (x ∷ []))) e (come s start b _ xs comes h), rw (part_one s.setup (part_at ws start len) l) (sym (append_assoc xs (x ∷ []) ys))),
        )

    known_there : (s s' : State) (start len : ℕ) → Through s start (take len (drop start ws)) s' → s'.setup ≡ known_from s.setup (part_at ws start len)
    unfolding part_at
    known_there s s' start len t = known_through s s' start (part_at ws start len) t

    always_judged : (m : ℕ) → Later m
    always_judged zero c s s' xs h e = absurd (no_fuel ws s s' c e)
    always_judged (suc m) c s s' xs h e = go (step_at ws c) refl (always_judged m)
      where
        go : (y : Result Block Stop) → step_at ws c ≡ y → Later m → Ended s' (xs ++ slims s.setup (parts_of (walk_from (suc m) ws c)))
        go (Err stop) q later = always_over m c s s' xs stop q h e
        go (Ok b) q later =
            let p = passes ws m c s s' b q e in
            let more = always_next s p.state b.start b.length xs (slims p.state.setup (parts_of (walk_from m ws b.next))) p.through h in
            rw (slims_block m ws c s.setup b q, ← known_there s p.state b.start b.length p.through, more.1.1) (later b.next p.state s' more.0 more.1.0 p.goes)

  pub always : P first_state [] → (file : List ℕ) (s : State) → surveyed file ≡ Ok s → P s (slims_in file) × (is_due s.due end_marker ≡ true)
  unfolding surveyed slims_in
  always h file s e =
      let ws = words_of file in
      let start = ap (judge first_state) (walk_start ws) ∙ (cond_second (misfit file) e no_denied).1 in
      rw (walk_start ws) at (always_judged ws (accepted_few file s e) (suc (length ws)) (record { at = 0; last = 0 }) first_state s [] h start)
