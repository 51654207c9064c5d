-- The law of starts: in an accepted file, at the start that is noted for a place stands the block whose slim form is the
-- file's slim block at that place, with its raw words; and the file goes on after it. One predicate and one law for all places.
use mathlib.Core.Bool.{Bool, true, false, cond}
use mathlib.Core.List.{List, [], ◌∷◌, ◌++◌}
use mathlib.Core.Path.{◌≡◌, refl, sym, ap, ap₂, subst, subst⁻¹, ◌∙◌}
use Prim.Native.Nat.{ℕ, zero, suc, ◌+◌, ◌≤◌, ◌<◌}
use native.Mathlib.Omega.{arith}
use lib.Dec.{eqb}
use lib.ListN.{length, get_or, take, drop, length-drop}
use lib.Seq.{length-take-le}
use borrow.Author.Tests.{eqb-true}
use Rattle.words.specs.Words.{low, words_of}
use Rattle.file_walk.specs.declared.Cursor.{Cursor}
use Rattle.file_walk.specs.declared.Stop.{Stop}
use Rattle.file_walk.specs.declared.Block.{Block}
use Rattle.file_walk.specs.Walk.{cut, front_of, raw_of, step_at, Walk, Part, parts_of}
use Rattle.file_walk.proofs.Steps.{walk_from, walk_start, walk_over, step_block}
use Rattle.file_read.proofs.Places.{block_at_lem}
use Rattle.file_rules.specs.Block.{kept}
use Rattle.file_rules.specs.Slim.{Slim}
use Rattle.words.proofs.Choice.{cond_second}
use Rattle.file_order.specs.declared.setup.Setup.{Setup}
use Rattle.file_tables.specs.Table.{kind_of}
use Rattle.file_order.specs.Setup.{no_setup, row_for, slim_of, learnt}
use Rattle.file_order.proofs.KnownLaws.{id_in_lem, learnt_raw}
use Rattle.file_order.specs.Order.{key_of, due_after}
use Rattle.call_check.specs.declared.judge.State.{State}
use Rattle.call_check.specs.Starts.{absent, place_count, place_of}
use Rattle.call_check.specs.Judge.{first_state, skipped, entered, entered_by, judge, misfit, surveyed}
use Rattle.call_check.specs.Slims.{slim_part, slims, slims_in, no_slim, slims_from}
use Rattle.file_read.specs.Read.{part_at, block_at, raw_at}
use Rattle.call_check.proofs.StartLaws.{start_of, start_at, none_noted, start_noted}
use Rattle.call_check.proofs.Late.{Same, read_by}
use Rattle.call_check.proofs.Onward.{no_fuel, Passes, passes, known_through, slims_over, slims_block, Onward}
use Rattle.call_check.proofs.Numbered.{key_id, entered_due}
use Rattle.call_check.proofs.Seen.{no_denied, Through, unlisted, listed, closed_passed}
use Rattle.std.specs.declared.result.Result.TheVariants.{Ok, Err}
use Rattle.std.specs.declared.result.Result.{Result}

-- the first of some slim blocks
abbrev pub first : List Slim → Slim
first xs = get_or xs 0 no_slim

-- a block b with its raw words, at word `start`, and the file from there on: xs are its slim form and those of the blocks after it
pub record There (ws : List ℕ) (last : Setup) (place start : ℕ) (b raw : List ℕ) (xs : List Slim) : Type 0 where
  pub front : front_of (drop start ws) ≡ cut (length b)
  pub fits : start + (length b + raw_of b) ≤ length ws
  pub place_is : place_of (low (get_or b 0 0)) ≡ place
  pub row_is : (kind_of (low (get_or b 0 0))).listed ≡ true
  pub setup : Setup
  pub good : kept (row_for setup (get_or b 0 0)) b ≡ Ok tt
  pub by_last : 6 ≤ key_of (get_or b 0 0) → Same setup last
  pub more : List Slim
  pub split : xs ≡ slim_of setup b raw ∷ more
  pub on : Onward ws (record { at = start + (length b + raw_of b); last = start }) (learnt setup (slim_of setup b raw)) more
  pub due : on.state.due ≡ due_after on.state.setup (key_of (get_or b 0 0))

-- its slim form
pub slim_there : {ws : List ℕ} {last : Setup} {place start : ℕ} {b raw : List ℕ} {xs : List Slim} (t : There ws last place start b raw xs) → first xs ≡ slim_of t.setup b raw
slim_there t = ap first t.split

-- a place of the file: a block stands there, or the place is absent
pub data Found (ws : List ℕ) (last : Setup) (place start : ℕ) (xs : List Slim) : Type 0 where
  there : There ws last place start (block_at ws start) (raw_at ws start) xs → Found ws last place start xs
  nowhere : start ≡ absent → xs ≡ [] → Found ws last place start xs

-- a listed block that goes through stands where the step found it
step_there : (ws : List ℕ) (place : ℕ) (s last : State) (m start len : ℕ) (next : Cursor) (p : Passes ws m s last start len next)
    → next ≡ record { at = start + (len + raw_of (take len (drop start ws))); last = start }
    → place_of (low (get_or (take len (drop start ws)) 0 0)) ≡ place → (kind_of (low (get_or (take len (drop start ws)) 0 0))).listed ≡ true
    → kept (row_for s.setup (get_or (take len (drop start ws)) 0 0)) (take len (drop start ws)) ≡ Ok tt → entered_by s start (take len (drop start ws)) ≡ p.state
    → (xs : List Slim) → xs ≡ slim_of s.setup (take len (drop start ws)) (take (raw_of (take len (drop start ws))) (drop (start + len) ws)) ∷ slims p.state.setup (parts_of (walk_from m ws next))
    → There ws last.setup place start (block_at ws start) (raw_at ws start) xs
unfolding raw_at entered entered_by
step_there ws place s last m start len next p next-is at l g e xs split =
    let b = take len (drop start ws) in
    let n : length b ≡ len = length-take-le len (drop start ws) (omega (arith, length-drop start ws, p.fits)) in
    let raw = take (raw_of b) (drop (start + len) ws) in
    let known : p.state.setup ≡ learnt s.setup (slim_of s.setup b raw) = ap (λ (st : State). st.setup) (sym e) ∙ learnt_raw s.setup b raw in
    let on : next ≡ record { at = start + (length b + raw_of b); last = start } = rw n next-is in
    rw (block_at_lem ws start len p.front, n)
    (record {
      front = rw n p.front;
      fits = omega (arith, n, p.fits);
      place_is = at;
      row_is = l;
      setup = s.setup;
      good = g;
      by_last = λ h. read_by s last start b (walk_from m ws next) (subst⁻¹ (λ (st : State). judge st (walk_from m ws next) ≡ Ok last) e p.goes) h;
      more = slims p.state.setup (parts_of (walk_from m ws next));
      split = split;
      on =
          record {
            fuel = m;
            state = p.state;
            last = last;
            goes = rw (← on) p.goes;
            known_is = known;
            left = sym (ap₂ (λ (k : Setup) (c : Cursor). slims k (parts_of (walk_from m ws c))) known on);
          };
      due = entered_due s p.state start b e;
    })

module _ (ws : List ℕ) (place : ℕ) (small : place < place_count) where
  -- the blocks from a cursor on, up to the end of an accepted file
  abbrev Later : ℕ → Type 0
  Later m = (c : Cursor) (s last : State) (xs : List Slim) → Found ws last.setup place (start_at place s.starts) xs → judge s (walk_from m ws c) ≡ Ok last
      → Found ws last.setup place (start_at place last.starts) (slims_from place xs (slims s.setup (parts_of (walk_from m ws c))))

  found_over : (m : ℕ) (c : Cursor) (s last : State) (xs : List Slim) (stop : Stop) → step_at ws c ≡ Err stop → Found ws last.setup place (start_at place s.starts) xs
      → judge s (walk_from (suc m) ws c) ≡ Ok last → Found ws last.setup place (start_at place last.starts) (slims_from place xs (slims s.setup (parts_of (walk_from (suc m) ws c))))
  unfolding judge slims_from
  found_over m c s last xs stop q h e =
      let same = closed_passed s last stop (sym (ap (judge s) (walk_over m ws c stop q)) ∙ e) in
      rw (slims_over m ws c s.setup stop q) (subst (λ (st : State). Found ws last.setup place (start_at place st.starts) xs) same h)

  -- one listed block more
  slims_next : (k : Setup) (p : Part) (ys xs : List Slim) → (kind_of (low (get_or p.words 0 0))).listed ≡ true
      → slims_from place xs (slim_part k p ++ ys) ≡ slims_from place (cond (eqb (place_of (low (get_or p.words 0 0))) place) (slim_of k p.words p.raw ∷ ys) xs) ys
  unfolding slim_part slims_from
  slims_next k p ys xs l = rw (l, id_in_lem k p.words p.raw) refl

  found_block : (m : ℕ) → Later m → (c : Cursor) (s last : State) (xs : List Slim) (f : Block) → step_at ws c ≡ Ok f
      → Found ws last.setup place (start_at place s.starts) xs → judge s (walk_from (suc m) ws c) ≡ Ok last
      → Found ws last.setup place (start_at place last.starts) (slims_from place xs (slims s.setup (parts_of (walk_from (suc m) ws c))))
  unfolding slim_part skipped entered entered_by part_at
  found_block m later c s last xs f q h e =
      rw (slims_block m ws c s.setup f q, ← known_through s p.state f.start (part_at ws f.start f.length) p.through) (go p.through)
    where
      p : Passes ws m s last f.start f.length f.next
      p = passes ws m c s last f q e

      b : List ℕ
      b = take f.length (drop f.start ws)

      ys : List Slim
      ys = slims p.state.setup (parts_of (walk_from m ws f.next))

      x : Slim
      x = slim_of s.setup b (take (raw_of b) (drop (f.start + f.length) ws))

      -- the start and the slim blocks after a listed block
      next_found : (kind_of (low (get_or b 0 0))).listed ≡ true → kept (row_for s.setup (get_or b 0 0)) b ≡ Ok tt → entered_by s f.start b ≡ p.state
          → (t : Bool) → eqb (place_of (low (get_or b 0 0))) place ≡ t → Found ws last.setup place (cond t f.start (start_at place s.starts)) (cond t (x ∷ ys) xs)
      next_found l g r false i = h
      next_found l g r true i =
          let n = step_block ws c f q in
          there (step_there ws place s last m f.start f.length f.next p (ap₂ (λ (a o : ℕ). record { at = a; last = o }) n.on n.last_is) (eqb-true _ place i) l g r (x ∷ ys) refl)

      go : Through s f.start b p.state → Found ws last.setup place (start_at place last.starts) (slims_from place xs (slim_part s.setup (part_at ws f.start f.length) ++ ys))
      go (unlisted l r) = rw l (later f.next p.state last xs (subst (λ (st : State). Found ws last.setup place (start_at place st.starts) xs) r h) p.goes)
      go (listed l d g r) =
          rw (slims_next s.setup (part_at ws f.start f.length) ys xs l)
          (later f.next p.state last (cond (eqb (place_of (low (get_or b 0 0))) place) (x ∷ ys) xs)
          (subst (λ (st : State). Found ws last.setup place (start_at place st.starts) (cond (eqb (place_of (low (get_or b 0 0))) place) (x ∷ ys) xs)) r
          (rw (start_noted place small s.starts (low (key_of (get_or b 0 0))) f.start, key_id (get_or b 0 0)) (next_found l g r (eqb (place_of (low (get_or b 0 0))) place) refl)))
          p.goes)

  found_judged : (m : ℕ) → Later m
  found_judged zero c s last xs h e = absurd (no_fuel ws s last c e)
  found_judged (suc m) c s last xs h e = go (step_at ws c) refl (found_judged m)
    where
      go : (y : Result Block Stop) → step_at ws c ≡ y → Later m → Found ws last.setup place (start_at place last.starts) (slims_from place xs (slims s.setup (parts_of (walk_from (suc m) ws c))))
      go (Err stop) q later = found_over m c s last xs stop q h e
      go (Ok f) q later = found_block m later c s last xs f q h e

-- ---- the law, for every id that has a place

pub found : (file : List ℕ) (s : State) → surveyed file ≡ Ok s → (id : ℕ) → place_of id < place_count
    → Found (words_of file) s.setup (place_of id) (start_of id s.starts) (slims_from (place_of id) [] (slims_in file))
unfolding surveyed slims_in start_of
found file s e id h =
    let ws = words_of file in
    let start : judge first_state (walk_from (suc (length ws)) ws (record { at = 0; last = 0 })) ≡ Ok s = ap (judge first_state) (walk_start ws) ∙ (cond_second (misfit file) e no_denied).1 in
    subst (λ (w : Walk). Found ws s.setup (place_of id) (start_at (place_of id) s.starts) (slims_from (place_of id) [] (slims no_setup (parts_of w)))) (walk_start ws)
    (found_judged ws (place_of id) h (suc (length ws)) (record { at = 0; last = 0 }) first_state s [] (nowhere (none_noted (place_of id) h) refl) start)
