-- Numbered histograms after a header, of an accepted file: where one alone may come, the next block of its id is that one, and it is
-- the next listed block. One law for any number of them.
use mathlib.Core.Bool.{Bool, true, false, cond, false≢true}
use mathlib.Core.List.{List, ◌∷◌}
use mathlib.Core.Path.{◌≡◌, refl, sym, ap, subst, subst⁻¹, ◌∙◌}
use Prim.Native.Nat.{ℕ, suc, ◌+◌, ◌≤◌, ◌<◌}
use native.Mathlib.Omega.{arith}
use lib.Dec.{eqb}
use lib.ListN.{length, get_or, take, drop}
use borrow.Author.Tests.{eqb-false, ne_eqb, eqb-true}
use Rattle.words.specs.Words.{low}
use Rattle.file_walk.specs.declared.Cursor.{Cursor}
use Rattle.file_walk.specs.declared.Block.{Block}
use Rattle.file_walk.specs.declared.Stop.{Stop}
use Rattle.file_walk.specs.Walk.{end_marker, cut, front_of, raw_of, step_at}
use Rattle.file_walk.proofs.Steps.{step_block}
use Rattle.file_read.specs.Read.{part_at, Next, over, here, pass}
use Rattle.file_rules.specs.Block.{sized, kept}
use Rattle.file_rules.specs.Slim.{Slim, head_by, slim_by}
use Rattle.file_rules.proofs.BlockLaws.{kept_says}
use Rattle.file_tables.specs.Table.{kind_of}
use Rattle.file_order.specs.declared.setup.Setup.{Setup}
use Rattle.file_order.specs.Setup.{row_for, slim_of, learnt}
use Rattle.file_order.specs.Order.{key_of, only, is_due, due_after}
use Rattle.file_order.proofs.KnownLaws.{row_exact}
use Rattle.file_order.proofs.OrderLaws.{only_due, only_passes}
use Rattle.call_check.specs.declared.judge.State.{State}
use Rattle.call_check.specs.Judge.{skipped, entered, entered_by}
use Rattle.call_check.specs.Slims.{slim_part, known_from}
use Rattle.call_check.proofs.Seen.{Through, unlisted, listed}
use Rattle.call_check.proofs.Onward.{Onward, Over-block, onward_block, onward_end}
use Rattle.std.specs.declared.result.Result.TheVariants.{Ok}
use Rattle.std.specs.declared.result.Result.{Result}

-- the block of a step that is the next listed one, and what follows it
pub record Reached (ws : List ℕ) (known : Setup) (xs : List Slim) (key : ℕ) (step : Result Block Stop) : Type 0 where
  pub found : Block
  pub step_is : step ≡ Ok found
  pub front : front_of (drop found.start ws) ≡ cut found.length
  pub fits : found.start + (found.length + raw_of (take found.length (drop found.start ws))) ≤ length ws
  pub key_is : key_of (get_or (take found.length (drop found.start ws)) 0 0) ≡ key
  pub good : kept (row_for known (get_or (take found.length (drop found.start ws)) 0 0)) (take found.length (drop found.start ws)) ≡ Ok tt
  pub more : List Slim
  pub split : xs ≡ slim_of known (take found.length (drop found.start ws)) (take (raw_of (take found.length (drop found.start ws))) (drop (found.start + found.length) ws)) ∷ more
  pub on : Onward ws found.next (learnt known (slim_of known (take found.length (drop found.start ws)) (take (raw_of (take found.length (drop found.start ws))) (drop (found.start + found.length) ws)))) more
  pub due : on.state.due ≡ due_after on.state.setup key

-- an id is not lost in a key
pub key_id : (w : ℕ) → low (key_of w) ≡ low w
unfolding key_of
key_id w = go (eqb (low w) 0x0B)
  where
    go : (t : Bool) → low (cond t w (low w)) ≡ low w
    go true = refl
    go false = omega arith

pub entered_due : (s s' : State) (at : ℕ) (b : List ℕ) → entered_by s at b ≡ s' → s'.due ≡ due_after s'.setup (key_of (get_or b 0 0))
unfolding entered entered_by
entered_due s s' at b e = subst (λ (st : State). st.due ≡ due_after st.setup (key_of (get_or b 0 0))) e refl

module _ (key : ℕ) (is_listed : (kind_of (low key)).listed ≡ true) (no_header : eqb key 0x01 ≡ false) (no_end : eqb end_marker key ≡ false) where
  module _ {ws : List ℕ} {c : Cursor} {known : Setup} {xs : List Slim} (o : Onward ws c known xs) (d : o.state.due ≡ only key) where
    -- a listed block is the one that may come
    come_key : (b : List ℕ) → is_due o.state.due (key_of (get_or b 0 0)) ≡ true → key_of (get_or b 0 0) ≡ key
    come_key b e = only_due key (key_of (get_or b 0 0)) (rw d at e)

    module _ {found : Block} (q : step_at ws c ≡ Ok found) where
      abbrev v : Over-block o found
      v = onward_block o found q

      abbrev b : List ℕ
      b = take found.length (drop found.start ws)

      come_here : found.id ≡ low key → Reached ws known xs key (Ok found)
      unfolding slim_part known_from part_at
      come_here i = go v.passes.through
        where
          go : Through o.state found.start b v.passes.state → Reached ws known xs key (Ok found)
          go (unlisted l e) = absurd (false≢true (sym l ∙ ap (λ (j : ℕ). (kind_of j).listed) (sym (step_block ws c found q).id_is ∙ i) ∙ is_listed))
          go (listed l f g e) =
              let k : key_of (get_or b 0 0) ≡ key = come_key b f in
              record {
                found = found;
                step_is = refl;
                front = v.passes.front;
                fits = v.passes.fits;
                key_is = k;
                good = rw o.known_is at g;
                more = v.more;
                split = rw l at v.split;
                on = rw l at v.on;
                due = subst⁻¹ (λ (st : State). st.due ≡ due_after st.setup key) v.state_is (rw k at (entered_due o.state v.passes.state found.start b e));
              }

      -- blocks of other ids are not listed
      come_later : (found.id ≡ low key → ⊥) → (p : Onward ws found.next known xs) × (p.state.due ≡ only key)
      unfolding slim_part known_from part_at skipped
      come_later other = go v.passes.through
        where
          go : Through o.state found.start b v.passes.state → (p : Onward ws found.next known xs) × (p.state.due ≡ only key)
          go (unlisted l e) =
              let stays : (skipped o.state).due ≡ only key = rw d (only_passes key no_header) in
              let on : (p : Onward ws found.next known v.more) × (p.state.due ≡ only key) =
              (rw l at v.on, subst⁻¹ (λ (st : State). st.due ≡ only key) (v.state_is ∙ sym e) stays) in
              subst⁻¹ (λ (ys : List Slim). (p : Onward ws found.next known ys) × (p.state.due ≡ only key)) (rw l at v.split) on
          go (listed l f g e) = absurd (other ((step_block ws c found q).id_is ∙ sym (key_id (get_or b 0 0)) ∙ ap low (come_key b f)))

  pub reached : {ws : List ℕ} {c : Cursor} {known : Setup} {xs : List Slim} {step : Result Block Stop} (o : Onward ws c known xs) → o.state.due ≡ only key → Next (low key) ws c step → Reached ws known xs key step
  reached o d (over {stop = stop} q) = absurd (eqb-false _ _ no_end (only_due key end_marker (rw d at (onward_end o stop q))))
  reached o d (here q i) = come_here o d q i
  reached o d (pass q other n) = let p = come_later o d q other in reached p.0 p.1 n

-- ---- n histograms, numbered from 0

-- histograms of one id, with the keys that they have in the order, by what is known
pub record Family (id n : ℕ) (key : ℕ → ℕ) (known : Setup) : Type 0 where
  pub exact : (kind_of id).exact ≡ true
  pub is_listed : (kind_of id).listed ≡ true
  pub whole : (w : ℕ) → low w ≡ id → key_of w ≡ w
  pub is : (p : ℕ) → p < n → low (key p) ≡ id
  pub late : 6 ≤ id
  pub no_end : id < 0xFF
  pub then : (p : ℕ) → suc p < n → due_after known (key p) ≡ only (key (suc p))
  pub stays : (b raw : List ℕ) → low (get_or b 0 0) ≡ id → learnt known (slim_of known b raw) ≡ known

-- number p is the next listed block from a cursor on; ys are its slim form and those after it
pub record Awaited (ws : List ℕ) (id : ℕ) (key : ℕ → ℕ) (known : Setup) (p : ℕ) (c : Cursor) (ys : List Slim) : Type 0 where
  pub from : Cursor
  pub on : Onward ws from known ys
  pub due : on.state.due ≡ only (key p)
  pub same : (step : Result Block Stop) → Next id ws c step → Next id ws from step

-- number p
pub record Come (ws : List ℕ) (id n : ℕ) (key : ℕ → ℕ) (known : Setup) (p : ℕ) (ys : List Slim) (step : Result Block Stop) : Type 0 where
  pub at : Reached ws known ys (key p) step
  pub words : (slim_of known (take at.found.length (drop at.found.start ws)) (take (raw_of (take at.found.length (drop at.found.start ws))) (drop (at.found.start + at.found.length) ws))).head ≡ take at.found.length (drop at.found.start ws)
  pub size : length (take at.found.length (drop at.found.start ws)) ≡ (row_for known (key p)).least
  pub on : suc p < n → Awaited ws id key known (suc p) at.found.next at.more

module _ {id n : ℕ} {key : ℕ → ℕ} {known : Setup} (f : Family id n key known) {ws : List ℕ} where
  pub come : {p : ℕ} {c : Cursor} {ys : List Slim} {step : Result Block Stop} → p < n → Awaited ws id key known p c ys → Next id ws c step → Come ws id n key known p ys step
  unfolding slim_of slim_by head_by sized
  come {p} {step = step} h a next =
      let k = f.is p h in
      let r =
      reached (key p) (rw k f.is_listed) (ne_eqb (key p) 0x01 (λ z. omega (arith, k, f.late, z))) (ne_eqb end_marker (key p) (λ z. omega (arith, k, f.no_end, z))) {step = step} a.on a.due
      (subst⁻¹ (λ (i : ℕ). Next i ws a.from step) k (a.same step next))
      in
      let b = take r.found.length (drop r.found.start ws) in
      let raw = take (raw_of b) (drop (r.found.start + r.found.length) ws) in
      let id_is : low (get_or b 0 0) ≡ id = sym (key_id (get_or b 0 0)) ∙ ap low r.key_is ∙ k in
      let word : get_or b 0 0 ≡ key p = sym (f.whole (get_or b 0 0) id_is) ∙ r.key_is in
      let exact : (row_for known (get_or b 0 0)).exact ≡ true = row_exact known (get_or b 0 0) ∙ ap (λ (i : ℕ). (kind_of i).exact) id_is ∙ f.exact in
      let length_is : length b ≡ (row_for known (get_or b 0 0)).least = eqb-true _ _ (rw exact at (kept_says _ b r.good).sized) in
      record {
        at = r;
        words = rw exact;
        size = length_is ∙ ap (λ (w : ℕ). (row_for known w).least) word;
        on =
            λ l.
            record {
              from = r.found.next;
              on = rw (f.stays b raw id_is) at r.on;
              due = r.due ∙ ap (λ (s : Setup). due_after s (key p)) (r.on.known_is ∙ f.stays b raw id_is) ∙ f.then p l;
              same = λ step n. n;
            };
      }
