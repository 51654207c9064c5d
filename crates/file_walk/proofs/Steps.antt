-- One step of the walk, as a loop over the blocks takes it.
use mathlib.Core.Bool.{Bool, true, false, cond}
use mathlib.Core.List.{List}
use mathlib.Core.Path.{◌≡◌, refl, sym, ap, ◌∙◌}
use Prim.Native.Nat.{ℕ, suc, ◌+◌, ◌-◌, ◌≤◌}
use native.Mathlib.Nat.{add_assoc}
use native.Mathlib.Omega.{arith}
use lib.Dec.{ltb}
use lib.ListN.{length, get_or, take, drop, length-drop}
use lib.Seq.{drop-drop, get_or-take}
use borrow.Author.Tests.{ltb-true, ltb-false, lt-ltb, le-ltb}
use Rattle.std.specs.Prelude.{Result, Ok, Err}
use Rattle.words.specs.Words.{low, high}
use Rattle.words.proofs.Choice.{cond_second}
use Rattle.file_refusal.specs.Refusal.{refusal}
use Rattle.file_walk.specs.Walk.{Front, refused, ended, cut, front_of, raw_of, Walk, over, block, walk, walked, stepped, step_at}
use Rattle.file_walk.specs.declared.Cursor.{Cursor}
use Rattle.file_walk.specs.declared.Stop.{Stop}
use Rattle.file_walk.specs.declared.Stop.TheVariants.{End, Refused}
use Rattle.file_walk.specs.declared.Block.{Block}
use Rattle.file_walk.proofs.Fronts.{front_cuts, front_ended}

-- ---- the walk, by what stands at its front

module _ (m at : ℕ) (ws : List ℕ) where
  pub walk_refused : (num : ℕ) → front_of ws ≡ refused num → walk (suc m) at ws ≡ over (Refused (refusal num at))
  unfolding walk
  walk_refused num e = rw (e, walk)

  pub walk_ended : front_of ws ≡ ended → walk (suc m) at ws ≡ over (End at (length ws - 1))
  unfolding walk
  walk_ended e = rw (e, walk)

  pub walk_cut : (k : ℕ) → front_of ws ≡ cut k
      → walk (suc m) at ws
      ≡ block at (take k ws) (take (raw_of (take k ws)) (drop k ws))
      (cond (ltb (length (drop k ws)) (raw_of (take k ws))) (over (Refused (refusal 2 at))) (walk m (at + (k + raw_of (take k ws))) (drop (k + raw_of (take k ws)) ws)))
  unfolding walk
  walk_cut k e = rw (e, walk)

-- ---- the walk from a cursor on

unfoldable pub walk_from : ℕ → List ℕ → Cursor → Walk
walk_from m ws c = cond (ltb (length ws) c.at) (over (Refused (refusal 2 c.last))) (walk m c.at (drop c.at ws))

pub walk_start : (ws : List ℕ) → walk_from (suc (length ws)) ws (record { at = 0; last = 0 }) ≡ walked ws
unfolding walk_from walked
walk_start ws = rw (le-ltb (length ws) 0 (omega arith))

pub walk_over : (m : ℕ) (ws : List ℕ) (c : Cursor) (s : Stop) → step_at ws c ≡ Err s → walk_from (suc m) ws c ≡ over s
unfolding walk_from step_at stepped
walk_over m ws c s e = past _ (ltb (length ws) c.at) e
  where
    vs : List ℕ
    vs = drop c.at ws

    here : (f : Front) → front_of vs ≡ f → stepped c.at vs f ≡ Err s → walk (suc m) c.at vs ≡ over s
    here (refused num) q h = walk_refused m c.at vs num q ∙ cc
    here ended q h = walk_ended m c.at vs q ∙ cc
    here (cut k) q h = cc

    past : (o : Stop) (t : Bool) → cond t (Err o) (stepped c.at vs (front_of vs)) ≡ Err s → cond t (over o) (walk (suc m) c.at vs) ≡ over s
    past o true h = cc
    past o false h = here (front_of vs) refl h

-- a step that is no refusal of raw words, by what stands at the cursor
step_front : (ws : List ℕ) (c : Cursor) (s : Result Block Stop) → step_at ws c ≡ s → (Err (Refused (refusal 2 c.last)) ≡ s → ⊥)
    → (c.at ≤ length ws) × (stepped c.at (drop c.at ws) (front_of (drop c.at ws)) ≡ s)
unfolding step_at
step_front ws c s e never = let p = cond_second (ltb (length ws) c.at) e never in (ltb-false _ _ p.0, p.1)

-- ---- a step that answers a block

pub record Stepped (ws : List ℕ) (c : Cursor) (b : Block) : Type 0 where
  pub here : b.start ≡ c.at
  pub some : 1 ≤ b.length
  pub fits : b.start + b.length ≤ length ws
  pub front : front_of (drop b.start ws) ≡ cut b.length
  pub id_is : b.id ≡ low (get_or (take b.length (drop b.start ws)) 0 0)
  pub nn_is : b.nn ≡ high (get_or (take b.length (drop b.start ws)) 0 0)
  pub on : b.next.at ≡ b.start + (b.length + raw_of (take b.length (drop b.start ws)))
  pub last_is : b.next.last ≡ b.start

pub step_block : (ws : List ℕ) (c : Cursor) (b : Block) → step_at ws c ≡ Ok b → Stepped ws c b
unfolding stepped
step_block ws c b e =
    let p = step_front ws c _ e (λ h. cc) in
    go (front_of vs) refl p.0 p.1
  where
    vs : List ℕ
    vs = drop c.at ws

    go : (f : Front) → front_of vs ≡ f → c.at ≤ length ws → stepped c.at vs f ≡ Ok b → Stepped ws c b
    go (refused num) q h g = cc
    go ended q h g = cc
    go (cut k) q h g =
        let is : record { id = low (get_or vs 0 0); nn = high (get_or vs 0 0); start = c.at; length = k; next = record { at = c.at + (k + raw_of (take k vs)); last = c.at } } ≡ b = cc in
        let cuts = front_cuts vs k q in
        let w = get_or-take k vs 0 0 cuts.some in
        rw (← is)
        (record {
          here = refl;
          some = cuts.some;
          fits = omega (arith, cuts.fits, length-drop c.at ws);
          front = q;
          id_is = rw w;
          nn_is = rw w;
          on = refl;
          last_is = refl;
        })

-- raw words that pass the last word of the file, and those that pass the last word that is left
same_test : (n k r : ℕ) → k ≤ n → ltb (n - k) r ≡ ltb n (k + r)
same_test n k r h = go (ltb n (k + r)) refl
  where
    go : (t : Bool) → ltb n (k + r) ≡ t → ltb (n - k) r ≡ t
    go true e = lt-ltb (n - k) r (omega (arith, ltb-true n (k + r) e))
    go false e = le-ltb (n - k) r (omega (arith, ltb-false n (k + r) e))

pub walk_block : (m : ℕ) (ws : List ℕ) (c : Cursor) (b : Block) → step_at ws c ≡ Ok b
    → walk_from (suc m) ws c
    ≡ block b.start (take b.length (drop b.start ws)) (take (raw_of (take b.length (drop b.start ws))) (drop (b.start + b.length) ws)) (walk_from m ws b.next)
unfolding walk_from
walk_block m ws c b e =
    let s = step_block ws c b e in
    let start = b.start in
    let len = b.length in
    let raw = raw_of (take len (drop start ws)) in
    let here : walk_from (suc m) ws c ≡ walk (suc m) start (drop start ws) =
    rw (le-ltb (length ws) c.at (omega arith)) (ap (λ (a : ℕ). walk (suc m) a (drop a ws)) (sym s.here)) in
    let test : ltb (length (drop (start + len) ws)) raw ≡ ltb (length ws) (start + (len + raw)) =
    rw (length-drop, ← add_assoc) (same_test (length ws) (start + len) raw s.fits) in
    here ∙ walk_cut m start (drop start ws) len s.front ∙ rw (s.on, s.last_is, drop-drop len start ws, drop-drop (len + raw) start ws, test)

-- ---- a step that answers the end marker

pub end_bounds : (ws : List ℕ) (c : Cursor) (p left : ℕ) → step_at ws c ≡ Err (End p left) → (p ≡ c.at) × (p + 1 + left ≡ length ws)
unfolding stepped
end_bounds ws c p left e =
    let q = step_front ws c _ e (λ h. cc) in
    go (front_of vs) refl q.0 q.1
  where
    vs : List ℕ
    vs = drop c.at ws

    go : (f : Front) → front_of vs ≡ f → c.at ≤ length ws → stepped c.at vs f ≡ Err (End p left) → (p ≡ c.at) × (p + 1 + left ≡ length ws)
    go (refused num) q h g = cc
    go ended q h g =
        let a : p ≡ c.at = cc in
        let b : length vs - 1 ≡ left = cc in
        (a, omega (arith, (front_ended vs q).1, length-drop c.at ws))
    go (cut k) q h g = cc
