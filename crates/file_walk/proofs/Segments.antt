-- The segmentation law: the parts of a file, joined, are the file, and no other parts join to it.
use mathlib.Core.Bool.{Bool, true, false, cond, false≢true}
use mathlib.Core.List.{List, [], ◌∷◌, ◌++◌}
use mathlib.Core.Path.{◌≡◌, refl, sym, ap, ◌∙◌}
use Prim.Native.Nat.{ℕ, zero, suc, ◌+◌, ◌-◌, ◌≤◌}
use native.Mathlib.Omega.{arith}
use lib.Dec.{ltb, eqb}
use lib.ListN.{length, get_or, take, drop, length-append, take-append-drop, get_or-append}
use lib.Seq.{take-append_seam, drop-append_seam, drop-append-add, drop-drop, get_or-take, length-take-le}
use borrow.Author.Tests.{ltb-false, eqb-true, le-ltb}
use Rattle.file_refusal.specs.Refusal.{refusal}
use Rattle.file_walk.specs.Walk.{Front, refused, ended, cut, end_marker, fronted, front_of, raw_of, Walk, over, block, walk, Part, parts_of, laid_out, Whole, Wholes}
use Rattle.file_walk.specs.declared.Stop.TheVariants.{End, Refused}
use Rattle.file_walk.proofs.Fronts.{front_cuts, front_ended, front_same}
use Rattle.file_walk.proofs.Steps.{walk_refused, walk_ended, walk_cut}

-- the walk comes to the end marker, and no word is after it
unfoldable pub closes : Walk → Bool
closes (over (End at left)) = eqb left 0
closes (over (Refused r)) = false
closes (block at b raw w) = closes w

-- a part and what is after it, walked
walk_part : (p : Part) (ws : List ℕ) → Whole p → (m at : ℕ)
    → walk (suc m) at (p.words ++ (p.raw ++ ws)) ≡ block at p.words p.raw (walk m (at + (length p.words + length p.raw)) ws)
walk_part p ws w m at =
    let b = p.words in
    let r = p.raw in
    let all = b ++ (r ++ ws) in
    let front : front_of all ≡ cut (length b) =
    front_same b all (length b) w.counted (omega (arith, length-append b (r ++ ws))) (λ i h. get_or-append b (r ++ ws) 0 i h) in
    let t : take (length b) all ≡ b = take-append_seam b (r ++ ws) in
    let n : raw_of (take (length b) all) ≡ length r = ap raw_of t ∙ sym w.followed in
    let fits : ltb (length (r ++ ws)) (length r) ≡ false = le-ltb (length (r ++ ws)) (length r) (omega (arith, length-append r ws)) in
    walk_cut m at all (length b) front
    ∙ rw (n, t, drop-append_seam b (r ++ ws), take-append_seam r ws, fits, drop-append-add b (r ++ ws) (length r), drop-append_seam r ws)

pub walk_laid_out : (ps : List Part) → Wholes ps → (m at : ℕ) → length (laid_out ps) ≤ m → (parts_of (walk m at (laid_out ps)) ≡ ps) × (closes (walk m at (laid_out ps)) ≡ true)
unfolding laid_out parts_of closes walk front_of fronted
walk_laid_out [] w zero at h = absurd (omega arith)
walk_laid_out [] w (suc m) at h = (refl, refl)
walk_laid_out (p ∷ ps) w zero at h = absurd (omega (arith, length-append p.words (p.raw ++ laid_out ps), (front_cuts p.words _ w.0.counted).some))
walk_laid_out (p ∷ ps) w (suc m) at h =
    let b = p.words in
    let l = length-append b (p.raw ++ laid_out ps) in
    let l₂ = length-append p.raw (laid_out ps) in
    let e = walk_part p (laid_out ps) w.0 m at in
    let ih = walk_laid_out ps w.1 m (at + (length b + length p.raw)) (omega (arith, (front_cuts b _ w.0.counted).some)) in
    (ap parts_of e ∙ ap (λ (x : List Part). p ∷ x) ih.0, ap closes e ∙ ih.1)

abbrev Joins : List ℕ → Walk → Type 0
Joins ws w = (laid_out (parts_of w) ≡ ws) × Wholes (parts_of w)

-- one word, the end marker
lone : (ws : List ℕ) → length ws ≡ 1 → get_or ws 0 0 ≡ end_marker → end_marker ∷ [] ≡ ws
lone [] l e = absurd (omega arith)
lone (x ∷ []) l e = rw e
lone (x ∷ (y ∷ ws)) l e = absurd (omega arith)

-- a block at the front, where its raw words are there too
pub cut_whole : (ws : List ℕ) (k : ℕ) → front_of ws ≡ cut k → raw_of (take k ws) ≤ length (drop k ws) → Whole (record { words = take k ws; raw = take (raw_of (take k ws)) (drop k ws) })
cut_whole ws k f h =
    let c = front_cuts ws k f in
    let l : length (take k ws) ≡ k = length-take-le k ws c.fits in
    record {
      counted = rw l (front_same ws (take k ws) k f (omega arith) (λ i g. get_or-take k ws i 0 g));
      followed = length-take-le _ _ h;
    }

-- a block, its raw words and what is after them, where the walk after them joins
cut_joins : (m at : ℕ) (ws : List ℕ) (k : ℕ) → front_of ws ≡ cut k → ((at : ℕ) (ws : List ℕ) → closes (walk m at ws) ≡ true → Joins ws (walk m at ws))
    → closes (walk (suc m) at ws) ≡ true → Joins ws (walk (suc m) at ws)
unfolding laid_out parts_of closes
cut_joins m at ws k f ih e =
    let q = walk_cut m at ws k f in
    rw q (go (ltb (length (drop k ws)) raw) refl (sym (ap closes q) ∙ e))
  where
    raw : ℕ
    raw = raw_of (take k ws)

    onward : Walk
    onward = walk m (at + (k + raw)) (drop (k + raw) ws)

    go : (t : Bool) → ltb (length (drop k ws)) raw ≡ t → closes (cond t (over (Refused (refusal 2 at))) onward) ≡ true
        → Joins ws (block at (take k ws) (take raw (drop k ws)) (cond t (over (Refused (refusal 2 at))) onward))
    go true q h = absurd (false≢true h)
    go false q h =
        let i = ih _ _ h in
        (rw (i.0, ← drop-drop raw k ws, take-append-drop raw (drop k ws), take-append-drop k ws), (cut_whole ws k f (ltb-false _ _ q), i.1))

pub laid_out_walk : (m at : ℕ) (ws : List ℕ) → closes (walk m at ws) ≡ true → (laid_out (parts_of (walk m at ws)) ≡ ws) × Wholes (parts_of (walk m at ws))
unfolding laid_out parts_of closes walk
laid_out_walk zero at ws e = absurd (false≢true e)
laid_out_walk (suc m) at ws e = go (front_of ws) refl (laid_out_walk m)
  where
    go : (f : Front) → front_of ws ≡ f → ((at : ℕ) (ws : List ℕ) → closes (walk m at ws) ≡ true → Joins ws (walk m at ws)) → Joins ws (walk (suc m) at ws)
    go (refused num) f ih = absurd (false≢true (sym (ap closes (walk_refused m at ws num f)) ∙ e))
    go ended f ih =
        let q = walk_ended m at ws f in
        let n : length ws - 1 ≡ 0 = eqb-true _ _ (sym (ap closes q) ∙ e) in
        let g = front_ended ws f in
        rw q (lone ws (omega arith) g.0, tt)
    go (cut k) f ih = cut_joins m at ws k f ih e
