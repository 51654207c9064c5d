-- The title of an accepted file is brief: its block has its count in one byte, and a null in its text.
use mathlib.Core.Bool.{Bool, true, false, cond, ◌||◌, false≢true}
use mathlib.Core.List.{List, [], ◌∷◌}
use mathlib.Core.Logic.{◌⊎◌, inl, inr}
use mathlib.Core.Path.{◌≡◌, refl, sym, ap, ◌∙◌}
use Prim.Native.Nat.{ℕ, ◌*◌, ◌≤◌, ◌<◌}
use native.Mathlib.Omega.{arith}
use lib.Dec.{eqb, lit≤}
use lib.ListN.{length, get_or, drop, length-drop}
use lib.Seq.{get_or-take}
use borrow.Author.Tests.{ne_eqb}
use Rattle.words.specs.Words.{low, high, bytes_of}
use Rattle.words.proofs.WordLaws.{Below, below_drop, words_below}
use Rattle.text.specs.Text.{before_null}
use Rattle.file_walk.specs.Walk.{long_form, front_of, cut}
use Rattle.file_walk.proofs.Fronts.{front_cuts}
use Rattle.file_rules.specs.Block.{nulled, readable}
use Rattle.file_rules.specs.Slim.{Slim, cut_text, head_by, slim_by}
use Rattle.file_rules.proofs.BlockLaws.{kept_says, kept_short}
use Rattle.file_order.specs.declared.setup.Setup.{Setup}
use Rattle.file_tables.specs.Table.{row_of, kind_of}
use Rattle.file_order.specs.Setup.{slim_of}
use Rattle.file_order.proofs.KnownLaws.{row_exact, row_text, row_at}
use Rattle.call_check.specs.declared.judge.State.{State}
use Rattle.call_check.specs.Judge.{surveyed}
use Rattle.call_check.specs.Starts.{place_of}
use Rattle.call_check.specs.Slims.{slims_in, slim_after, slim_at}
use Rattle.call_check.proofs.StartLaws.{own, own_id}
use Rattle.file_read.specs.Read.{block_at, raw_at}
use Rattle.call_check.proofs.Found.{first, slim_there, There, Found, there, nowhere, found}
use Rattle.file_read.proofs.Places.{block_at_lem}
use Rattle.call_title.specs.Title.{title_text}
use Rattle.call_title.proofs.Texts.{text_kept}
use Rattle.std.specs.declared.result.Result.TheVariants.{Ok}

-- a text that has its null has a byte less than its words at least
text_less : (ws : List ℕ) → nulled ws ≡ true → length (before_null (bytes_of ws)) < 2 * length ws
unfolding nulled bytes_of before_null
text_less [] e = absurd (false≢true e)
text_less (w ∷ ws) e = go (eqb (low w) 0) (eqb (high w) 0) e (text_less ws)
  where
    go : (t u : Bool) → (t || (u || nulled ws)) ≡ true → (nulled ws ≡ true → length (before_null (bytes_of ws)) < 2 * length ws)
        → length (cond t [] (low w ∷ cond u [] (high w ∷ before_null (bytes_of ws)))) < 2 * length (w ∷ ws)
    go true u f later = omega arith
    go false true f later = omega arith
    go false false f later = omega (arith, later f)

-- a block that has its count in its first word has 255 words at most
short_few : (ws : List ℕ) (n : ℕ) → front_of ws ≡ cut n → long_form (get_or ws 0 0) ≡ false → get_or ws 0 0 < 65536 → n ≤ 255
short_few ws n f l small = go (front_cuts ws n f).size
  where
    go : ((long_form (get_or ws 0 0) ≡ true) × (2 ≤ get_or ws 1 0) × (n ≡ get_or ws 1 0)) ⊎ ((long_form (get_or ws 0 0) ≡ false) × (n ≡ high (get_or ws 0 0))) → n ≤ 255
    go (inl (t, two, k)) = absurd (false≢true (sym l ∙ t))
    go (inr (t, k)) = omega arith

module _ {ws : List ℕ} (small : Below 65536 ws) {last : Setup} {start : ℕ} {xs : List Slim} where
  title_block : There ws last (place_of 0x03) start (block_at ws start) (raw_at ws start) xs → (length (block_at ws start) ≤ 255) × (nulled (drop 1 (block_at ws start)) ≡ true)
  unfolding readable long_form row_of own place_of
  title_block t =
      let b = block_at ws start in
      let w = get_or b 0 0 in
      let id : low w ≡ 0x03 = own_id 0x03 refl (low w) t.place_is in
      let kept = kept_says _ b t.good in
      let exact = row_exact t.setup w ∙ ap (λ (i : ℕ). (kind_of i).exact) id in
      let text = row_text t.setup w ∙ ap (λ (i : ℕ). (kind_of i).text) id in
      let first : w ≡ get_or (drop start ws) 0 0 =
      ap (λ (l : List ℕ). get_or l 0 0) (block_at_lem ws start (length b) t.front) ∙ get_or-take (length b) (drop start ws) 0 0 (front_cuts _ _ t.front).some in
      let short : long_form w ≡ false = simp (ne_eqb (high w) 0 (kept_short kept exact), id) in
      (short_few (drop start ws) (length b) t.front (rw first at short) (below_drop start ws small 0), rw text at kept.null)

  found_brief : Found ws last (place_of 0x03) start xs → length (before_null (bytes_of (drop 1 (first xs).head))) ≤ 507
  unfolding slim_of slim_by head_by cut_text row_of before_null bytes_of own place_of
  found_brief (there t) =
      let b = block_at ws start in
      let id = own_id 0x03 refl (low (get_or b 0 0)) t.place_is in
      let row = row_at (λ r. head_by r b ≡ cut_text b) 0x03 refl refl refl t.setup (get_or b 0 0) id in
      let head : (first xs).head ≡ cut_text b = ap (λ (y : Slim). y.head) (slim_there t) ∙ row in
      let text = ap (λ (l : List ℕ). length (before_null (bytes_of (drop 1 l)))) head ∙ ap length (text_kept (drop 1 b)) in
      let block = title_block t in
      omega (arith, text, text_less (drop 1 b) block.1, length-drop 1 b)
  found_brief (nowhere a n) = rw n (lit≤ tt)

pub title_brief : (file : List ℕ) (s : State) → surveyed file ≡ Ok s → Below 256 file → length (title_text (slims_in file)) ≤ 507
unfolding title_text slim_at slim_after place_of
title_brief file s e small = found_brief (words_below file small) (found file s e 0x03 (lit≤ tt))
