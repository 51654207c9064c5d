-- Texts up to their null: in a block, in its slim form, and in the file from the block on.
use mathlib.Core.Bool.{Bool, true, false, cond, ◌||◌, false≢true}
use mathlib.Core.List.{List, [], ◌∷◌, ◌++◌}
use mathlib.Core.Path.{◌≡◌, refl, sym, ap, ◌∙◌}
use Prim.Native.Nat.{ℕ, ◌+◌, ◌≤◌}
use native.Mathlib.Omega.{arith}
use lib.Dec.{eqb}
use lib.ListN.{length, get_or, drop, take-append-drop, drop_of_length-le}
use lib.Seq.{drop-drop}
use Rattle.words.specs.Words.{low, high, bytes_of}
use Rattle.text.specs.Text.{before_null}
use Rattle.file_rules.specs.Block.{nulled, readable}
use Rattle.file_rules.specs.Slim.{Slim, text_of, cut_text, head_by, slim_by}
use Rattle.file_rules.proofs.BlockLaws.{kept_says}
use Rattle.file_order.specs.declared.setup.Setup.{Setup}
use Rattle.file_tables.specs.Table.{kind_of}
use Rattle.file_order.specs.Setup.{row_for, slim_of}
use Rattle.file_order.proofs.KnownLaws.{row_exact, row_text}
use Rattle.file_read.specs.Read.{block_at}
use Rattle.call_check.specs.Starts.{place_of}
use Rattle.call_check.proofs.StartLaws.{own, own_id}
use Rattle.call_check.proofs.Found.{first, slim_there, Found, there, nowhere}
use Rattle.file_read.proofs.Places.{block_at_lem}

-- ---- texts

-- a text and its slim form show the same
pub text_kept : (ws : List ℕ) → before_null (bytes_of (text_of ws)) ≡ before_null (bytes_of ws)
unfolding text_of bytes_of before_null
text_kept [] = refl
text_kept (w ∷ ws) = go (eqb (low w) 0) (eqb (high w) 0) refl refl (text_kept ws)
  where
    go : (x y : Bool) → eqb (low w) 0 ≡ x → eqb (high w) 0 ≡ y → before_null (bytes_of (text_of ws)) ≡ before_null (bytes_of ws)
        → before_null (bytes_of (cond x (0 ∷ []) (cond y (w ∷ []) (w ∷ text_of ws)))) ≡ cond x [] (low w ∷ cond y [] (high w ∷ before_null (bytes_of ws)))
    go true y p q ih = refl
    go false true p q ih = rw (p, q)
    go false false p q ih = rw (p, q, ih)

-- a text that has its null is the same with more words after it
pub text_within : (ws vs : List ℕ) → nulled ws ≡ true → before_null (bytes_of (ws ++ vs)) ≡ before_null (bytes_of ws)
unfolding nulled bytes_of before_null
text_within [] vs e = absurd (false≢true e)
text_within (w ∷ ws) vs e = go (eqb (low w) 0) (eqb (high w) 0) e (text_within ws vs)
  where
    go : (x y : Bool) → (x || (y || nulled ws)) ≡ true → (nulled ws ≡ true → before_null (bytes_of (ws ++ vs)) ≡ before_null (bytes_of ws))
        → cond x [] (low w ∷ cond y [] (high w ∷ before_null (bytes_of (ws ++ vs)))) ≡ cond x [] (low w ∷ cond y [] (high w ∷ before_null (bytes_of ws)))
    go true y f ih = refl
    go false true f ih = refl
    go false false f ih = rw (ih f)

-- the same after the first word of a block
block_text : (b vs : List ℕ) → nulled (drop 1 b) ≡ true → before_null (bytes_of (drop 1 (b ++ vs))) ≡ before_null (bytes_of (drop 1 b))
unfolding nulled
block_text [] vs e = absurd (false≢true e)
block_text (w ∷ b) vs e = text_within b vs e

-- ---- the text of a block that was found

-- the files that may be accepted have 32,768 words at most
module _ {ws : List ℕ} (few : length ws ≤ 32768) {last : Setup} {start : ℕ} {xs : List Slim} where
  -- a text, read from word 1 of its block on in the file, and in the block's slim form
  pub found_text : (id : ℕ) → own id ≡ true → (kind_of id).exact ≡ false → (kind_of id).text ≡ true → Found ws last (place_of id) start xs
      → before_null (bytes_of (drop (start + 1) ws)) ≡ before_null (bytes_of (drop 1 (first xs).head))
  unfolding readable slim_of slim_by head_by cut_text
  found_text id o ex tx (there t) =
      let block = block_at ws start in
      let w = get_or block 0 0 in
      let same : low w ≡ id = own_id id o (low w) t.place_is in
      let text = row_text t.setup w ∙ ap (λ (i : ℕ). (kind_of i).text) same ∙ tx in
      let exact = row_exact t.setup w ∙ ap (λ (i : ℕ). (kind_of i).exact) same ∙ ex in
      let null : nulled (drop 1 block) ≡ true = rw text at (kept_says _ block t.good).null in
      let head : (first xs).head ≡ head_by (row_for t.setup w) block = ap (λ (y : Slim). y.head) (slim_there t) in
      let front : block ++ drop (length block) (drop start ws) ≡ drop start ws =
      ap (λ (l : List ℕ). l ++ drop (length block) (drop start ws)) (block_at_lem ws start (length block) t.front) ∙ take-append-drop (length block) (drop start ws)
      in
      ap (λ (l : List ℕ). before_null (bytes_of l)) (sym (drop-drop 1 start ws) ∙ ap (drop 1) (sym front))
      ∙ block_text block _ null
      ∙ sym (text_kept (drop 1 block))
      ∙ sym (ap (λ (l : List ℕ). before_null (bytes_of (drop 1 l))) head ∙ rw (exact, text))
  found_text id o ex tx (nowhere a n) = rw (n, drop_of_length-le ws {i = start + 1} (omega arith))
