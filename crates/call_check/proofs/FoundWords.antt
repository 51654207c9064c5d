-- Words of a block that was found, in the file and in its slim form: the same words.
use mathlib.Core.Bool.{true}
use mathlib.Core.List.{List, []}
use mathlib.Core.Path.{◌≡◌, refl, ap, ◌∙◌}
use Prim.Native.Nat.{ℕ, zero, suc, ◌%◌, ◌≤◌, ◌<◌}
use native.Mathlib.Omega.{arith}
use lib.Dec.{eqb, ltb}
use lib.ListN.{length, get_or}
use borrow.Author.Tests.{eqb-false, ltb-false}
use Rattle.words.specs.Words.{low, words_of}
use Rattle.words.proofs.WordLaws.{words_length}
use Rattle.file_walk.specs.Walk.{raw_of}
use Rattle.file_read.specs.Read.{record_at, record_word, block_at, raw_at}
use Rattle.file_read.proofs.Places.{none_at}
use Rattle.file_rules.specs.Slim.{Slim, slim_by, word_in, sub_word_in}
use Rattle.words.proofs.Choice.{cond_second, or_neither}
use Rattle.file_rules.proofs.Reading.{plain_word, record_word_lem}
use Rattle.file_order.specs.declared.setup.Setup.{Setup}
use Rattle.file_order.specs.Setup.{row_for, slim_of}
use Rattle.file_tables.proofs.TableLaws.{Plain, Three}
use Rattle.call_check.specs.declared.judge.State.{State}
use Rattle.call_check.specs.Starts.{place_of}
use Rattle.call_check.specs.Judge.{misfit, surveyed}
use Rattle.call_check.proofs.StartLaws.{own, own_id}
use Rattle.call_check.proofs.Found.{first, slim_there, Found, there, nowhere}
use Rattle.call_check.proofs.Seen.{no_denied}
use Rattle.std.specs.declared.result.Result.TheVariants.{Ok}

no_raw_at : (ws : List ℕ) (at : ℕ) → length ws ≤ at → raw_at ws at ≡ []
unfolding raw_at raw_of
no_raw_at ws at h = rw (none_at ws at h)

no_record : (p : ℕ) → record_at p [] ≡ []
unfolding record_at
no_record zero = refl
no_record (suc p) = no_record p

-- the files that may be accepted have 32,768 words at most
module _ {ws : List ℕ} (few : length ws ≤ 32768) {last : Setup} {start : ℕ} {xs : List Slim} where
  module _ (id : ℕ) (o : own id ≡ true) where
    -- word k of a block with no sub-blocks, in whichever model
    pub found_word : (n : ℕ) → ((s : Setup) (w : ℕ) → low w ≡ id → Plain n (row_for s w)) → (k : ℕ) → 0 < k → k < n → Found ws last (place_of id) start xs → word_in (first xs) k ≡ get_or (block_at ws start) k 0
    unfolding word_in slim_of
    found_word n p k h l (there t) =
        let q = p t.setup _ (own_id id o _ t.place_is) in
        ap (λ (y : Slim). word_in y k) (slim_there t) ∙ plain_word (row_for t.setup (get_or (block_at ws start) 0 0)) (block_at ws start) (raw_at ws start) q.exact q.text q.none k h (omega (arith, q.least))
    found_word n p k h l (nowhere a z) = rw (z, none_at ws start (omega arith))

    -- a word of sub-block p, found in the file by the lengths of the sub-blocks before it
    pub found_record : (n : ℕ) → ((s : Setup) (w : ℕ) → low w ≡ id → Three n (row_for s w)) → (p off : ℕ) → p < 3 → 0 < off → off < n → Found ws last (place_of id) start xs
        → sub_word_in (first xs) p off ≡ record_word (block_at ws start) p off
    unfolding sub_word_in record_word slim_of
    found_record n m p off h k l (there t) =
        let q = m t.setup _ (own_id id o _ t.place_is) in
        ap (λ (y : Slim). sub_word_in y p off) (slim_there t) ∙ record_word_lem (row_for t.setup (get_or (block_at ws start) 0 0)) (block_at ws start) (raw_at ws start) p off (omega (arith, q.count)) k (omega (arith, q.least))
    found_record n m p off h k l (nowhere a z) = rw (z, none_at ws start (omega arith), no_record p)

  -- the raw words
  pub found_raw : (place : ℕ) → Found ws last place start xs → (first xs).contents ≡ raw_at ws start
  unfolding slim_of slim_by
  found_raw place (there t) = ap (λ (y : Slim). y.contents) (slim_there t)
  found_raw place (nowhere a n) = rw (n, no_raw_at ws start (omega arith))

-- an accepted file has an even number of bytes, and 65,536 at most
pub accepted_fits : (file : List ℕ) (s : State) → surveyed file ≡ Ok s → (length file % 2 ≡ 0) × (length file ≤ 65536)
unfolding surveyed misfit
accepted_fits file s e =
    let fits = or_neither (eqb (length file % 2) 1) (ltb 65536 (length file)) (cond_second (misfit file) e no_denied).0 in
    (omega (arith, eqb-false (length file % 2) 1 fits.0), ltb-false 65536 (length file) fits.1)

-- so it has 32,768 words at most
pub accepted_few : (file : List ℕ) (s : State) → surveyed file ≡ Ok s → length (words_of file) ≤ 32768
accepted_few file s e = omega (arith, words_length file, (accepted_fits file s e).1)
