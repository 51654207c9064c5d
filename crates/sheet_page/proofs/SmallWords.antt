-- The words of an accepted file's slim blocks are words of the file, so they are below 65,536.
use mathlib.Core.Bool.{true}
use mathlib.Core.List.{List, [], ◌∷◌}
use mathlib.Core.Path.{◌≡◌, refl, ap, subst, subst⁻¹}
use Prim.Native.Nat.{ℕ, zero, suc, ◌+◌, ◌*◌, ◌<◌}
use native.Mathlib.Omega.{arith}
use lib.Dec.{lit≤}
use lib.ListN.{length, get_or, take, drop}
use Rattle.words.specs.Words.{high, words_of, long_at}
use Rattle.words.proofs.WordLaws.{Below, below_drop, below_take, words_below}
use Rattle.file_read.specs.Read.{record_at, record_word, block_at, raw_at}
use Rattle.file_rules.specs.Slim.{Slim, word_in, sub_word_in}
use Rattle.file_tables.specs.Table.{kind_of}
use Rattle.call_check.specs.declared.judge.State.{State}
use Rattle.call_check.specs.Judge.{surveyed}
use Rattle.call_check.specs.Starts.{place_count, place_of}
use Rattle.call_check.specs.Slims.{slims_in, slim_after, slim_at}
use Rattle.call_check.proofs.StartLaws.{start_of, own_small}
use Rattle.call_check.proofs.Found.{Found, there, nowhere, found}
use Rattle.file_read.proofs.Places.{block_at_lem, none_at}
use Rattle.call_check.proofs.FoundWords.{accepted_few}
use Rattle.law_read.proofs.HistogramLaws.{histogram_part}
use Rattle.law_read.proofs.ReadLaws.{is_in, plain_own, records_own, read_word, read_record, read_contents}
use Rattle.law_read.proofs.SpectrumLaws.{spectrum_word}
use Rattle.std.specs.declared.result.Result.TheVariants.{Ok}

take_again : (n : ℕ) (l : List ℕ) → take (length (take n l)) l ≡ take n l
take_again zero l = refl
take_again (suc n) [] = refl
take_again (suc n) (x ∷ l) = ap (λ (r : List ℕ). x ∷ r) (take_again n l)

-- raw words are a part of the file
raw_part : (ws : List ℕ) (at : ℕ) → take (length (raw_at ws at)) (drop (at + length (block_at ws at)) ws) ≡ raw_at ws at
unfolding raw_at
raw_part ws at = rw take_again

raw_below : (ws : List ℕ) (at : ℕ) → Below 65536 ws → Below 65536 (raw_at ws at)
raw_below ws at s =
    let end = at + length (block_at ws at) in
    subst (Below 65536) (raw_part ws at) (below_take (length (raw_at ws at)) (drop end ws) (omega arith) (below_drop end ws s))

record_below : (p : ℕ) (ws : List ℕ) → Below 65536 ws → Below 65536 (record_at p ws)
unfolding record_at
record_below zero ws s = s
record_below (suc p) ws s = record_below p (drop (high (get_or ws 0 0)) ws) (below_drop (high (get_or ws 0 0)) ws s)

module _ (file : List ℕ) (s : State) (e : surveyed file ≡ Ok s) (small : Below 256 file) where
  -- the block at a place: a part of the file, or no words
  block_small : (id : ℕ) → place_of id < place_count → Below 65536 (block_at (words_of file) (start_of id s.starts))
  block_small id i = go (found file s e id i)
    where
      ws : List ℕ
      ws = words_of file

      start : ℕ
      start = start_of id s.starts

      go : {xs : List Slim} → Found ws s.setup (place_of id) start xs → Below 65536 (block_at ws start)
      go (there t) =
          let n = length (block_at ws start) in
          subst⁻¹ (Below 65536) (block_at_lem ws start n t.front) (below_take n (drop start ws) (omega arith) (below_drop start ws (words_below file small)))
      go (nowhere a n) = subst⁻¹ (Below 65536) (none_at ws start (omega (arith, accepted_few file s e))) (λ k. omega arith)

  pub word_small : (id : ℕ) → is_in id (0x01 ∷ (0x02 ∷ (0x04 ∷ (0x0F ∷ [])))) ≡ true → (k : ℕ) → 0 < k → k < (kind_of id).least
      → word_in (slim_at id (slims_in file)) k < 65536
  word_small id i k h l = rw (read_word file s e id i k h l) (block_small id (own_small id (plain_own id i).0) k)

  pub record_small : (id : ℕ) → is_in id (0x05 ∷ (0x07 ∷ (0x09 ∷ []))) ≡ true → (p o : ℕ) → p < 3 → 0 < o → o < (kind_of id).subs.least
      → sub_word_in (slim_at id (slims_in file)) p o < 65536
  unfolding record_word
  record_small id i p o h k l =
      let b = block_at (words_of file) (start_of id s.starts) in
      rw (read_record file s e id i p o h k l) (record_below p (drop 2 b) (below_drop 2 b (block_small id (own_small id (records_own id i).0))) o)

  -- the levels of the spectrum: those of its bands and its totals
  pub level_small : (k : ℕ) → 0 < k → (let x = slim_at 0x0E (slims_in file) in k < 5 + (word_in x 3 + word_in x 4)) → word_in (slim_at 0x0E (slims_in file)) k < 65536
  unfolding place_of start_of
  level_small k h l =
      let word = spectrum_word file s e in
      rw (word k h (omega (arith, word 3 (lit≤ tt) (omega arith), word 4 (lit≤ tt) (omega arith)))) (block_small 0x0E (lit≤ tt) k)

  pub contents_small : Below 65536 (slim_at 0x0F (slims_in file)).contents
  contents_small = subst⁻¹ (Below 65536) (read_contents file s e) (raw_below (words_of file) s.starts.logger (words_below file small))

  -- a counter of a histogram
  pub count_small : (p : ℕ) → p < 3 → (k : ℕ) → long_at (slim_after 0x09 (p + 1) (slims_in file)).head k < 65536 * 65536
  unfolding long_at
  count_small p h k =
      let part = histogram_part file s e p h in
      let words : Below 65536 (take part.1.0 (drop part.0 (words_of file))) = below_take part.1.0 (drop part.0 (words_of file)) (omega arith) (below_drop part.0 (words_of file) (words_below file small)) in
      rw part.1.1 (omega (arith, words k, words (k + 1)))
