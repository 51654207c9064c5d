-- The loops over the blocks of an accepted file: what a turn goes over, counts and writes.
use mathlib.Core.List.{List, [], ◌∷◌, ◌++◌}
use mathlib.Core.Path.{◌≡◌, ap, subst, ◌∙◌}
use Prim.Native.Nat.{ℕ, ◌+◌, ◌-◌, ◌<◌}
use native.Mathlib.Omega.{arith}
use lib.ListN.{length, length-append}
use Rattle.words.specs.Words.{words_of}
use Rattle.words.proofs.WordLaws.{Below, words_below}
use Rattle.file_walk.specs.declared.Cursor.{Cursor}
use Rattle.file_walk.specs.declared.Stop.{Stop}
use Rattle.file_walk.specs.declared.Block.{Block}
use Rattle.file_walk.specs.Walk.{step_at, end_marker}
use Rattle.file_walk.proofs.Steps.{step_block}
use Rattle.file_rules.specs.Slim.{Slim}
use borrow.Rule.Slice.PartMut.{mid_of, put_mid}
use Rattle.file_slim.specs.Cut.{WroteWords, HasRoom}
use Rattle.file_slim.proofs.WordWriting as WordWriting
use Rattle.file_slim.proofs.WordWriting.{Begun, room, finished}
use Rattle.file_order.specs.declared.setup.Setup.{Setup}
use Rattle.call_check.specs.Slims.{known_from}
use Rattle.file_read.specs.Read.{part_at}
use Rattle.call_check.proofs.FoundWords.{accepted_few}
use Rattle.call_check.proofs.Onward.{Onward, onward_over, onward_block}
use Rattle.call_slim.proofs.Cuttable.{inside}
use Rattle.call_slim.proofs.CopyLaws.{words_split, words_end}
use Rattle.call_slim.specs.Copy.{slim_words}
use Rattle.call_slim.specs.Parts.{part_words, IsAccepted, Within}
use Rattle.std.specs.declared.result.Result.TheVariants.{Ok, Err}

-- ---- a turn of a loop over the blocks of an accepted file, with the slim blocks xs left

pub record Turn (ws : List ℕ) (c : Cursor) (known : Setup) (xs : List Slim) (b : Block) : Type 0 where
  pub within : Within ws known b.start b.length
  pub more : List Slim
  pub words : slim_words xs ≡ part_words known (part_at ws b.start b.length) ++ slim_words more
  pub sum : length (slim_words xs) ≡ length (part_words known (part_at ws b.start b.length)) + length (slim_words more)
  pub on : Onward ws b.next (known_from known (part_at ws b.start b.length)) more
  pub further : (c.at < b.next.at) × (c.at < length ws)

pub turn : {file : List ℕ} {c : Cursor} {known : Setup} {xs : List Slim} → Below 256 file → IsAccepted file → Onward (words_of file) c known xs
    → (b : Block) → step_at (words_of file) c ≡ Ok b → Turn (words_of file) c known xs b
turn {file} {c} {known} below a o b q =
    let v = onward_block o b q in
    let s = step_block (words_of file) c b q in
    let words = ap slim_words v.split ∙ words_split known (part_at (words_of file) b.start b.length) v.more in
    record {
      within = subst (λ (k : Setup). Within (words_of file) k b.start b.length) o.known_is (inside (words_below file below) (accepted_few file a.state a.passed) v.passes);
      more = v.more;
      words = words;
      sum = ap length words ∙ length-append (part_words known (part_at (words_of file) b.start b.length)) (slim_words v.more);
      on = v.on;
      further = (omega (arith, s.here, s.some, s.on), omega (arith, s.here, s.some, s.fits));
    }

-- the last turn
pub turn_end : {ws : List ℕ} {c : Cursor} {known : Setup} {xs : List Slim} → Onward ws c known xs → (stop : Stop) → step_at ws c ≡ Err stop → slim_words xs ≡ end_marker ∷ []
turn_end o stop q = ap slim_words (onward_over o stop q) ∙ words_end

-- ---- what a turn writes

module _ {all d e : List ℕ} {n : ℕ} (g : HasRoom all d) where
  module _ {ws : List ℕ} {c : Cursor} {known : Setup} {xs : List Slim} {b : Block} (t : Turn ws c known xs b) (s : Begun all (slim_words xs) d e n) where
    pub part_room : HasRoom (part_words known (part_at ws b.start b.length)) (mid_of n (length e - n) e)
    part_room = room s g (part_words known (part_at ws b.start b.length)) (slim_words t.more) t.words

    pub part_next : {f : List ℕ} {m : ℕ} → WroteWords (part_words known (part_at ws b.start b.length)) (mid_of n (length e - n) e) f m
        → Begun all (slim_words t.more) d (put_mid n (length e - n) e f) (n + m)
    part_next = WordWriting.next s g (part_words known (part_at ws b.start b.length)) (slim_words t.more) t.words

  module _ (xs : List Slim) (end : slim_words xs ≡ end_marker ∷ []) (s : Begun all (slim_words xs) d e n) where
    pub end_room : HasRoom (end_marker ∷ []) (mid_of n (length e - n) e)
    end_room = room s g (end_marker ∷ []) [] end

    pub end_next : {f : List ℕ} {m : ℕ} → WroteWords (end_marker ∷ []) (mid_of n (length e - n) e) f m → WroteWords all d (put_mid n (length e - n) e f) (n + m)
    end_next w = finished (WordWriting.next s g (end_marker ∷ []) [] end w)
