-- The words of the slim copy, block by block, and that there are no more of them than the file has.
use mathlib.Core.Bool.{Bool, true, false, cond, false≢true}
use mathlib.Core.List.{List, [], ◌∷◌, ◌++◌, append_assoc, append-nil, flat_map}
use mathlib.Core.Path.{◌≡◌, refl, sym, ap, subst⁻¹, ◌∙◌}
use Prim.Native.Nat.{ℕ, zero, suc, ◌+◌, ◌≤◌}
use native.Mathlib.Omega.{arith}
use lib.ListN.{length, get_or, take, drop, length-append, length-drop}
use lib.Seq.{length-take-le}
use Rattle.words.specs.Words.{low, words_of, Holds}
use Rattle.words.proofs.WordLaws.{Below, words_below}
use Rattle.text.proofs.Pieces.{flat_append}
use Rattle.file_walk.specs.declared.Cursor.{Cursor}
use Rattle.file_walk.specs.declared.Stop.TheVariants.{End, Refused}
use Rattle.file_walk.specs.declared.Block.{Block}
use Rattle.file_walk.specs.declared.Stop.{Stop}
use Rattle.file_walk.specs.Walk.{step_at, parts_of, Part, raw_of, end_marker}
use Rattle.file_walk.proofs.Steps.{walk_from, walk_over, step_block, end_bounds}
use Rattle.file_rules.specs.declared.Row.{Row}
use Rattle.file_rules.specs.Slim.{Slim, slim_by, words_in}
use Rattle.file_order.specs.declared.setup.Setup.{Setup}
use Rattle.file_tables.specs.Table.{row_of, kind_of}
use Rattle.file_order.specs.Setup.{row_for, slim_of, learnt}
use Rattle.file_order.proofs.KnownLaws.{row_listed, learnt_none, learnt_raw}
use Rattle.file_slim.specs.Cut.{Cuts}
use Rattle.file_slim.proofs.CutLaws.{slim_raw, slim_short}
use Rattle.call_check.specs.Slims.{slim_part, known_from, slims, slims_in}
use Rattle.file_read.specs.Read.{part_at}
use Rattle.call_check.specs.Judge.{judge, surveyed}
use Rattle.call_check.proofs.FoundWords.{accepted_few}
use Rattle.call_check.specs.declared.judge.State.{State}
use Rattle.call_check.proofs.Onward.{refused, no_fuel, Passes, passes, known_through, slims_over, slims_block, onward}
use Rattle.call_slim.proofs.Cuttable.{inside}
use Rattle.call_slim.specs.Copy.{slim_words}
use Rattle.call_slim.specs.Parts.{part_words, IsAccepted, Within}
use Rattle.std.specs.declared.result.Result.TheVariants.{Ok, Err}
use Rattle.std.specs.declared.result.Result.{Result}

-- ---- what is known after a block

-- a block that is not listed says nothing
unlisted_says : (s : Setup) (b raw : List ℕ) → (kind_of (low (get_or b 0 0))).listed ≡ false → learnt s (slim_of s b raw) ≡ s
unfolding row_of
unlisted_says s b raw l = learnt_none s b raw (no 0x02 refl) (no 0x04 refl) (no 0x05 refl) (no 0x09 refl)
  where
    no : (id : ℕ) → (kind_of id).listed ≡ true → low (get_or b 0 0) ≡ id → ⊥
    no id t e = false≢true (sym l ∙ ap (λ (i : ℕ). (kind_of i).listed) e ∙ t)

known_by : (s : Setup) (p : Part) → learnt s (slim_of s p.words []) ≡ known_from s p
unfolding known_from
known_by s p = go (kind_of (low (get_or p.words 0 0))).listed refl
  where
    go : (t : Bool) → (kind_of (low (get_or p.words 0 0))).listed ≡ t → learnt s (slim_of s p.words []) ≡ cond t (learnt s (slim_of s p.words p.raw)) s
    go true l = learnt_raw s p.words p.raw
    go false l = unlisted_says s p.words [] l

-- of the block that was read
pub known_at : (ws : List ℕ) (known : Setup) (start len : ℕ) {part : List ℕ} {k : Setup} → Holds (take len (drop start ws)) part
    → k ≡ learnt known (slim_of known (words_of part) []) → k ≡ known_from known (part_at ws start len)
unfolding part_at
known_at ws known start len p e = e ∙ ap (λ (b : List ℕ). learnt known (slim_of known b [])) p.words ∙ known_by known (part_at ws start len)

-- ---- its words in the slim copy

module _ (s : Setup) (p : Part) where
  pub part_unlisted : (row_for s (get_or p.words 0 0)).listed ≡ false → part_words s p ≡ []
  unfolding part_words slim_part flat_map
  part_unlisted l = rw (sym (row_listed s (get_or p.words 0 0)) ∙ l)

  pub part_listed : (row_for s (get_or p.words 0 0)).listed ≡ true
      → part_words s p ≡ words_in (slim_by (row_for s (get_or p.words 0 0)) p.words []) ++ p.raw
  unfolding part_words slim_part flat_map slim_of
  part_listed l =
      ap (λ (t : Bool). flat_map words_in (cond t (slim_of s p.words p.raw ∷ []) [])) (sym (row_listed s (get_or p.words 0 0)) ∙ l) ∙ append-nil _
      ∙ slim_raw (row_for s (get_or p.words 0 0)) p.words p.raw

-- what is left to write: the block's words, and then what is left after it
pub words_split : (s : Setup) (p : Part) (more : List Slim) → slim_words (slim_part s p ++ more) ≡ part_words s p ++ slim_words more
unfolding slim_words part_words
words_split s p more = rw (flat_append words_in (slim_part s p) more, append_assoc)

pub words_end : slim_words [] ≡ end_marker ∷ []
unfolding slim_words flat_map
words_end = refl

-- ---- a block as the code finds it: its words b, and the row of its id

pub record Read (ws : List ℕ) (known : Setup) (start len : ℕ) (b : List ℕ) (row : Row) : Type 0 where
  pub words : b ≡ take len (drop start ws)
  pub row_is : row ≡ row_for known (get_or b 0 0)

pub read_at : (ws : List ℕ) (known : Setup) (start len : ℕ) {part : List ℕ} {row : Row} → Holds (take len (drop start ws)) part
    → row ≡ row_for known (get_or (words_of part) 0 0) → Read ws known start len (words_of part) row
read_at ws known start len p r = record { words = p.words; row_is = r }

module _ {ws : List ℕ} {known : Setup} {start len : ℕ} {b : List ℕ} {row : Row} (t : Read ws known start len b row) where
  own_row : row ≡ row_for known (get_or (take len (drop start ws)) 0 0)
  own_row = t.row_is ∙ ap (λ (l : List ℕ). row_for known (get_or l 0 0)) t.words

  pub read_unlisted : row.listed ≡ false → part_words known (part_at ws start len) ≡ []
  unfolding part_at
  read_unlisted l = part_unlisted known (part_at ws start len) (sym (ap (λ (r : Row). r.listed) own_row) ∙ l)

  pub read_listed : row.listed ≡ true → part_words known (part_at ws start len) ≡ words_in (slim_by row b []) ++ take (raw_of b) (drop (start + len) ws)
  unfolding part_at
  read_listed l =
      part_listed known (part_at ws start len) (sym (ap (λ (r : Row). r.listed) own_row) ∙ l)
      ∙ sym (ap (λ (r : Row). words_in (slim_by r b []) ++ take (raw_of b) (drop (start + len) ws)) own_row
      ∙ ap (λ (l : List ℕ). words_in (slim_by (row_for known (get_or (take len (drop start ws)) 0 0)) l []) ++ take (raw_of l) (drop (start + len) ws)) t.words)

  -- what is known after it
  module _ (i : Within ws known start len) where
    pub read_cuts : row.listed ≡ true → Cuts row b
    read_cuts l =
        subst⁻¹ (λ (r : Row). Cuts r b) own_row
        (subst⁻¹ (Cuts (row_for known (get_or (take len (drop start ws)) 0 0))) t.words (i.good (sym (ap (λ (r : Row). r.listed) own_row) ∙ l)))

    -- how many words these are
    pub read_length : row.listed ≡ true → length (part_words known (part_at ws start len)) ≡ length (words_in (slim_by row b [])) + raw_of b
    read_length l =
        let raw : length (take (raw_of b) (drop (start + len) ws)) ≡ raw_of b = length-take-le _ _ (omega (arith, i.fits, ap raw_of t.words, length-drop (start + len) ws)) in
        ap length (read_listed l) ∙ length-append (words_in (slim_by row b [])) _ ∙ omega (arith, raw)

    pub read_short : length (part_words known (part_at ws start len)) ≤ len + raw_of b
    read_short = go row.listed refl
      where
        go : (x : Bool) → row.listed ≡ x → length (part_words known (part_at ws start len)) ≤ len + raw_of b
        go false l = omega (arith, ap length (read_unlisted l))
        go true l =
            omega (arith, read_length l, slim_short (read_cuts l), ap length t.words, length-take-le len (drop start ws) (omega (arith, i.fits, length-drop start ws)))

-- ---- a slim copy is no longer than its file

through_known : {ws : List ℕ} {m : ℕ} {s s' : State} {start len : ℕ} {next : Cursor} → (x : Passes ws m s s' start len next) → x.state.setup ≡ known_from s.setup (part_at ws start len)
unfolding part_at
through_known {ws} {s = s} {start = start} {len} x = known_through s x.state start (part_at ws start len) x.through

walk_short : (ws : List ℕ) → Below 65536 ws → length ws ≤ 32768 → (m : ℕ) (c : Cursor) (s s' : State) → judge s (walk_from m ws c) ≡ Ok s'
    → length (slim_words (slims s.setup (parts_of (walk_from m ws c)))) + c.at ≤ length ws
walk_short ws below few zero c s s' e = absurd (no_fuel ws s s' c e)
walk_short ws below few (suc m) c s s' e = go (step_at ws c) refl (walk_short ws below few m)
  where
    go : (x : Result Block Stop) → step_at ws c ≡ x → ((c : Cursor) (s s' : State) → judge s (walk_from m ws c) ≡ Ok s' → length (slim_words (slims s.setup (parts_of (walk_from m ws c)))) + c.at ≤ length ws)
        → length (slim_words (slims s.setup (parts_of (walk_from (suc m) ws c)))) + c.at ≤ length ws
    go (Err (Refused x)) q ih = absurd (refused s s' x (sym (ap (judge s) (walk_over m ws c (Refused x) q)) ∙ e))
    go (Err (End p left)) q ih =
        let b = end_bounds ws c p left q in
        omega (arith, b.0, b.1, ap length (ap slim_words (slims_over m ws c s.setup (End p left) q) ∙ words_end))
    go (Ok b) q ih =
        let x = passes ws m c s s' b q e in
        let p = step_block ws c b q in
        let part = part_at ws b.start b.length in
        let later = slims x.state.setup (parts_of (walk_from m ws b.next)) in
        let known : x.state.setup ≡ known_from s.setup part = through_known x in
        let words : slim_words (slims s.setup (parts_of (walk_from (suc m) ws c))) ≡ part_words s.setup part ++ slim_words later =
        rw known (ap slim_words (slims_block m ws c s.setup b q) ∙ words_split s.setup part (slims (known_from s.setup part) (parts_of (walk_from m ws b.next)))) in
        omega (
          arith,
          ap length words,
          length-append (part_words s.setup part) (slim_words later),
          read_short (record { words = refl; row_is = refl }) (inside below few x),
          p.here,
          p.on,
          ih b.next x.state s' x.goes,
        )

pub no_longer : (file : List ℕ) (s : State) → surveyed file ≡ Ok s → Below 256 file → length (slim_words (slims_in file)) ≤ length (words_of file)
no_longer file s e below =
    let o = onward file s e in
    omega (arith, walk_short (words_of file) (words_below file below) (accepted_few file s e) o.fuel (record { at = 0; last = 0 }) o.state o.last o.goes, ap (λ (xs : List Slim). length (slim_words xs)) (ap (λ (k : Setup). slims k (parts_of (walk_from o.fuel (words_of file) (record { at = 0; last = 0 })))) o.known_is ∙ o.left))

-- so it has at most 32,768 words
pub copy_few : (file : List ℕ) → Below 256 file → IsAccepted file → length (slim_words (slims_in file)) ≤ 32768
copy_few file below a = omega (arith, no_longer file a.state a.passed below, accepted_few file a.state a.passed)
