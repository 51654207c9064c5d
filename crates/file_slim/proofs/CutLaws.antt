-- Slim forms as they are written, part by part, and how many words they have. Once for any row.
use mathlib.Core.Bool.{Bool, true, false}
use mathlib.Core.Path.{◌≡◌, refl, sym, ap, ◌∙◌}
use mathlib.Core.List.{List, [], ◌∷◌, ◌++◌, flatten, append-nil}
use Prim.Native.Nat.{ℕ, zero, suc, ◌+◌, ◌-◌, ◌*◌, ◌≤◌, ◌<◌}
use native.Mathlib.Nat.{zero-mul, suc-mul}
use native.Mathlib.Omega.{arith}
use lib.ListN.{length, get_or, take, drop, length-append, length-drop}
use lib.Seq.{take-nil, length-take-le, drop-drop}
use borrow.Author.Tests.{eq-eqb, ne_eqb}
use borrow.Rule.Slice.PartMut.{mid_of, put_mid}
use Rattle.words.specs.Words.{high, words_of, Holds}
use Rattle.file_rules.specs.declared.Row.{Row}
use Rattle.file_rules.specs.declared.Subs.{Subs}
use Rattle.file_rules.specs.Block.{least_of, records}
use Rattle.file_rules.specs.Slim.{counted, cut_to, cut_text, slim_records, head_by, slim_by, words_in}
use Rattle.file_rules.proofs.BlockLaws.{then_good, offset_good, recorded_says}
use Rattle.file_slim.specs.Cut.{WroteWords, HasRoom, Cuts}
use Rattle.file_slim.proofs.TextLaws.{text_short}
use Rattle.file_slim.proofs.WordWriting.{Begun, room, next}
use Rattle.std.specs.declared.result.Result.TheVariants.{Ok}

-- the words after the first of n, as `rest(front(b, n), 1)` hands them back
after_first : (n : ℕ) (ws : List ℕ) → drop 1 (take n ws) ≡ take (n - 1) (drop 1 ws)
after_first zero ws = refl
after_first (suc n) [] = sym (take-nil (suc n - 1))
after_first (suc n) (w ∷ ws) = let e : suc n - 1 ≡ n = omega arith in rw e

pub cut_rest : (n : ℕ) (ws : List ℕ) {part rest : List ℕ} → Holds (take n ws) part → Holds (drop 1 (words_of part)) rest → words_of rest ≡ take (n - 1) (drop 1 ws)
cut_rest n ws p q = q.words ∙ ap (drop 1) p.words ∙ after_first n ws

-- ---- what stands before the sub-blocks, by the kinds of rows

module _ (r : Row) (b : List ℕ) where
  pub head_exact : r.exact ≡ true → head_by r b ≡ b
  unfolding head_by
  head_exact x = rw x

  pub head_text : r.exact ≡ false → r.text ≡ true → head_by r b ≡ cut_text b
  unfolding head_by
  head_text x t = rw (x, t)

  pub head_plain : r.exact ≡ false → r.text ≡ false → r.subs.count ≡ 0 → head_by r b ≡ cut_to (least_of r b) b
  unfolding head_by
  head_plain x t e = rw (x, t, eq-eqb r.subs.count 0 e)

  pub head_subs : r.exact ≡ false → r.text ≡ false → (r.subs.count ≡ 0 → ⊥) → head_by r b ≡ counted r.least b ∷ (get_or b 1 0 ∷ [])
  unfolding head_by
  head_subs x t e = rw (x, t, ne_eqb r.subs.count 0 e)

-- ---- the sub-blocks as a loop writes them

-- the first of those that are left after i of p, of k words, and the others
records_step : (least p i o k : ℕ) (ws : List ℕ) → i < p → k ≡ high (get_or (drop o ws) 0 0)
    → flatten (slim_records least (p - i) (drop o ws)) ≡ cut_to least (drop o ws) ++ flatten (slim_records least (p - (i + 1)) (drop (o + k) ws))
unfolding slim_records flatten
records_step least p i o k ws h q =
    let f : p - i ≡ suc (p - (i + 1)) = omega arith in
    rw (f, slim_records, flatten, q, ← drop-drop (high (get_or (drop o ws) 0 0)) o ws)

module _ (least p i o : ℕ) (ws : List ℕ) {all d e : List ℕ} {n : ℕ} (s : Begun all (flatten (slim_records least (p - i) (drop o ws))) d e n) (g : HasRoom all d) (h : i < p) where
  pub record_room : HasRoom (cut_to least (drop o ws)) (mid_of n (length e - n) e)
  record_room = room s g (cut_to least (drop o ws)) (flatten (slim_records least (p - (i + 1)) (drop (o + high (get_or (drop o ws) 0 0)) ws))) (records_step least p i o _ ws h refl)

  pub record_next : {f : List ℕ} {m : ℕ} (k : ℕ) → k ≡ high (get_or (drop o ws) 0 0) → WroteWords (cut_to least (drop o ws)) (mid_of n (length e - n) e) f m
      → Begun all (flatten (slim_records least (p - (i + 1)) (drop (o + k) ws))) d (put_mid n (length e - n) e f) (n + m)
  record_next k q = next s g (cut_to least (drop o ws)) (flatten (slim_records least (p - (i + 1)) (drop (o + k) ws))) (records_step least p i o k ws h q)

pub records_end : (least left : ℕ) (ws : List ℕ) → left ≡ 0 → flatten (slim_records least left ws) ≡ []
unfolding slim_records flatten
records_end least left ws z = rw z

-- ---- how many words

pub cut_length : (n : ℕ) (b : List ℕ) → 1 ≤ n → n ≤ length b → length (cut_to n b) ≡ n
unfolding cut_to
cut_length n b h g = rw (length-take-le (n - 1) (drop 1 b) (rw length-drop (omega arith))) (omega arith)

pub records_length : (s : Subs) (k : ℕ) (ws : List ℕ) → 1 ≤ s.least → records s k ws ≡ Ok tt → length (flatten (slim_records s.least k ws)) ≡ k * s.least
unfolding records slim_records flatten
records_length s zero ws h e = sym (zero-mul s.least)
records_length s (suc k) ws h e =
    let p = then_good _ _ e in
    let q = recorded_says s ws p.0 in
    let more = records_length s k (drop (high (get_or ws 0 0)) ws) h (offset_good _ _ p.1) in
    rw (length-append, cut_length s.least ws h (omega (arith, q.least, q.fits)), suc-mul) (omega arith)

-- ---- all its words

pub slim_raw : (r : Row) (b raw : List ℕ) → words_in (slim_by r b raw) ≡ words_in (slim_by r b []) ++ raw
unfolding words_in slim_by
slim_raw r b raw = rw append-nil

pub slim_parts : (r : Row) (b : List ℕ) → words_in (slim_by r b []) ≡ head_by r b ++ flatten (slim_records r.subs.least r.subs.count (drop 2 b))
unfolding words_in slim_by
slim_parts r b = append-nil _

pub slim_length : (r : Row) (b : List ℕ) → length (words_in (slim_by r b [])) ≡ length (head_by r b) + length (flatten (slim_records r.subs.least r.subs.count (drop 2 b)))
slim_length r b = ap length (slim_parts r b) ∙ length-append (head_by r b) _

module _ {r : Row} {b : List ℕ} (c : Cuts r b) where
  head_alone : r.subs.count ≡ 0 → words_in (slim_by r b []) ≡ head_by r b
  unfolding slim_records flatten
  head_alone e = slim_parts r b ∙ rw e (append-nil _)

  pub exact_words : r.exact ≡ true → length (words_in (slim_by r b [])) ≡ length b
  exact_words x = ap length (head_alone (c.sound.whole x) ∙ head_exact r b x)

  pub text_words : r.exact ≡ false → r.text ≡ true → length (words_in (slim_by r b [])) ≡ length (cut_text b)
  text_words x t = ap length (head_alone (c.sound.text t).subs ∙ head_text r b x t)

  -- its least words are some, and fewer than 256
  pub least_some : r.exact ≡ false → 1 ≤ least_of r b
  unfolding least_of
  least_some x = omega (arith, c.sound.least c.listed)

  pub least_byte : r.exact ≡ false → least_of r b < 256
  least_byte x = omega (arith, c.long x, c.short x)

  pub plain_words : r.exact ≡ false → r.text ≡ false → length (words_in (slim_by r b [])) ≡ least_of r b
  plain_words x t = go r.subs.count refl
    where
      go : (k : ℕ) → r.subs.count ≡ k → length (words_in (slim_by r b [])) ≡ least_of r b
      go zero e = ap length (head_alone e ∙ head_plain r b x t e) ∙ cut_length (least_of r b) b (least_some x) (c.long x)
      go (suc k) e =
          let some : 0 < r.subs.count = omega arith in
          let n = records_length r.subs r.subs.count (drop 2 b) (c.sound.some some) c.subs in
          let h = ap length (head_subs r b x t (λ z. omega arith)) in
          slim_length r b ∙ omega (arith, c.sound.sum some, c.sound.fixed some b)

  -- a slim form is no longer than its block
  pub slim_short : length (words_in (slim_by r b [])) ≤ length b
  unfolding cut_text
  slim_short = go r.exact r.text refl refl
    where
      go : (x t : Bool) → r.exact ≡ x → r.text ≡ t → length (words_in (slim_by r b [])) ≤ length b
      go true t e f = omega (arith, exact_words e)
      go false true e f = omega (arith, text_words e f, text_short (drop 1 b), length-drop 1 b, least_some e, c.long e)
      go false false e f = omega (arith, plain_words e f, c.long e)
