-- Writing words one after another.
use mathlib.Core.Path.{◌≡◌, refl, sym, ap, subst, ◌∙◌}
use mathlib.Core.List.{List, [], ◌++◌, append_assoc, append-nil}
use Prim.Native.Nat.{ℕ, ◌+◌, ◌-◌, ◌≤◌, zero-le}
use native.Mathlib.Omega.{arith}
use lib.ListN.{length, length-append}
use borrow.Rule.Slice.PartMut.{mid_of, put_mid}
use Rattle.words.specs.Words.{bytes_of}
use Rattle.text.specs.Text.{Wrote}
use Rattle.words.proofs.WordLaws.{bytes_length, bytes_append}
use Rattle.text.proofs.Writing.{◌then◌, nothing, text_is, bounded, same_room, rest_length}
use Rattle.file_slim.specs.Cut.{WroteWords, HasRoom}

-- what is written as the bytes of words
pub by_words : (u : List ℕ) {d e : List ℕ} {n p : ℕ} → Wrote (bytes_of u) p d e n → WroteWords u d e n
by_words u w = bounded w (omega (arith, bytes_length u, w.counted))

-- the same words said another way
pub words_are : {u v d e : List ℕ} {n : ℕ} → WroteWords u d e n → u ≡ v → WroteWords v d e n
words_are {d = d} {e} {n} w h = subst (λ (x : List ℕ). WroteWords x d e n) h w

module _ (u v : List ℕ) {d d₁ : List ℕ} {n : ℕ} where
  pub words_then : {e : List ℕ} {m : ℕ} → WroteWords u d d₁ n → WroteWords v (mid_of n (length d₁ - n) d₁) e m
      → WroteWords (u ++ v) d (put_mid n (length d₁ - n) d₁ e) (n + m)
  words_then w x = by_words (u ++ v) (text_is (w then x) (sym (bytes_append u v)))

  -- what is left of the output has room for the words that come next
  pub room_next : WroteWords u d d₁ n → HasRoom (u ++ v) d → HasRoom v (mid_of n (length d₁ - n) d₁)
  room_next w h =
      let l = length-append u v in
      rw (rest_length n d₁, same_room w (omega (arith, w.within))) (omega (arith, w.within))

-- ---- words that a loop writes

-- a part of `all` is written, and `left` is to come
pub record Begun (all left before after : List ℕ) (n : ℕ) : Type 0 where
  pub written : List ℕ
  pub wrote : WroteWords written before after n
  pub ahead : written ++ left ≡ all
  pub inside : n ≤ length before
  pub same : length after ≡ length before

pub begin : (all d : List ℕ) → Begun all all d d 0
unfolding bytes_of
begin all d = record { written = []; wrote = nothing d; ahead = refl; inside = zero-le; same = refl }

-- u comes next, and then `more`
module _ {all left d e : List ℕ} {n : ℕ} (s : Begun all left d e n) (g : HasRoom all d) (u more : List ℕ) (q : left ≡ u ++ more) where
  pub room : HasRoom u (mid_of n (length e - n) e)
  room = omega (arith, room_next s.written left s.wrote (rw s.ahead g), rw length-append at (ap length q))

  pub next : {f : List ℕ} {m : ℕ} → WroteWords u (mid_of n (length e - n) e) f m → Begun all more d (put_mid n (length e - n) e f) (n + m)
  next {f} {m} w =
      let wrote = words_then s.written u s.wrote w in
      let ahead : (s.written ++ u) ++ more ≡ all = rw (append_assoc, ← q) s.ahead in
      let inside : n + m ≤ length d = omega (arith, wrote.within, length-append (s.written ++ u) more, ap length ahead) in
      record { written = s.written ++ u; wrote = wrote; ahead = ahead; inside = inside; same = same_room wrote inside }

pub finished : {all d e : List ℕ} {n : ℕ} → Begun all [] d e n → WroteWords all d e n
finished s = words_are s.wrote (sym (append-nil _) ∙ s.ahead)
