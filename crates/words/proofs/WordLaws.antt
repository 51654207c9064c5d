-- The laws of words: how many there are, what stands at one, the words of a part, and back to the bytes.
-- With these nothing above has to look at a byte.
use mathlib.Core.Path.{◌≡◌, refl, sym, ap, ◌∙◌}
use mathlib.Core.List.{List, [], ◌∷◌, ◌++◌}
use Prim.Native.Nat.{ℕ, zero, suc, ◌+◌, ◌-◌, ◌*◌, ◌/◌, ◌%◌, ◌≤◌, ◌<◌}
use native.Mathlib.Nat.{add-zero}
use native.Mathlib.Omega.{arith}
use lib.ListN.{length, get_or, take, drop, length-take, length-drop, get_or-eq_default}
use lib.Seq.{drop-nil, take-nil, take_all, get_or-drop}
use Rattle.words.specs.Words.{low, high, words_of, bytes_of, long_at, Holds}

twice_suc : (i : ℕ) → 2 * suc i ≡ suc (suc (2 * i))
twice_suc i = omega arith

-- ---- words of bytes

pub words_length : (bs : List ℕ) → length (words_of bs) ≡ length bs / 2
unfolding words_of
words_length [] = refl
words_length (a ∷ []) = refl
words_length (a ∷ (b ∷ bs)) = omega (arith, words_length bs)

pub word_at : (bs : List ℕ) (i : ℕ) → i < length bs / 2 → get_or (words_of bs) i 0 ≡ get_or bs (2 * i) 0 + 256 * get_or bs (2 * i + 1) 0
unfolding words_of
word_at [] i h = omega arith
word_at (a ∷ []) i h = omega arith
word_at (a ∷ (b ∷ bs)) zero h = refl
word_at (a ∷ (b ∷ bs)) (suc i) h =
    let e : 2 * suc i + 1 ≡ suc (suc (2 * i + 1)) = omega arith in
    rw (e, twice_suc i) (word_at bs i (omega arith))

pub word_past : (bs : List ℕ) (i : ℕ) → length bs / 2 ≤ i → get_or (words_of bs) i 0 ≡ 0
word_past bs i h = get_or-eq_default (words_of bs) 0 (rw words_length h)

pub words_drop : (k : ℕ) (bs : List ℕ) → words_of (drop (2 * k) bs) ≡ drop k (words_of bs)
unfolding words_of
words_drop zero bs = refl
words_drop (suc k) [] = rw drop-nil
words_drop (suc k) (a ∷ []) = rw (twice_suc k)
words_drop (suc k) (a ∷ (b ∷ bs)) = rw (twice_suc k) (words_drop k bs)

pub words_take : (n : ℕ) (bs : List ℕ) → words_of (take (2 * n) bs) ≡ take n (words_of bs)
unfolding words_of
words_take zero bs = refl
words_take (suc n) [] = rw take-nil
words_take (suc n) (a ∷ []) = rw (twice_suc n)
words_take (suc n) (a ∷ (b ∷ bs)) = rw (twice_suc n, words_take n bs)

pub words_append : (xs bs : List ℕ) → length xs % 2 ≡ 0 → words_of (xs ++ bs) ≡ words_of xs ++ words_of bs
unfolding words_of
words_append [] bs h = refl
words_append (a ∷ []) bs h = absurd (omega arith)
words_append (a ∷ (b ∷ xs)) bs h = rw (words_append xs bs (omega arith))

-- ---- bytes of words

pub bytes_length : (ws : List ℕ) → length (bytes_of ws) ≡ 2 * length ws
unfolding bytes_of
bytes_length [] = refl
bytes_length (w ∷ ws) = omega (arith, bytes_length ws)

pub bytes_append : (vs ws : List ℕ) → bytes_of (vs ++ ws) ≡ bytes_of vs ++ bytes_of ws
unfolding bytes_of
bytes_append [] ws = refl
bytes_append (v ∷ vs) ws = rw (bytes_append vs ws)

pub bytes_drop : (k : ℕ) (ws : List ℕ) → bytes_of (drop k ws) ≡ drop (2 * k) (bytes_of ws)
unfolding bytes_of
bytes_drop zero ws = refl
bytes_drop (suc k) [] = rw drop-nil
bytes_drop (suc k) (w ∷ ws) = rw (twice_suc k) (bytes_drop k ws)

pub bytes_take : (n : ℕ) (ws : List ℕ) → bytes_of (take n ws) ≡ take (2 * n) (bytes_of ws)
unfolding bytes_of
bytes_take zero ws = refl
bytes_take (suc n) [] = rw take-nil
bytes_take (suc n) (w ∷ ws) = rw (twice_suc n, bytes_take n ws)

pub byte_low : (ws : List ℕ) (i : ℕ) → get_or (bytes_of ws) (2 * i) 0 ≡ low (get_or ws i 0)
unfolding bytes_of
byte_low [] i = refl
byte_low (w ∷ ws) zero = refl
byte_low (w ∷ ws) (suc i) = rw (twice_suc i) (byte_low ws i)

pub byte_high : (ws : List ℕ) (i : ℕ) → get_or (bytes_of ws) (2 * i + 1) 0 ≡ high (get_or ws i 0)
unfolding bytes_of
byte_high [] i = refl
byte_high (w ∷ ws) zero = refl
byte_high (w ∷ ws) (suc i) =
    let e : 2 * suc i + 1 ≡ suc (suc (2 * i + 1)) = omega arith in
    rw e (byte_high ws i)

-- ---- there and back

-- each number of a list is below n
abbrev pub Below : ℕ → List ℕ → Type 0
Below n l = (i : ℕ) → get_or l i 0 < n

pub below_drop : {n : ℕ} (k : ℕ) (l : List ℕ) → Below n l → Below n (drop k l)
below_drop k l s i = rw get_or-drop (s (k + i))

pub below_take : {n : ℕ} (k : ℕ) (l : List ℕ) → 0 < n → Below n l → Below n (take k l)
below_take zero l h s i = h
below_take (suc k) [] h s i = h
below_take (suc k) (x ∷ l) h s zero = s zero
below_take (suc k) (x ∷ l) h s (suc i) = below_take k l h (λ j. s (suc j)) i

pub words_below : (bs : List ℕ) → Below 256 bs → Below 65536 (words_of bs)
unfolding words_of
words_below [] s i = omega arith
words_below (a ∷ []) s i = omega arith
words_below (a ∷ (b ∷ bs)) s zero = omega (arith, s 0, s 1)
words_below (a ∷ (b ∷ bs)) s (suc i) = words_below bs (λ j. s (suc (suc j))) i

pub words_of_bytes : (ws : List ℕ) → words_of (bytes_of ws) ≡ ws
unfolding words_of bytes_of
words_of_bytes [] = refl
words_of_bytes (w ∷ ws) =
    let e : low w + 256 * high w ≡ w = omega arith in
    rw (e, words_of_bytes ws)

pub bytes_of_words : (bs : List ℕ) → Below 256 bs → length bs % 2 ≡ 0 → bytes_of (words_of bs) ≡ bs
unfolding words_of bytes_of
bytes_of_words [] s h = refl
bytes_of_words (a ∷ []) s h = absurd (omega arith)
bytes_of_words (a ∷ (b ∷ bs)) s h =
    let e : low (a + 256 * b) ≡ a = omega (arith, s 0) in
    let f : high (a + 256 * b) ≡ b = omega (arith, s 0) in
    rw (e, f, bytes_of_words bs (λ j. s (suc (suc j))) (omega arith))

-- ---- a part of the bytes: m words, from word k on

pub part_holds : (bs : List ℕ) (k m e : ℕ) → Below 256 bs → e ≡ 2 * m → k + m ≤ length bs / 2 → Holds (take m (drop k (words_of bs))) (take e (drop (2 * k) bs))
part_holds bs k m e s h fits =
    let part = take e (drop (2 * k) bs) in
    let said : words_of part ≡ take m (drop k (words_of bs)) = rw (h, words_take, words_drop) in
    let even : length part % 2 ≡ 0 = rw (length-take, length-drop) (omega arith) in
    record {
      words = said;
      bytes = sym (bytes_of_words part (below_take e (drop (2 * k) bs) (omega arith) (below_drop (2 * k) bs s)) even) ∙ ap bytes_of said;
    }

-- the same, up to the last word
pub rest_holds : (bs : List ℕ) (k n e : ℕ) → Below 256 bs → n ≡ length (words_of bs) → k ≤ n → e ≡ 2 * n - 2 * k → Holds (drop k (words_of bs)) (take e (drop (2 * k) bs))
rest_holds bs k n e s h fits d =
    rw (take_all (n - k) (drop k (words_of bs)) (rw length-drop (omega arith))) at (part_holds bs k (n - k) e s (omega arith) (omega (arith, words_length bs)))

-- the 32-bit number at word i, from the two words at the front of those from i on
pub long_from : (ws vs : List ℕ) (i x y : ℕ) → vs ≡ drop i ws → x ≡ get_or vs 0 0 → y ≡ get_or vs 1 0 → x + 65536 * y ≡ long_at ws i
unfolding long_at
long_from ws vs i x y e f g = rw (f, g, e) (simp (get_or-drop, add-zero))
