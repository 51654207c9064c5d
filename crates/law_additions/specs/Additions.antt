-- What may be added to a file: "Lengthen its table blocks or profile records at their ends with any words, counts set to match;
-- alter bytes of the title block behind its first null; put whole blocks of ids we don't list, first word not FFFF, at block
-- boundaries, but not before the file header, between a logger header and its contents, or after the end marker. Histograms and
-- logger contents stay as they are" (the user's third demand).
use Rattle.std.specs.Prelude.{Bool, true, cond, not, ◌&&◌, List, [], ◌∷◌, ◌++◌, ◌≡◌, ℕ, zero, suc, ◌%◌, ◌≤◌, eqb, ltb, length, get_or}
use Rattle.words.specs.Words.{low, high, words_of, bytes_of}
use Rattle.text.specs.Text.{before_null}
use Rattle.file_walk.specs.Walk.{end_marker, long_form, Part, parts_of, walked, laid_out}
use Rattle.file_rules.specs.declared.Row.{Row}
use Rattle.file_rules.specs.Block.{nulled}
use Rattle.file_rules.specs.Slim.{counted}
use Rattle.file_tables.specs.Table.{kind_of}

-- ---- which blocks

-- what kind of block it is, by its id: the same in every model
abbrev pub kind_in : List ℕ → Row
kind_in b = kind_of (low (get_or b 0 0))

-- "Lengthen its table blocks": a listed block, but not a histogram, and not a text, which has a rule of its own
unfoldable pub may_grow : Row → Bool
may_grow r = r.listed && (not r.exact && not r.text)

-- "the title block"
unfoldable pub is_text : Row → Bool
is_text r = r.listed && r.text

-- "For ids 0B and 14 the length is always in word 1 .. For others the length is nn, or word 1 when nn is 0"
unfoldable pub count_in : List ℕ → ℕ
count_in b = cond (long_form (get_or b 0 0)) (get_or b 1 0) (high (get_or b 0 0))

-- "whole blocks of ids we don't list, first word not FFFF": as many words as it says, and one at least
unfoldable pub may_be_put : List ℕ → Bool
may_be_put b = not (kind_in b).listed && (not (eqb (get_or b 0 0) end_marker) && (ltb 0 (length b) && eqb (count_in b) (length b)))

-- ---- what may become of a block

-- "counts set to match": the first word of a block or a sub-block says how many words it has
unfoldable pub recounted : List ℕ → List ℕ
recounted [] = []
recounted (h ∷ t) = counted (suc (length t)) (h ∷ t) ∷ t

-- k profile records, each with any words at its end, and then any words at the end of their block
pub data Records : ℕ → List ℕ → List ℕ → Type 0 where
  rest : (t more : List ℕ) → Records zero t (t ++ more)
  next : {k : ℕ} (h : ℕ) (s more : List ℕ) {t t' : List ℕ} → high h ≡ suc (length s) → Records k t t'
      → Records (suc k) (h ∷ s ++ t) (recounted (h ∷ s ++ more) ++ t')

-- a block: as it was; a table block, lengthened at its end and at the ends of its records; or the title block, with any words in which
-- the same text stands before a null. "Histograms and logger contents stay as they are": raw words are those that were there
pub data Grown : Part → Part → Type 0 where
  as_is : (p : Part) → Grown p p
  table : (h w : ℕ) {t t' : List ℕ} (raw : List ℕ) → may_grow (kind_of (low h)) ≡ true → Records (kind_of (low h)).subs.count t t'
      → Grown (record { words = h ∷ (w ∷ t); raw = raw }) (record { words = recounted (h ∷ (w ∷ t')); raw = raw })
  title : (h : ℕ) (t t' raw : List ℕ) → is_text (kind_of (low h)) ≡ true → nulled t' ≡ true → before_null (bytes_of t') ≡ before_null (bytes_of t)
      → Grown (record { words = h ∷ t; raw = raw }) (record { words = recounted (h ∷ t'); raw = raw })

-- ---- what may become of a file

-- blocks, one after another, and "at block boundaries" others that are put there
pub data Adds : List Part → List Part → Type 0 where
  end : Adds [] []
  block : {p p' : Part} {ps ps' : List Part} → Grown p p' → Adds ps ps' → Adds (p ∷ ps) (p' ∷ ps')
  put : (b : List ℕ) {ps ps' : List Part} → may_be_put b ≡ true → Adds ps ps' → Adds ps (record { words = b; raw = [] } ∷ ps')

-- "not before the file header": the first block is the first
pub data Additions : List Part → List Part → Type 0 where
  additions : {p p' : Part} {ps ps' : List Part} → Grown p p' → Adds ps ps' → Additions (p ∷ ps) (p' ∷ ps')

-- the blocks of a file, each with the raw words after it
unfoldable pub parts_in : List ℕ → List Part
parts_in file = parts_of (walked (words_of file))

-- g is f with additions: the words of the new blocks and, after them, the end marker; "While .. the file within 65,536 bytes". A count
-- is one byte of a word, so it is within 255
pub record Added (f g : List ℕ) : Type 0 where
  pub parts : List Part
  pub adds : Additions (parts_in f) parts
  pub words : words_of g ≡ laid_out parts
  pub even : length g % 2 ≡ 0
  pub short : length g ≤ 65536
