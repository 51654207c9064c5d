-- How a spreadsheet program reads a line: a record of one field, by the grammar of RFC 4180, section 2. Where that ends a record
-- with CR LF, document 01 has the byte 0A.
use Rattle.std.specs.Prelude.{Bool, cond, ◌&&◌, ◌||◌, List, [], ◌∷◌, ◌++◌, ◌≡◌, ℕ, eqb, leb}
use Rattle.std.proofs.Math.Option.{Option, none, some}
use Rattle.text.specs.Ascii.{ascii}
use Rattle.sheet_head.specs.Head.{comma, quote}

abbrev pub is_between : ℕ → ℕ → ℕ → Bool
is_between from to b = leb from b && leb b to

-- "TEXTDATA = %x20-21 / %x23-2B / %x2D-7E"
abbrev pub is_text_data : ℕ → Bool
is_text_data b = is_between 0x20 0x21 b || (is_between 0x23 0x2B b || is_between 0x2D 0x7E b)

-- the end of the record, and no byte after it: nothing is left of the field
unfoldable pub line_end : List ℕ → Option (List ℕ)
line_end [] = none
line_end (b ∷ []) = cond (eqb b 0x0A) (some []) none
line_end (b ∷ (c ∷ bs)) = none

-- the bytes of the field, this one before the others
unfoldable pub preceded : ℕ → Option (List ℕ) → Option (List ℕ)
preceded b none = none
preceded b (some bs) = some (b ∷ bs)

-- "non-escaped = *TEXTDATA"
unfoldable pub non_escaped : List ℕ → Option (List ℕ)
non_escaped [] = none
non_escaped (b ∷ bs) = cond (is_text_data b) (preceded b (non_escaped bs)) (line_end (b ∷ bs))

-- "escaped = DQUOTE *(TEXTDATA / COMMA / CR / LF / 2DQUOTE) DQUOTE", after its first DQUOTE
unfoldable pub escaped : List ℕ → Option (List ℕ)
escaped [] = none
escaped (b ∷ []) = none
escaped (b ∷ (c ∷ bs)) =
    cond (eqb b quote)
    (cond (eqb c quote) (preceded quote (escaped bs)) (line_end (c ∷ bs)))
    (cond (is_text_data b || (eqb b comma || (eqb b 0x0D || eqb b 0x0A))) (preceded b (escaped (c ∷ bs))) none)

-- "field = (escaped / non-escaped)": the text of a record's one field; none where the bytes are no such record
unfoldable pub one_field : List ℕ → Option (List ℕ)
one_field [] = none
one_field (b ∷ bs) = cond (eqb b quote) (escaped bs) (non_escaped (b ∷ bs))

-- a line is read as the text; and it is the text as it stands where that would be read so
pub record ReadBack (line text : List ℕ) : Type 0 where
  pub reads : one_field line ≡ some text
  pub bare : one_field (text ++ ascii "\n") ≡ some text → line ≡ text ++ ascii "\n"
