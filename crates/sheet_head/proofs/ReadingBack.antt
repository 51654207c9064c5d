-- A head line, read as a record of one field, is its key, `=` and its text; and it stands between quotes only where that text would not
-- be read so without them.
use mathlib.Core.Bool.{Bool, true, false, cond, ◌||◌, true≢false}
use mathlib.Core.List.{List, [], ◌∷◌, ◌++◌, append_assoc, map, flat_map}
use mathlib.Core.Option.{none, some, some-ne-none}
use mathlib.Core.Path.{◌≡◌, refl, sym, ap, ◌∙◌}
use Prim.Native.Nat.{ℕ, ◌≤◌, ◌<◌}
use native.Mathlib.Nat.{not-suc-le-zero}
use native.Mathlib.Omega.{arith}
use borrow.Author.Tests.{eqb-true, eqb-false}
use lib.Dec.{eqb}
use lib.ListN.{length, length-append}
use Rattle.words.proofs.Choice.{or_neither}
use Rattle.text.specs.Ascii.{ascii}
use Rattle.text.specs.Decimal.{decimal}
use Rattle.text.specs.Text.{shown}
use Rattle.text.proofs.DecimalMeans.{decimal_digits}
use Rattle.sheet_head.specs.Head.{head_text, comma, quote, needs_quotes, doubled, quoted, head_line}
use Rattle.sheet_head.specs.Rfc4180.{is_text_data, line_end, preceded, non_escaped, escaped, one_field, ReadBack}
use Rattle.sheet_head.proofs.Printable.{Printable, shown_printable, digits_printable, printable_both, is_printable, tested, data_byte}

-- ---- a text without quotes

plain_reads : (text : List ℕ) → Printable text → needs_quotes text ≡ false → non_escaped (text ++ ascii "\n") ≡ some text
unfolding needs_quotes non_escaped line_end preceded
plain_reads [] p e = refl
plain_reads (b ∷ bs) p e =
    let at = or_neither (eqb b comma) _ e in
    let rest = or_neither (eqb b quote) _ at.1 in
    rw (data_byte b p.0.0 p.0.1 (eqb-false b comma at.0) (eqb-false b quote rest.0), plain_reads bs p.1 rest.1)

-- a record does not end before its last byte
end_none : (b : ℕ) (l : List ℕ) → 0 < length l → line_end (b ∷ l) ≡ none
unfolding line_end
end_none b [] h = absurd (not-suc-le-zero h)
end_none b (c ∷ l) h = refl

-- a text that holds a comma or a quote is not read without quotes
plain_none : (text : List ℕ) → needs_quotes text ≡ true → non_escaped (text ++ ascii "\n") ≡ none
unfolding needs_quotes non_escaped preceded
plain_none [] e = absurd (true≢false (sym e))
plain_none (b ∷ bs) e = go (eqb b comma) (eqb b quote) (is_text_data b) refl refl refl e (plain_none bs)
  where
    some_left : 0 < length (bs ++ ascii "\n")
    some_left = rw length-append (omega arith)

    go : (s t d : Bool) → eqb b comma ≡ s → eqb b quote ≡ t → is_text_data b ≡ d → (s || (t || needs_quotes bs)) ≡ true
        → (needs_quotes bs ≡ true → non_escaped (bs ++ ascii "\n") ≡ none) → cond d (preceded b (non_escaped (bs ++ ascii "\n"))) (line_end (b ∷ (bs ++ ascii "\n"))) ≡ none
    go s t false p q r e more = end_none b (bs ++ ascii "\n") some_left
    go true t true p q r e more = absurd (true≢false (sym r ∙ ap is_text_data (eqb-true b comma p)))
    go false true true p q r e more = absurd (true≢false (sym r ∙ ap is_text_data (eqb-true b quote q)))
    go false false true p q r e more = rw (more e)

-- ---- a text between quotes

escaped_byte : (b : ℕ) (l : List ℕ) → 0x20 ≤ b → b ≤ 0x7E → eqb b quote ≡ false → 0 < length l → escaped (b ∷ l) ≡ preceded b (escaped l)
unfolding escaped
escaped_byte b [] h k q s = absurd (not-suc-le-zero s)
escaped_byte b (c ∷ l) h k q s = rw q (go (eqb b comma) refl)
  where
    go : (t : Bool) → eqb b comma ≡ t → cond (is_text_data b || (t || (eqb b 0x0D || eqb b 0x0A))) (preceded b (escaped (c ∷ l))) none ≡ preceded b (escaped (c ∷ l))
    go true e = rw (eqb-true b comma e)
    go false e = rw (data_byte b h k (eqb-false b comma e) (eqb-false b quote q))

quoted_reads : (text : List ℕ) → Printable text → escaped (doubled text ++ (quote ∷ ascii "\n")) ≡ some text
unfolding flat_map escaped preceded line_end
quoted_reads [] p = refl
quoted_reads (b ∷ bs) p = go (eqb b quote) refl (quoted_reads bs p.1)
  where
    left : List ℕ
    left = doubled bs ++ (quote ∷ ascii "\n")

    go : (t : Bool) → eqb b quote ≡ t → escaped left ≡ some bs → escaped (cond t (quote ∷ (quote ∷ [])) (b ∷ []) ++ doubled bs ++ (quote ∷ ascii "\n")) ≡ some (b ∷ bs)
    go true e more = rw (eqb-true b quote e, more)
    go false e more = escaped_byte b left p.0.0 p.0.1 e (rw length-append (omega arith)) ∙ ap (preceded b) more

-- ---- head lines

needs_both : (a b : List ℕ) → needs_quotes (a ++ b) ≡ (needs_quotes a || needs_quotes b)
unfolding needs_quotes
needs_both [] b = refl
needs_both (x ∷ a) b = go (eqb x comma) (eqb x quote) (needs_both a b)
  where
    go : (s t : Bool) → needs_quotes (a ++ b) ≡ (needs_quotes a || needs_quotes b) → (s || (t || needs_quotes (a ++ b))) ≡ ((s || (t || needs_quotes a)) || needs_quotes b)
    go true t e = refl
    go false true e = refl
    go false false e = e

-- a key does not begin with a quote
by_key : (key text : List ℕ) → needs_quotes key ≡ false → one_field (head_text key text ++ ascii "\n") ≡ non_escaped (head_text key text ++ ascii "\n")
unfolding needs_quotes one_field
by_key [] text k = refl
by_key (b ∷ key) text k = rw (or_neither (eqb b quote) _ (or_neither (eqb b comma) _ k).1).0

module _ (key : List ℕ) (h : is_printable key ≡ true) (k : needs_quotes key ≡ false) where
  head_needs : (text : List ℕ) → needs_quotes (head_text key text) ≡ needs_quotes text
  unfolding needs_quotes
  head_needs text = rw (needs_both (key ++ ascii "=") text, needs_both key (ascii "="), k)

  read_back : (text : List ℕ) → Printable text → ReadBack (head_line key text) (head_text key text)
  unfolding head_line one_field
  read_back text p = go (needs_quotes text) refl
    where
      line : List ℕ
      line = head_text key text

      printable : Printable line
      printable = printable_both (key ++ ascii "=") text (printable_both key (ascii "=") (tested key h) ((omega arith, omega arith), tt)) p

      go : (t : Bool) → needs_quotes text ≡ t → ReadBack (cond t (quoted line) line ++ ascii "\n") line
      go true e = record {
        reads = ap escaped (append_assoc (doubled line) (quote ∷ []) (ascii "\n")) ∙ quoted_reads line printable;
        bare = λ r. absurd (some-ne-none line (sym r ∙ by_key key text k ∙ plain_none line (head_needs text ∙ e)));
      }
      go false e = record { reads = by_key key text k ∙ plain_reads line printable (head_needs text ∙ e); bare = λ r. refl }

  pub number_reads : (n : ℕ) → ReadBack (head_line key (decimal n)) (head_text key (decimal n))
  number_reads n = read_back (decimal n) (digits_printable (decimal n) (decimal_digits n))

  pub text_reads : (text : List ℕ) → ReadBack (head_line key (map shown text)) (head_text key (map shown text))
  text_reads text = read_back (map shown text) (shown_printable text)
