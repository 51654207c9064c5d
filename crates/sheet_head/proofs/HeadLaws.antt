-- Laws of head lines: with quotes and without, what stands between quotes, how long a line is.
use mathlib.Core.Bool.{Bool, true, false, cond}
use mathlib.Core.List.{List, [], ◌∷◌, ◌++◌, append_assoc, map, flat_map}
use mathlib.Core.Path.{◌≡◌, refl, sym, ap, ◌∙◌}
use Prim.Native.Nat.{ℕ, suc, ◌+◌, ◌*◌, ◌≤◌, zero-le}
use native.Mathlib.Omega.{arith}
use lib.Dec.{eqb}
use lib.ListN.{length, length-append}
use Rattle.words.proofs.Choice.{or_neither}
use Rattle.text.specs.Ascii.{ascii}
use Rattle.text.specs.Decimal.{decimal}
use Rattle.text.specs.Text.{shown}
use Rattle.text.proofs.DecimalMeans.{decimal_digits}
use Rattle.text.proofs.Pieces.{flat_append}
use Rattle.sheet_head.specs.Head.{head_text, comma, quote, needs_quotes, doubled_byte, doubled, quoted, head_line}
use Rattle.sheet_head.proofs.NeedLaws.{digits_need}

pub with_quotes : (key text : List ℕ) → needs_quotes text ≡ true → quoted (head_text key text) ++ ascii "\n" ≡ head_line key text
unfolding head_line
with_quotes key text e = rw e

pub without : (key text : List ℕ) → needs_quotes text ≡ false → head_text key text ++ ascii "\n" ≡ head_line key text
unfolding head_line
without key text e = rw e

pub number_bare : (key : List ℕ) (n : ℕ) → head_text key (decimal n) ++ ascii "\n" ≡ head_line key (decimal n)
number_bare key n = without key (decimal n) (digits_need (decimal n) (decimal_digits n))

-- ---- between quotes

pub doubled_shown : (text : List ℕ) → flat_map (λ (b : ℕ). doubled_byte (shown b)) text ≡ doubled (map shown text)
unfolding flat_map
doubled_shown [] = refl
doubled_shown (b ∷ bs) = ap (λ (l : List ℕ). doubled_byte (shown b) ++ l) (doubled_shown bs)

doubled_none : (text : List ℕ) → needs_quotes text ≡ false → doubled text ≡ text
unfolding flat_map needs_quotes
doubled_none [] e = refl
doubled_none (b ∷ bs) e =
    let rest = or_neither (eqb b quote) (needs_quotes bs) (or_neither (eqb b comma) _ e).1 in
    rw rest.0 (ap (λ (l : List ℕ). b ∷ l) (doubled_none bs rest.1))

-- key, `=` and text, whose key has no quotes
doubled_head : (key text : List ℕ) → needs_quotes key ≡ false → doubled (head_text key text) ≡ head_text key (doubled text)
unfolding flat_map
doubled_head key text k =
    flat_append doubled_byte (key ++ ascii "=") text
    ∙ ap (λ (l : List ℕ). l ++ doubled text) (flat_append doubled_byte key (ascii "=") ∙ ap (λ (l : List ℕ). l ++ ascii "=") (doubled_none key k))

pub quoted_head : (key text : List ℕ) → needs_quotes key ≡ false → (quote ∷ []) ++ (key ++ ascii "=") ++ doubled text ++ ascii "\"\n" ≡ quoted (head_text key text) ++ ascii "\n"
quoted_head key text k = rw (doubled_head key text k) (sym (append_assoc (quote ∷ head_text key (doubled text)) (quote ∷ []) (ascii "\n")))

-- ---- how long a line is

doubled_length : (text : List ℕ) → length (doubled text) ≤ 2 * length text
unfolding flat_map
doubled_length [] = zero-le
doubled_length (b ∷ bs) = go (eqb b quote) (doubled_length bs)
  where
    go : (t : Bool) → length (doubled bs) ≤ 2 * length bs → length (cond t (quote ∷ (quote ∷ [])) (b ∷ []) ++ doubled bs) ≤ 2 * suc (length bs)
    go true h = omega arith
    go false h = omega arith

pub head_length : (key text : List ℕ) → needs_quotes key ≡ false → length (head_line key text) ≤ length key + 2 * length text + 4
unfolding head_line
head_length key text k = go (needs_quotes text)
  where
    go : (t : Bool) → length (cond t (quoted (head_text key text)) (head_text key text) ++ ascii "\n") ≤ length key + 2 * length text + 4
    go true =
        let all = ap length (doubled_head key text k) ∙ length-append (key ++ ascii "=") (doubled text) in
        simp length-append (omega (arith, all, length-append key (ascii "="), doubled_length text))
    go false = simp length-append (omega arith)
