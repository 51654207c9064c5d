-- The title of an accepted file, as the code finds it in the file, is the text of its slim block 03.
use mathlib.Core.Bool.{Bool, true, false, cond}
use mathlib.Core.List.{List}
use mathlib.Core.Path.{◌≡◌, refl, sym, ap, ◌∙◌}
use Prim.Native.Nat.{ℕ, ◌+◌, ◌*◌, ◌≤◌}
use native.Mathlib.Omega.{arith}
use lib.Dec.{eqb, lit≤}
use lib.ListN.{length, take, drop, length-take, length-drop}
use denote.Ref.{Bor}
use borrow.Author.Tests.{eqb-false, eq-eqb, ne_eqb}
use Rattle.words.specs.Words.{words_of, bytes_of}
use Rattle.words.proofs.Choice.{cond_second}
use Rattle.words.proofs.WordLaws.{Below, bytes_drop, bytes_of_words}
use Rattle.text.specs.Text.{before_null}
use Rattle.file_refusal.specs.declared.Refusal.{Refusal}
use Rattle.file_tables.specs.Table.{row_of}
use Rattle.call_check.specs.declared.judge.State.{State}
use Rattle.call_check.specs.Judge.{surveyed}
use Rattle.call_check.specs.Starts.{place_of}
use Rattle.call_check.specs.Slims.{slims_in, slim_after, slim_at}
use Rattle.call_check.proofs.StartLaws.{start_of, own}
use Rattle.call_check.proofs.Found.{found}
use Rattle.call_check.proofs.FoundWords.{accepted_fits, accepted_few}
use Rattle.text.proofs.Nulls.{text_front}
use Rattle.call_title.proofs.Texts.{found_text}
use Rattle.call_title.specs.declared.Span.{Span}
use Rattle.std.specs.declared.option.Option.TheVariants.{None}
use Rattle.std.specs.declared.option.Option.{Option}
use Rattle.call_title.specs.Title.{title_text, span, text_at, title_in, title_at, seen, part_of, handed, title_of, Titled}
use Rattle.std.specs.declared.result.Result.TheVariants.{Ok, Err}
use Rattle.std.specs.declared.result.Result.{Result}

-- ---- the title of a file

-- the two cases of a text: none, or n bytes from byte `at` on
pub text_none : (start : ℕ) (text : List ℕ) → length text ≡ 0 → text_at start text ≡ None
unfolding text_at
text_none start text e = rw (eq-eqb (length text) 0 e)

pub text_some : (start : ℕ) (text : List ℕ) (at : ℕ) → (length text ≡ 0 → ⊥) → at ≡ 2 * (start + 1) → text_at start text ≡ span at (length text)
unfolding text_at
text_some start text at e q = rw (ne_eqb (length text) 0 e, q)

pub title_denied : {x : Refusal} (file : List ℕ) → surveyed file ≡ Err x → title_at file ≡ None
unfolding title_at title_in
title_denied file e = rw e

module _ (file : List ℕ) (s : State) (e : surveyed file ≡ Ok s) where
  title_passed : title_at file ≡ text_at s.starts.title (title_text (slims_in file))
  unfolding title_at title_in
  title_passed = rw e

  pub title_found : before_null (bytes_of (drop (s.starts.title + 1) (words_of file))) ≡ title_text (slims_in file)
  unfolding title_text slim_at slim_after start_of place_of own row_of
  title_found = found_text (accepted_few file s e) 0x03 refl refl refl (found file s e 0x03 (lit≤ tt))

  -- as the code reads it: the part of the file from word 1 of the block on, and of that what stands before its null
  pub title_read : (part text : List ℕ) → part ≡ bytes_of (drop (s.starts.title + 1) (words_of file)) → text ≡ before_null part → title_at file ≡ text_at s.starts.title text
  title_read part text p t = title_passed ∙ ap (text_at s.starts.title) (sym (t ∙ ap before_null p ∙ title_found))

  -- the bytes of the file where the text of its block stands
  title_there : Below 256 file → take (length (title_text (slims_in file))) (drop (2 * (s.starts.title + 1)) file) ≡ title_text (slims_in file)
  title_there small =
      let first = s.starts.title + 1 in
      let whole = bytes_of_words file small (accepted_fits file s e).0 in
      let bytes : bytes_of (drop first (words_of file)) ≡ drop (2 * first) file = bytes_drop first (words_of file) ∙ ap (drop (2 * first)) whole in
      rw (← title_found, ← bytes) (text_front _)

no_label : {at n : ℕ} → ◌≡◌ {A = Option Span} None (span at n) → ⊥
no_label e = let z : ◌≡◌ {A = ℕ} 0 1 = cc in omega arith

there_said : {a k at n : ℕ} → span a k ≡ span at n → (a ≡ at) × (k ≡ n)
there_said {a} {k} {at} {n} e =
    let s : ◌≡◌ {A = Span} (record { at = a; len = k }) (record { at = at; len = n }) = cc in
    (ap (λ (x : Span). x.at) s, ap (λ (x : Span). x.len) s)

-- a title that stands in the file
pub record Stands (file : List ℕ) (at n : ℕ) : Type 0 where
  pub fits : at + n ≤ length file
  pub bytes : take n (drop at file) ≡ title_text (slims_in file)

pub title_part : (file : List ℕ) → Below 256 file → (at n : ℕ) → title_at file ≡ span at n → Stands file at n
unfolding title_at title_in text_at
title_part file small at n h = go (surveyed file) refl h
  where
    go : (j : Result State Refusal) → surveyed file ≡ j → title_in file j ≡ span at n → Stands file at n
    go (Err x) e f = absurd (no_label f)
    go (Ok s) e f =
        let text = title_text (slims_in file) in
        let some = cond_second (eqb (length text) 0) f no_label in
        let same = there_said some.1 in
        let bytes : take n (drop at file) ≡ text = rw (← same.0, ← same.1) (title_there file s e small) in
        record { fits = omega (arith, eqb-false (length text) 0 some.0, rw (length-take, length-drop) at (ap length bytes)); bytes = bytes }

-- ---- what Title hands back

module _ (file label : Bor (List ℕ)) where
  pub title_refused : {x : Refusal} → surveyed file.now ≡ Err x → title_of file label ≡ seen label
  unfolding title_of handed
  title_refused e = rw (title_denied file.now e)

  -- its bytes, for an accepted file: the text of the file's slim block 03, or the label where that is empty
  pub title_bytes : (s : State) → surveyed file.now ≡ Ok s → Below 256 file.now
      → (title_of file label).1 ≡ cond (eqb (length (title_text (slims_in file.now))) 0) label.now (title_text (slims_in file.now))
  unfolding title_of handed part_of text_at
  title_bytes s e small = rw (title_passed file.now s e) (go (eqb (length (title_text (slims_in file.now))) 0))
    where
      go : (t : Bool) → (handed file label (cond t None (span (2 * (s.starts.title + 1)) (length (title_text (slims_in file.now)))))).1
          ≡ cond t label.now (title_text (slims_in file.now))
      go true = refl
      go false = title_there file.now s e small

  -- two slices that Title may hand back start at the same place and have the same bytes
  pub title_one : (r q : Bor (List ℕ)) → Titled file label r → Titled file label q → seen r ≡ seen q
  title_one r q e f = e ∙ sym f
