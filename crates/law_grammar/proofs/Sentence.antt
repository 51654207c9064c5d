-- The order sentence of the grammar, block by block: what is taken where something is due, and what the grammar lets stand there.
use mathlib.Core.Bool.{Bool, true, false, cond, ◌||◌, false≢true, or-true}
use mathlib.Core.List.{List, [], ◌∷◌}
use mathlib.Core.Logic.{inl, inr}
use mathlib.Core.Path.{◌≡◌, refl, sym, ap, ◌∙◌}
use Prim.Native.Nat.{ℕ}
use native.Mathlib.Omega.{arith}
use lib.Dec.{eqb}
use Rattle.words.specs.Words.{low}
use Rattle.file_walk.specs.Walk.{end_marker, Part}
use Rattle.file_order.specs.declared.setup.Setup.{Setup}
use Rattle.file_order.specs.declared.order.Due.{Due}
use Rattle.file_tables.specs.Table.{row_of, kind_of}
use Rattle.file_order.specs.Setup.{no_setup}
use Rattle.file_order.specs.Order.{either, only, is_due, passed_over, due_after, due_after_profiles, due_after_results}
use Rattle.file_order.proofs.OrderLaws.{only_due}
use Rattle.law_grammar.specs.Grammar.{Blocks, known_after, End, end, pass, Then, here, Either, Spectrum, Statistics, Measurement, Buffer, Contents, Ordered, ordered}
use Rattle.law_grammar.proofs.Takes.{word_of, takes, takes_either, key_listed, taken, listed_takes, takes_passed}

-- the blocks that are taken where this is due are those of the grammar; what is due may depend on what is known
abbrev Reads : (Setup → Due) → Blocks → Type 0
Reads due G = (s : Setup) (ps : List Part) → (takes (due s) s ps ≡ true → G s ps) × (G s ps → takes (due s) s ps ≡ true)

-- the end of the blocks, where k is due
due_at_end : (k : ℕ) (s : Setup) → takes (only k) s [] ≡ true → end_marker ≡ k
unfolding takes
due_at_end k s e = only_due k end_marker e

-- where no listed block is due, none is taken
takes_none : (k : ℕ) → (kind_of (low k)).listed ≡ false → eqb k 0x01 ≡ false → (s : Setup) (ps : List Part) → takes (only k) s ps ≡ true → End s ps × (end_marker ≡ k)
takes_none k l q s [] e = (end, due_at_end k s e)
takes_none k l q s (p ∷ ps) e = go (kind_of (low (word_of p))).listed refl (takes_none k l q s ps)
  where
    go : (t : Bool) → (kind_of (low (word_of p))).listed ≡ t → (takes (only k) s ps ≡ true → End s ps × (end_marker ≡ k)) → End s (p ∷ ps) × (end_marker ≡ k)
    go true h ih = absurd (false≢true (sym l ∙ sym (key_listed (word_of p) (taken k s p ps h e).0.key_is) ∙ h))
    go false h ih = let r = ih (sym (takes_passed k s p ps q h) ∙ e) in (pass p (record { unlisted = h }) r.0, r.1)

end_takes : {s : Setup} {ps : List Part} → End s ps → takes (only end_marker) s ps ≡ true
unfolding takes is_due
end_takes end = refl
end_takes (pass {s} p {ps} u g) = takes_passed end_marker s p ps refl u.unlisted ∙ end_takes g

reads_end : Reads (λ s. only end_marker) End
unfolding row_of
reads_end s ps = (λ e. (takes_none end_marker refl refl s ps e).0, end_takes)

-- a listed block is due, and then what follows it
module _ (k : ℕ) {Next : Blocks} (l : (kind_of (low k)).listed ≡ true) (q : eqb k 0x01 ≡ false) (next : Reads (λ s. due_after s k) Next) where
  takes_then : (s : Setup) (ps : List Part) → takes (only k) s ps ≡ true → Then k Next s ps
  unfolding row_of
  takes_then s [] e = absurd (false≢true (ap (λ (i : ℕ). (kind_of (low i)).listed) (due_at_end k s e) ∙ l))
  takes_then s (p ∷ ps) e = go (kind_of (low (word_of p))).listed refl (takes_then s ps)
    where
      go : (t : Bool) → (kind_of (low (word_of p))).listed ≡ t → (takes (only k) s ps ≡ true → Then k Next s ps) → Then k Next s (p ∷ ps)
      go true h ih = let r = taken k s p ps h e in here p r.0 ((next (known_after s p) ps).0 r.1)
      go false h ih = pass p (record { unlisted = h }) (ih (sym (takes_passed k s p ps q h) ∙ e))

  then_takes : {s : Setup} {ps : List Part} → Then k Next s ps → takes (only k) s ps ≡ true
  then_takes (here {s} p {ps} h g) = listed_takes k s p ps l h ((next (known_after s p) ps).1 g)
  then_takes (pass p u g) = takes_passed k _ p _ q u.unlisted ∙ then_takes g

  reads_then : Reads (λ s. only k) (Then k Next)
  reads_then s ps = (takes_then s ps, then_takes)

-- either of two
reads_either : (a b : ℕ) {A B : Blocks} → eqb a 0x01 ≡ false → eqb b 0x01 ≡ false → Reads (λ s. only a) A → Reads (λ s. only b) B → Reads (λ s. either a b) (Either A B)
reads_either a b {A} {B} p q f g s ps = (λ e. go (takes (only a) s ps) refl (sym same ∙ e), back)
  where
    same : takes (either a b) s ps ≡ (takes (only a) s ps || takes (only b) s ps)
    same = takes_either a b p q s ps

    go : (t : Bool) → takes (only a) s ps ≡ t → (t || takes (only b) s ps) ≡ true → Either A B s ps
    go true h e = inl ((f s ps).0 h)
    go false h e = inr ((g s ps).0 e)

    back : Either A B s ps → takes (either a b) s ps ≡ true
    back (inl x) = rw (same, (f s ps).1 x)
    back (inr x) = rw (same, (g s ps).1 x, or-true (takes (only a) s ps))

-- what is due after the results is by the function
reads_spectrum : {Next : Blocks} → Reads (λ s. only 0x0E) (Then 0x0E Next) → Reads (λ s. only 0x10) (Then 0x10 Next) → Reads (λ s. either 0x09 end_marker) Next
    → Reads (λ s. due_after_results s.function) (Spectrum Next)
unfolding due_after_results
reads_spectrum {Next} f g h s ps = go (eqb s.function 2) (eqb s.function 3)
  where
    G : Bool → Bool → Type 0
    G t u = cond t (Then 0x0E Next s ps) (cond u (Then 0x10 Next s ps) (Next s ps))

    d : Bool → Bool → Due
    d t u = cond t (only 0x0E) (cond u (only 0x10) (either 0x09 end_marker))

    go : (t u : Bool) → (takes (d t u) s ps ≡ true → G t u) × (G t u → takes (d t u) s ps ≡ true)
    go true u = f s ps
    go false true = g s ps
    go false false = h s ps

-- and after the profiles by the model
reads_contents : Reads (λ s. only 0x07) Measurement → Reads (λ s. either 0x0F 0x07) (Either Buffer Measurement) → Reads (λ s. due_after_profiles s.model) Contents
unfolding due_after_profiles
reads_contents f g s ps = go (eqb s.model 953)
  where
    G : Bool → Type 0
    G t = cond t (Measurement s ps) (Either Buffer Measurement s ps)

    d : Bool → Due
    d t = cond t (only 0x07) (either 0x0F 0x07)

    go : (t : Bool) → (takes (d t) s ps ≡ true → G t) × (G t → takes (d t) s ps ≡ true)
    go true = f s ps
    go false = g s ps

-- ---- the sentence

reads_statistics : Reads (λ s. only 0x09) Statistics
unfolding due_after row_of
reads_statistics = reads_then 0x09 refl refl (reads_then 0x010B refl refl (reads_then 0x020B refl refl (reads_then 0x040B refl refl reads_end)))

-- "optionally 09", then the end
reads_rest : Reads (λ s. either 0x09 end_marker) (Either Statistics End)
reads_rest = reads_either 0x09 end_marker refl refl reads_statistics reads_end

reads_measurement : Reads (λ s. only 0x07) Measurement
unfolding due_after row_of
reads_measurement = reads_then 0x07 refl refl (reads_spectrum (reads_then 0x0E refl refl reads_rest) (reads_then 0x10 refl refl reads_rest) reads_rest)

reads_buffer : Reads (λ s. only 0x0F) Buffer
unfolding due_after row_of
reads_buffer = reads_then 0x0F refl refl reads_end

-- the blocks after 01
reads_after : Reads (λ s. only 0x02) (Then 0x02 (Then 0x03 (Then 0x04 (Then 0x05 Contents))))
unfolding due_after row_of
reads_after =
    reads_then 0x02 refl refl (reads_then 0x03 refl refl (reads_then 0x04 refl refl (reads_then 0x05 refl refl (reads_contents reads_measurement (reads_either 0x0F 0x07 refl refl reads_buffer reads_measurement)))))

pub takes_ordered : (ps : List Part) → takes (only 0x01) no_setup ps ≡ true → Ordered ps
unfolding takes passed_over due_after row_of
takes_ordered [] e = absurd (omega (arith, due_at_end 0x01 no_setup e))
takes_ordered (p ∷ ps) e = go (kind_of (low (word_of p))).listed refl
  where
    go : (t : Bool) → (kind_of (low (word_of p))).listed ≡ t → Ordered (p ∷ ps)
    go true h = let r = taken 0x01 no_setup p ps h e in ordered p r.0 ((reads_after (known_after no_setup p) ps).0 r.1)
    go false h =
        let f : takes (only 0x00) no_setup ps ≡ true = simp h at e in
        absurd (omega (arith, (takes_none 0x00 refl refl no_setup ps f).1))

pub ordered_takes : {ps : List Part} → Ordered ps → takes (only 0x01) no_setup ps ≡ true
unfolding due_after row_of
ordered_takes (ordered p {ps} h g) = listed_takes 0x01 no_setup p ps refl h ((reads_after (known_after no_setup p) ps).1 g)
