-- The third demand: an accepted file with additions is accepted, and holds the same slim blocks.
use mathlib.Core.Bool.{Bool, true, false, false≢true}
use mathlib.Core.List.{List, [], ◌∷◌}
use mathlib.Core.Path.{◌≡◌, refl, sym, ◌∙◌}
use Prim.Native.Nat.{ℕ}
use Rattle.words.specs.Words.{low, words_of}
use Rattle.words.proofs.Choice.{and_both}
use Rattle.file_walk.specs.Walk.{Part, Whole, Wholes}
use Rattle.file_rules.specs.Block.{kept}
use Rattle.file_order.specs.declared.setup.Setup.{Setup}
use Rattle.file_order.specs.declared.order.Due.{Due}
use Rattle.file_tables.specs.Table.{row_of, kind_of}
use Rattle.file_order.specs.Setup.{row_for, no_setup}
use Rattle.file_order.specs.Order.{key_of, is_due, only, passed_over}
use Rattle.call_check.specs.Slims.{slim_part, known_from, slims, slims_in}
use Rattle.law_grammar.specs.Grammar.{known_after, Grammatical, Accepts, Ordered, ordered}
use Rattle.law_grammar.proofs.Takes.{word_of, good, takes, good_is, key_listed}
use Rattle.law_grammar.proofs.Sentence.{takes_ordered, ordered_takes}
use Rattle.law_grammar.proofs.Exactly.{walked_parts, accepted_exactly}
use Rattle.law_additions.specs.Additions.{may_grow, is_text, Grown, as_is, table, title, Adds, end, block, put, Additions, additions, parts_in, Added}
use Rattle.law_additions.proofs.BlockGrowth.{grown_same}
use Rattle.law_additions.proofs.LaterDue.{Later, after_later}
use Rattle.law_additions.proofs.PutBlocks.{put_says, put_whole}

-- ---- blocks with additions

pub record Unchanged (d : Due) (s : Setup) (ps ps' : List Part) : Type 0 where
  pub taken : takes d s ps' ≡ true
  pub held : slims s ps' ≡ slims s ps
  pub wholes : Wholes ps'

module _ {ps ps' : List Part} where
  -- a listed block that has grown
  listed_grown : (d : Due) (s : Setup) {p p' : Part} → Grown p p' → (kind_of (low (word_of p))).listed ≡ true → takes d s (p ∷ ps) ≡ true → Whole p
      → ((d : Due) (s : Setup) → Later d → takes d s ps ≡ true → Unchanged d s ps ps') → Unchanged d s (p ∷ ps) (p' ∷ ps')
  unfolding takes slims slim_part known_from known_after good
  listed_grown d s {p} {p'} g l e w later =
      let a = and_both (is_due d (key_of (word_of p))) _ (simp l at e) in
      let b = and_both (good (kept (row_for s (word_of p)) p.words)) _ a.1 in
      let same = grown_same g s (good_is _ b.0) in
      let u = later _ _ (after_later (known_after s p) (key_of (word_of p))) b.1 in
      record {
        taken = rw (same.id, l, same.key, a.0, same.good, same.slim) u.taken;
        held = rw (same.id, l, same.slim, u.held);
        wholes = (same.whole w, u.wholes);
      }

-- a block that is not listed, put there or as it was
module _ (d : Due) (s : Setup) (p : Part) (l : (kind_of (low (word_of p))).listed ≡ false) (first : Later d) where
  is_passed_over : (ps : List Part) → takes d s (p ∷ ps) ≡ takes d s ps
  unfolding takes passed_over
  is_passed_over ps = rw (l, first.no_header)

  unlisted_put : {ps ps' : List Part} → Whole p → Unchanged d s ps ps' → Unchanged d s ps (p ∷ ps')
  unfolding slims slim_part known_from
  unlisted_put {ps' = ps'} w u = record { taken = is_passed_over ps' ∙ u.taken; held = rw l u.held; wholes = (w, u.wholes) }

  unlisted_kept : {ps ps' : List Part} → Unchanged d s ps (p ∷ ps') → Unchanged d s (p ∷ ps) (p ∷ ps')
  unfolding slims slim_part known_from
  unlisted_kept u = record { taken = u.taken; held = u.held ∙ rw l; wholes = u.wholes }

-- only a listed block grows
unlisted_as_is : {p p' : Part} → Grown p p' → (kind_of (low (word_of p))).listed ≡ false → p' ≡ p
unfolding may_grow is_text
unlisted_as_is (as_is p) l = refl
unlisted_as_is (table h w raw may rs) l = absurd (false≢true (sym l ∙ (and_both (kind_of (low h)).listed _ may).0))
unlisted_as_is (title h t t' raw may null text) l = absurd (false≢true (sym l ∙ (and_both (kind_of (low h)).listed _ may).0))

adds_unchanged : {ps ps' : List Part} → Adds ps ps' → Wholes ps → (d : Due) (s : Setup) → Later d → takes d s ps ≡ true → Unchanged d s ps ps'
adds_unchanged end w d s first e = record { taken = e; held = refl; wholes = tt }
adds_unchanged (put b {ps} {ps'} may a) w d s first e =
    let p = put_says b may in
    unlisted_put d s (record { words = b; raw = [] }) p.unlisted first (put_whole b p) (adds_unchanged a w d s first e)
adds_unchanged (block {p} {p'} {ps} {ps'} g a) w d s first e = go (kind_of (low (word_of p))).listed refl (λ d s f e. adds_unchanged a w.1 d s f e)
  where
    go : (t : Bool) → (kind_of (low (word_of p))).listed ≡ t → ((d : Due) (s : Setup) → Later d → takes d s ps ≡ true → Unchanged d s ps ps') → Unchanged d s (p ∷ ps) (p' ∷ ps')
    go true l ih = listed_grown d s g l e w.0 ih
    go false l ih =
        rw (unlisted_as_is g l)
        (unlisted_kept d s p l first (unlisted_put d s p l first w.0 (ih d s first (sym (is_passed_over d s p l first ps) ∙ e))))

-- ---- files with additions

-- the first block of an accepted file is the file header
header_listed : {p : Part} {ps : List Part} → Ordered (p ∷ ps) → (kind_of (low (word_of p))).listed ≡ true
unfolding row_of
header_listed (ordered p h rest) = key_listed (word_of p) h.key_is

additions_unchanged : {ps ps' : List Part} → Additions ps ps' → Wholes ps → takes (only 0x01) no_setup ps ≡ true → Unchanged (only 0x01) no_setup ps ps'
additions_unchanged (additions {p} {p'} {ps} {ps'} g a) w e =
    listed_grown (only 0x01) no_setup g (header_listed (takes_ordered (p ∷ ps) e)) e w.0 (λ d s f e. adds_unchanged a w.1 d s f e)

pub additions_accepted : (f g : List ℕ) → Accepts f → Added f g → Accepts g × (slims_in g ≡ slims_in f)
unfolding parts_in slims_in
additions_accepted f g accepted added =
    let was = (accepted_exactly f).0 accepted in
    let parts = (walked_parts (words_of f) was.parts was.whole was.words).0 in
    let same : Additions was.parts added.parts = rw parts at added.adds in
    let u = additions_unchanged same was.whole (ordered_takes was.order) in
    let now : Grammatical g =
    record {
      even = added.even;
      short = added.short;
      parts = added.parts;
      whole = u.wholes;
      words = added.words;
      order = takes_ordered added.parts u.taken;
    } in
    let found = (walked_parts (words_of g) added.parts u.wholes added.words).0 in
    ((accepted_exactly g).1 now, rw (found, parts) u.held)
