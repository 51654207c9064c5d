-- Acceptance without positions: a file's parts, one after another, each the one that is due and good by its row.
use mathlib.Core.Bool.{Bool, true, false, cond, ◌&&◌, ◌||◌, false≢true, and-false, or_self, and-or_distrib_right}
use mathlib.Core.List.{List, [], ◌∷◌}
use mathlib.Core.Path.{◌≡◌, refl, sym, ap, ◌∙◌}
use Prim.Native.Nat.{ℕ, ◌+◌}
use lib.Dec.{eqb}
use lib.ListN.{get_or}
use borrow.Author.Tests.{eq-eqb}
use Rattle.words.specs.Words.{low}
use Rattle.file_refusal.specs.Refusal.{refusal}
use Rattle.file_walk.specs.declared.Stop.{Stop}
use Rattle.file_walk.specs.Walk.{Walk, over, block, end_marker, Part, parts_of}
use Rattle.file_walk.proofs.Segments.{closes}
use Rattle.file_rules.specs.declared.Row.{Row}
use Rattle.file_rules.specs.Block.{kept, offset_by}
use Rattle.file_rules.specs.Slim.{slim_by, word_in, sub_word_in}
use Rattle.words.proofs.Choice.{and_both}
use Rattle.file_order.specs.declared.setup.Setup.{Setup}
use Rattle.file_order.specs.declared.order.Due.{Due}
use Rattle.file_tables.specs.Table.{kind_of}
use Rattle.file_order.specs.Setup.{row_for, slim_of, learnt, id_in}
use Rattle.file_order.specs.Order.{key_of, either, only, is_due, passed_over, due_after}
use Rattle.file_order.proofs.KnownLaws.{row_listed}
use Rattle.file_order.proofs.OrderLaws.{only_due, only_passes}
use Rattle.call_check.specs.declared.judge.State.{State}
use Rattle.call_check.specs.Judge.{skipped, entered_by, entered, tested_by, judged_by, seen_by, seen_in, closed, judge}
use Rattle.call_check.proofs.Numbered.{key_id}
use Rattle.call_check.proofs.Turns.{judge_pass, judge_deny}
use Rattle.law_grammar.specs.Grammar.{known_after, Listed}
use Rattle.file_refusal.specs.declared.Refusal.{Refusal}
use Rattle.std.specs.declared.result.Result.TheVariants.{Ok, Err}
use Rattle.std.specs.declared.result.Result.{Result}
use Rattle.std.specs.Prelude.{⊤}

-- the first word of a part
abbrev pub word_of : Part → ℕ
word_of p = get_or p.words 0 0

unfoldable pub good : Result ⊤ Refusal → Bool
good (Ok tt) = true
good (Err x) = false

-- by what is due and what is known: a listed block is the one that is due, and good; another is passed over; the end marker is due at the end
unfoldable pub takes : Due → Setup → List Part → Bool
takes d s [] = is_due d end_marker
takes d s (p ∷ ps) =
    cond (kind_of (low (word_of p))).listed
    (is_due d (key_of (word_of p)) && (good (kept (row_for s (word_of p)) p.words) && takes (due_after (known_after s p) (key_of (word_of p))) (known_after s p) ps))
    (takes (passed_over d) s ps)

-- ---- the judgement is the walk's end and this fold

unfoldable pub accepts : Result State Refusal → Bool
accepts (Ok s) = true
accepts (Err x) = false

-- one block; x and y say what follows where it is listed and was taken, and where it was passed over
judge_block : (st : State) (at : ℕ) (b raw : List ℕ) (w : Walk) (x y : Bool)
    → accepts (judge (entered_by st at b) w) ≡ (closes w && x)
    → accepts (judge (skipped st) w) ≡ (closes w && y)
    → accepts (judge st (block at b raw w))
    ≡ (closes w && cond (kind_of (low (get_or b 0 0))).listed (is_due st.due (key_of (get_or b 0 0)) && (good (kept (row_for st.setup (get_or b 0 0)) b) && x)) y)
unfolding accepts seen_in seen_by tested_by offset_by judged_by good
judge_block st at b raw w x y e f =
    go (kind_of (low (get_or b 0 0))).listed (is_due st.due (key_of (get_or b 0 0))) (kept r b) (row_listed st.setup (get_or b 0 0)) refl refl
  where
    r : Row
    r = row_for st.setup (get_or b 0 0)

    go : (t u : Bool) (k : Result ⊤ Refusal) → r.listed ≡ t → is_due st.due (key_of (get_or b 0 0)) ≡ u → kept r b ≡ k
        → accepts (judge st (block at b raw w)) ≡ (closes w && cond t (u && (good k && x)) y)
    go true true (Ok tt) l i g = rw (judge_pass st at b raw w (entered_by st at b) (simp (l, i, g))) e
    go true true (Err z) l i g = rw (judge_deny st at b raw w {x = refusal z.num (at + z.at)} (simp (l, i, g)), and-false (closes w))
    go true false k l i g = rw (judge_deny st at b raw w {x = refusal 4 (at + 0)} (simp (l, i)), and-false (closes w))
    go false u k l i g = rw (judge_pass st at b raw w (skipped st) (simp l)) f

pub judge_takes : (w : Walk) (st : State) → accepts (judge st w) ≡ (closes w && takes st.due st.setup (parts_of w))
unfolding judge closed closes parts_of takes accepts entered_by entered skipped known_after learnt slim_of slim_by id_in word_in sub_word_in
judge_takes (over (Stop.End at left)) st = go (is_due st.due end_marker) (eqb left 0)
  where
    go : (t u : Bool) → accepts (cond t (cond u (Ok st) (Err (refusal 9 (at + 1)))) (Err (refusal 4 at))) ≡ (u && t)
    go true true = refl
    go true false = refl
    go false true = refl
    go false false = refl
judge_takes (over (Stop.Refused x)) st = refl
judge_takes (block at b raw w) st = judge_block st at b raw w _ _ (judge_takes w (entered_by st at b)) (judge_takes w (skipped st))

-- ---- what is due

-- two that may come next: one of them comes
pub takes_either : (a b : ℕ) → eqb a 0x01 ≡ false → eqb b 0x01 ≡ false → (s : Setup) (ps : List Part)
    → takes (either a b) s ps ≡ (takes (only a) s ps || takes (only b) s ps)
unfolding takes is_due passed_over
takes_either a b p q s [] = simp or_self
takes_either a b p q s (x ∷ xs) = go (kind_of (low (word_of x))).listed (takes_either a b p q s xs)
  where
    next : Bool
    next = good (kept (row_for s (word_of x)) x.words) && takes (due_after (known_after s x) (key_of (word_of x))) (known_after s x) xs

    go : (t : Bool) → takes (either a b) s xs ≡ (takes (only a) s xs || takes (only b) s xs)
        → cond t (is_due (either a b) (key_of (word_of x)) && next) (takes (passed_over (either a b)) s xs)
        ≡ (cond t (is_due (only a) (key_of (word_of x)) && next) (takes (passed_over (only a)) s xs) || cond t (is_due (only b) (key_of (word_of x)) && next) (takes (passed_over (only b)) s xs))
    go true ih = simp (or_self, and-or_distrib_right)
    go false ih = simp (p, q) ih

pub key_listed : (w : ℕ) {k : ℕ} → key_of w ≡ k → (kind_of (low w)).listed ≡ (kind_of (low k)).listed
key_listed w {k} e = ap (λ (i : ℕ). (kind_of i).listed) {x = low w} {y = low k} (sym (key_id w) ∙ ap low e)

pub good_is : (t : Result ⊤ Refusal) → good t ≡ true → t ≡ Ok tt
unfolding good
good_is (Ok tt) e = refl
good_is (Err x) e = absurd (false≢true e)

module _ (k : ℕ) (s : Setup) (p : Part) (ps : List Part) where
  -- a listed block that is taken
  pub taken : (kind_of (low (word_of p))).listed ≡ true → takes (only k) s (p ∷ ps) ≡ true
      → Listed k s p × (takes (due_after (known_after s p) k) (known_after s p) ps ≡ true)
  unfolding takes
  taken l e =
      let a = and_both (is_due (only k) (key_of (word_of p))) _ (simp l at e) in
      let b = and_both (good (kept (row_for s (word_of p)) p.words)) _ a.1 in
      let key : key_of (word_of p) ≡ k = only_due k _ a.0 in
      (record { key_is = key; good = good_is _ b.0 }, rw key at b.1)

  -- and the other way round
  pub listed_takes : (kind_of (low k)).listed ≡ true → Listed k s p → takes (due_after (known_after s p) k) (known_after s p) ps ≡ true → takes (only k) s (p ∷ ps) ≡ true
  unfolding takes is_due good
  listed_takes l h e = simp (key_listed (word_of p) h.key_is, l, h.key_is, eq-eqb k k refl, h.good) e

  -- a block that is not listed is passed over
  pub takes_passed : eqb k 0x01 ≡ false → (kind_of (low (word_of p))).listed ≡ false → takes (only k) s (p ∷ ps) ≡ takes (only k) s ps
  unfolding takes
  takes_passed q l = simp (l, only_passes k q)
