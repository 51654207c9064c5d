-- After 05 no block changes the model, the function, or what a buffer record holds: what such a block is read by is what is known
-- at the end of an accepted file.
use mathlib.Core.Bool.{Bool, true, false, cond, ◌||◌, or-true}
use mathlib.Core.List.{List, [], ◌∷◌}
use mathlib.Core.Path.{◌≡◌, refl, sym, subst, ◌∙◌}
use Prim.Native.Nat.{ℕ, ◌≤◌}
use native.Mathlib.Omega.{arith}
use lib.Dec.{eqb, leb, ltb}
use lib.ListN.{get_or}
use borrow.Author.Tests.{eqb-true, ne_eqb, leb-true, ltb-true, le-ltb}
use Rattle.words.specs.Words.{low}
use Rattle.file_rules.specs.Sound.{every}
use Rattle.file_rules.proofs.SoundRows.{said}
use Rattle.file_walk.specs.Walk.{Walk, over, block}
use Rattle.file_order.specs.declared.setup.Setup.{Setup}
use Rattle.file_order.specs.declared.order.Due.{Due}
use Rattle.file_order.specs.Setup.{slim_of, learnt}
use Rattle.file_order.specs.Order.{key_of, is_due, passed_over, due_after_profiles, due_after_results, due_after}
use Rattle.file_order.proofs.KnownLaws.{id_in_lem}
use Rattle.file_order.proofs.OrderLaws.{after_passes}
use Rattle.call_check.specs.declared.judge.State.{State}
use Rattle.call_check.specs.Judge.{skipped, entered, entered_by, seen_in, judge}
use Rattle.call_check.proofs.Turns.{judge_pass, judge_deny}
use Rattle.call_check.proofs.Seen.{no_denied, Through, unlisted, listed, seen_through, closed_passed}
use Rattle.file_refusal.specs.declared.Refusal.{Refusal}
use Rattle.std.specs.declared.result.Result.TheVariants.{Ok, Err}
use Rattle.std.specs.declared.result.Result.{Result}

-- all that is known but the numbers of classes
pub record Same (s t : Setup) : Type 0 where
  pub model : s.model ≡ t.model
  pub function : s.function ≡ t.function
  pub bands : s.bands ≡ t.bands
  pub profiles : s.profiles ≡ t.profiles

same_on : {s t u : Setup} → Same t s → Same u t → Same u s
same_on a b = record { model = b.model ∙ a.model; function = b.function ∙ a.function; bands = b.bands ∙ a.bands; profiles = b.profiles ∙ a.profiles }

same_back : {s t : Setup} → Same s t → Same t s
same_back a = record { model = sym a.model; function = sym a.function; bands = sym a.bands; profiles = sym a.profiles }

-- none of 01 to 05 is due
record Past (d : Due) : Type 0 where
  one : 6 ≤ d.one
  two : 6 ≤ d.two
  three : 6 ≤ d.three

abbrev past_tests : Due → List Bool
past_tests d = leb 6 d.one ∷ leb 6 d.two ∷ leb 6 d.three ∷ []

-- after every block from 07 on
after_past : (s : Setup) (key : ℕ) → 6 ≤ key → Past (due_after s key)
unfolding due_after_profiles due_after_results
after_past s key h =
    let t = said (past_tests (due_after s key)) (rw (le-ltb key 6 h) at (after_passes (λ k d. ltb k 6 || every (past_tests d)) refl s key (or-true (ltb key 6)))) in
    record { one = leb-true 6 _ (t 0); two = leb-true 6 _ (t 1); three = leb-true 6 _ (t 2) }

passed_past : (d : Due) → Past d → passed_over d ≡ d
unfolding passed_over
passed_past d p = simp (ne_eqb d.one 0x01 (λ e. omega (arith, p.one)))

due_late : (d : Due) (key : ℕ) → Past d → is_due d key ≡ true → 6 ≤ key
unfolding is_due
due_late d key p e = go (eqb key d.one) (eqb key d.two) refl refl e
  where
    go : (t u : Bool) → eqb key d.one ≡ t → eqb key d.two ≡ u → (t || (u || eqb key d.three)) ≡ true → 6 ≤ key
    go true u q r f = omega (arith, eqb-true key d.one q, p.one)
    go false true q r f = omega (arith, eqb-true key d.two r, p.two)
    go false false q r f = omega (arith, eqb-true key d.three f, p.three)

key_low : (w id : ℕ) → ltb id 6 ≡ true → 6 ≤ key_of w → eqb (low w) id ≡ false
unfolding key_of
key_low w id small h = ne_eqb (low w) id (λ e. go (eqb (low w) 0x0B) refl e h)
  where
    go : (t : Bool) → eqb (low w) 0x0B ≡ t → low w ≡ id → 6 ≤ cond t w (low w) → ⊥
    go true q e f = omega (arith, eqb-true (low w) 0x0B q, e, ltb-true id 6 small)
    go false q e f = omega (arith, e, f, ltb-true id 6 small)

-- such a block leaves what is known
same_left : (s : Setup) (b raw : List ℕ) → 6 ≤ key_of (get_or b 0 0) → Same (learnt s (slim_of s b raw)) s
unfolding learnt
same_left s b raw h =
    let w = get_or b 0 0 in
    simp (id_in_lem s b raw, key_low w 0x02 refl h, key_low w 0x04 refl h, key_low w 0x05 refl h)
    (record { model = refl; function = refl; bands = refl; profiles = refl })

-- after a block: what is due, and what is known
abbrev Goes : State → State → Type 0
Goes s st = Past st.due × Same st.setup s.setup

stays : (w : Walk) (s s' : State) → Past s.due → judge s w ≡ Ok s' → Same s'.setup s.setup
unfolding judge skipped entered entered_by
stays (over stop) s s' p e = subst (λ (st : State). Same st.setup s.setup) (closed_passed s s' stop e) (record { model = refl; function = refl; bands = refl; profiles = refl })
stays (block at b raw w) s s' p e = go (seen_in s at b) refl (stays w)
  where
    through : (s₁ : State) → Through s at b s₁ → Goes s s₁
    through s₁ (unlisted l q) = subst (Goes s) q (rw (passed_past s.due p) p, record { model = refl; function = refl; bands = refl; profiles = refl })
    through s₁ (listed l d g q) =
        let h = due_late s.due (key_of (get_or b 0 0)) p d in
        subst (Goes s) q (after_past (learnt s.setup (slim_of s.setup b [])) (key_of (get_or b 0 0)) h, same_left s.setup b [] h)

    go : (j : Result State Refusal) → seen_in s at b ≡ j → ((s s' : State) → Past s.due → judge s w ≡ Ok s' → Same s'.setup s.setup) → Same s'.setup s.setup
    go (Err x) q ih = absurd (no_denied (sym (judge_deny s at b raw w q) ∙ e))
    go (Ok s₁) q ih =
        let t = through s₁ (seen_through s at b s₁ q) in
        same_on t.1 (ih s₁ s' t.0 (sym (judge_pass s at b raw w s₁ q) ∙ e))

-- what a block after 05 is read by is what is known at the end
pub read_by : (s s' : State) (at : ℕ) (b : List ℕ) (w : Walk) → judge (entered_by s at b) w ≡ Ok s' → 6 ≤ key_of (get_or b 0 0) → Same s.setup s'.setup
unfolding entered entered_by
read_by s s' at b w e h =
    same_back (same_on (same_left s.setup b [] h) (stays w (entered_by s at b) s' (after_past (learnt s.setup (slim_of s.setup b [])) (key_of (get_or b 0 0)) h) e))
