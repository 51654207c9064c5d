-- What a state that goes on says of the block before it, and of the end of the walk.
use mathlib.Core.Bool.{Bool, true, false, cond}
use mathlib.Core.List.{List}
use mathlib.Core.Path.{◌≡◌, refl, sym, ◌∙◌}
use Prim.Native.Nat.{ℕ}
use native.Mathlib.Omega.{arith}
use lib.Dec.{eqb}
use lib.ListN.{get_or}
use Rattle.words.specs.Words.{low}
use Rattle.file_refusal.specs.declared.Refusal.{Refusal}
use Rattle.file_walk.specs.declared.Stop.{Stop}
use Rattle.file_walk.specs.Walk.{end_marker}
use Rattle.file_rules.specs.Block.{kept, offset_by}
use Rattle.words.proofs.Choice.{cond_first}
use Rattle.file_rules.proofs.BlockLaws.{no_bad, offset_good}
use Rattle.file_tables.specs.Table.{kind_of}
use Rattle.file_order.specs.Setup.{row_for}
use Rattle.file_order.specs.Order.{key_of, is_due}
use Rattle.file_order.proofs.KnownLaws.{row_listed}
use Rattle.call_check.specs.declared.judge.State.{State}
use Rattle.call_check.specs.Judge.{skipped, entered_by, tested_by, judged_by, seen_by, seen_in, closed}
use Rattle.std.specs.declared.result.Result.TheVariants.{Ok, Err}
use Rattle.std.specs.declared.result.Result.{Result}
use Rattle.std.specs.Prelude.{⊤}

pub no_denied : {x : Refusal} {s : State} → ◌≡◌ {A = Result State Refusal} (Err x) (Ok s) → ⊥
no_denied e = let z : ◌≡◌ {A = ℕ} 0 1 = cc in omega arith

passed_same : {s s' : State} → ◌≡◌ {A = Result State Refusal} (Ok s) (Ok s') → s ≡ s'
passed_same e = cc

-- a block that is not listed, or a listed one that was due and is good by its row
pub data Through (s : State) (at : ℕ) (b : List ℕ) (s' : State) : Type 0 where
  unlisted : (kind_of (low (get_or b 0 0))).listed ≡ false → skipped s ≡ s' → Through s at b s'
  listed : (kind_of (low (get_or b 0 0))).listed ≡ true → is_due s.due (key_of (get_or b 0 0)) ≡ true
      → kept (row_for s.setup (get_or b 0 0)) b ≡ Ok tt → entered_by s at b ≡ s' → Through s at b s'

judged_passed : (s s' : State) (t : Result ⊤ Refusal) → judged_by s t ≡ Ok s' → (t ≡ Ok tt) × (s ≡ s')
unfolding judged_by
judged_passed s s' (Ok tt) e = (refl, passed_same e)
judged_passed s s' (Err x) e = absurd (no_denied e)

pub seen_through : (s : State) (at : ℕ) (b : List ℕ) (s' : State) → seen_in s at b ≡ Ok s' → Through s at b s'
unfolding seen_in seen_by tested_by
seen_through s at b s' e = go (row_for s.setup (get_or b 0 0)).listed refl e
  where
    go : (t : Bool) → (row_for s.setup (get_or b 0 0)).listed ≡ t
        → cond t (judged_by (entered_by s at b) (offset_by at (tested_by (row_for s.setup (get_or b 0 0)) s.due b))) (Ok (skipped s)) ≡ Ok s' → Through s at b s'
    go false l f = unlisted (sym (row_listed s.setup (get_or b 0 0)) ∙ l) (passed_same f)
    go true l f =
        let j = judged_passed (entered_by s at b) s' (offset_by at (tested_by (row_for s.setup (get_or b 0 0)) s.due b)) f in
        let t = cond_first (is_due s.due (key_of (get_or b 0 0))) (offset_good at (tested_by (row_for s.setup (get_or b 0 0)) s.due b) j.0) no_bad in
        listed (sym (row_listed s.setup (get_or b 0 0)) ∙ l) t.0 t.1 j.1

pub closed_passed : (s s' : State) (stop : Stop) → closed s stop ≡ Ok s' → s ≡ s'
unfolding closed
closed_passed s s' (Stop.End at left) e =
    let p = cond_first (is_due s.due end_marker) e no_denied in
    let q = cond_first (eqb left 0) p.1 no_denied in
    passed_same q.1
closed_passed s s' (Stop.Refused x) e = absurd (no_denied e)

-- at the end of an accepted file the end marker is due
pub closed_due : (s s' : State) (stop : Stop) → closed s stop ≡ Ok s' → is_due s.due end_marker ≡ true
unfolding closed
closed_due s s' (Stop.End at left) e = (cond_first (is_due s.due end_marker) e no_denied).0
closed_due s s' (Stop.Refused x) e = absurd (no_denied e)
