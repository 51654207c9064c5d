-- The function of an accepted file is 4 at most: it is 0 before block 04, and that block's row bounds it, in both models.
use mathlib.Core.Bool.{Bool, true, false, ◌||◌}
use mathlib.Core.List.{List, []}
use mathlib.Core.Path.{◌≡◌, refl, ap}
use Prim.Native.Nat.{ℕ, ◌≤◌}
use native.Mathlib.Omega.{arith}
use Rattle.std.proofs.lemmas.Bool.Decides.{nat_tests}
use lib.Dec.{eqb, lit≤}
use lib.ListN.{get_or}
use borrow.Author.Tests.{eqb-true, eqb-false, ne_eqb}
use Rattle.words.specs.Words.{low}
use Rattle.words.proofs.Choice.{cond_first}
use Rattle.file_rules.specs.Block.{allows, in_force, obeyed, ruled, rules_in, kept}
use Rattle.file_rules.proofs.BlockLaws.{no_bad, then_good, kept_says}
use Rattle.file_order.specs.declared.setup.Setup.{Setup}
use Rattle.file_tables.specs.Table.{within, one_of, row_of}
use Rattle.file_order.specs.Setup.{slim_of, learnt, row_for}
use Rattle.file_order.proofs.KnownLaws.{id_in_lem, row_at, learnt_04}
use Rattle.file_tables.proofs.TableLaws.{obeyed_within}
use Rattle.call_check.specs.declared.judge.State.{State}
use Rattle.call_check.specs.Judge.{skipped, entered, entered_by, surveyed}
use Rattle.law_read.proofs.Always.{always}
use Rattle.std.specs.declared.result.Result.TheVariants.{Ok}

-- a word that is held to three others is no larger than they are
obeyed_one_of : (b : List ℕ) (off one two three num n : ℕ) → one ≤ n → two ≤ n → three ≤ n → obeyed b (one_of off one two three num) ≡ Ok tt → get_or b off 0 ≤ n
unfolding obeyed allows in_force
obeyed_one_of b off one two three num n p q r e =
    let w = get_or b off 0 in
    let h : (eqb w one || (eqb w two || eqb w three)) ≡ true = (cond_first (eqb w one || (eqb w two || eqb w three)) e no_bad).0 in
    grind (arith, nat_tests)

-- a good block 04 has a function up to 4
kept_function : (s : Setup) (b : List ℕ) → low (get_or b 0 0) ≡ 0x04 → kept (row_for s (get_or b 0 0)) b ≡ Ok tt → get_or b 3 0 ≤ 4
unfolding row_of rules_in ruled
kept_function s b =
    row_at (λ r. kept r b ≡ Ok tt → get_or b 3 0 ≤ 4) 0x04 refl
    (λ g. omega (arith, (obeyed_within b 3 1 3 8 (then_good (obeyed b (within 3 1 3 8)) _ (kept_says (row_of 945 0x04) b g).rules).0).1))
    (λ g. obeyed_one_of b 3 1 2 4 8 4 (lit≤ tt) (lit≤ tt) (lit≤ tt) (then_good (obeyed b (one_of 3 1 2 4 8)) _ (kept_says (row_of 953 0x04) b g).rules).0)
    s (get_or b 0 0)

-- a block leaves it small
come_small : (s : Setup) (b : List ℕ) → kept (row_for s (get_or b 0 0)) b ≡ Ok tt → s.function ≤ 4 → (learnt s (slim_of s b [])).function ≤ 4
unfolding learnt
come_small s b g h = go (eqb (low (get_or b 0 0)) 0x04) refl
  where
    go : (t : Bool) → eqb (low (get_or b 0 0)) 0x04 ≡ t → (learnt s (slim_of s b [])).function ≤ 4
    go true p =
        let i : low (get_or b 0 0) ≡ 0x04 = eqb-true _ _ p in
        omega (arith, ap (λ (k : Setup). k.function) (learnt_04 s b [] i), kept_function s b i g)
    go false p = simp (id_in_lem s b [], ne_eqb (low (get_or b 0 0)) 0x04 (eqb-false _ _ p)) h

pub function_small : (file : List ℕ) (s : State) → surveyed file ≡ Ok s → s.setup.function ≤ 4
unfolding skipped entered entered_by
function_small file s e = (always (λ st xs. st.setup.function ≤ 4) (λ st xs h. h) (λ st at b raw xs c h. come_small st.setup b c.good h) (lit≤ tt) file s e).0
