-- The refusal of a block stands at one of its words, or at its end: for any sound row.
use mathlib.Core.Bool.{Bool, true, false, cond, ◌&&◌, ◌||◌}
use mathlib.Core.List.{List, [], ◌∷◌}
use mathlib.Core.Path.{◌≡◌, refl}
use Prim.Native.Nat.{ℕ, zero, suc, ◌+◌, ◌≤◌, ◌<◌}
use native.Mathlib.Omega.{arith}
use lib.Dec.{eqb, ltb, leb}
use lib.ListN.{length, get_or, drop, length-drop}
use borrow.Author.Tests.{ltb-true, leb-true}
use Rattle.words.specs.Words.{low, high, long_at}
use Rattle.words.proofs.Choice.{and_both}
use Rattle.file_refusal.specs.{declared.Refusal.Refusal, Refusal.is_of_file}
use Rattle.file_rules.specs.declared.Rule.{Rule}
use Rattle.file_rules.specs.declared.Subs.{Subs}
use Rattle.file_rules.specs.declared.Row.{Row}
use Rattle.file_rules.specs.Block.{then, offset_by, allows, in_force, least_of, filled, obeyed, ruled, rules_in, recorded, records, sized, readable, whole_records, buffered, kept}
use Rattle.file_rules.specs.Sound.{among, looks, asks, inside, front_words, Sound}
use Rattle.file_rules.proofs.BlockLaws.{recorded_says, sized_least}
use Rattle.file_refusal.specs.declared.Refusal.{Refusal}
use Rattle.std.specs.declared.result.Result.TheVariants.{Ok, Err}
use Rattle.std.specs.declared.result.Result.{Result}
use Rattle.std.specs.Prelude.{⊤}

-- a refusal is one of a file, and at word n at most
pub record Near (n : ℕ) (x : Refusal) : Type 0 where
  pub at : x.at ≤ n
  pub num : is_of_file x.num ≡ true

pub further : {m n : ℕ} {x : Refusal} → m ≤ n → Near m x → Near n x
further h p = record { at = omega (arith, p.at); num = p.num }

-- so is what a test says, if it is a refusal
pub data Upto (n : ℕ) : Result ⊤ Refusal → Type 0 where
  good : Upto n (Ok tt)
  bad : {x : Refusal} → x.at ≤ n → is_of_file x.num ≡ true → Upto n (Err x)

pub cond_upto : {n : ℕ} (t : Bool) {a b : Result ⊤ Refusal} → (t ≡ true → Upto n a) → (t ≡ false → Upto n b) → Upto n (cond t a b)
cond_upto true p q = p refl
cond_upto false p q = q refl

then_upto : {n : ℕ} (a b : Result ⊤ Refusal) → Upto n a → (a ≡ Ok tt → Upto n b) → Upto n (then a b)
unfolding then
then_upto (Ok tt) b p q = q refl
then_upto (Err x) b p q = p

pub offset_upto : {m n : ℕ} {t : Result ⊤ Refusal} (o : ℕ) → o + m ≤ n → Upto m t → Upto n (offset_by o t)
unfolding offset_by
offset_upto o h good = good
offset_upto {n = n} o h (bad {x} l m) = let there : o + x.at ≤ n = omega arith in bad there m

-- rules that look inside the first m words
ruled_upto : {m n : ℕ} (b : List ℕ) (rs : List Rule) → m ≤ n → inside m rs ≡ true → Upto n (ruled b rs)
unfolding ruled obeyed inside asks among
ruled_upto b [] h e = good
ruled_upto {m} {n} b (r ∷ rs) h e =
    let p = and_both (asks m r) (inside m rs) e in
    let q = and_both (among m r.off) _ p.0 in
    let off : r.off < m = ltb-true _ _ (and_both (ltb 0 r.off) _ q.0).1 in
    let here : r.off ≤ n = omega arith in
    let number = (and_both (eqb r.from 0 || ltb 3 m) _ (and_both (looks m r.kind) _ q.1).1).1 in
    then_upto (obeyed b r) (ruled b rs) (cond_upto (in_force r (get_or b 3 0)) (λ t. cond_upto (allows b r.kind (get_or b r.off 0)) (λ u. good) (λ u. bad here number)) (λ t. good))
    (λ g. ruled_upto b rs h p.1)

-- sub-blocks, whose rules look inside their least words
module _ (s : Subs) (rules : inside s.least (rules_in s.rules) ≡ true) where
  recorded_upto : (ws : List ℕ) → Upto (length ws) (recorded s ws)
  unfolding recorded is_of_file
  recorded_upto ws =
      let w = get_or ws 0 0 in
      cond_upto (eqb (low w) s.id && (leb s.least (high w) && leb (high w) (length ws)))
      (λ t.
      let p = and_both (leb s.least (high w)) (leb (high w) (length ws)) (and_both (eqb (low w) s.id) _ t).1 in
      let fits : s.least ≤ length ws = omega (arith, leb-true s.least (high w) p.0, leb-true (high w) (length ws) p.1) in
      ruled_upto ws (rules_in s.rules) fits rules)
      (λ t. bad (omega arith) refl)

  records_upto : (k : ℕ) (ws : List ℕ) → Upto (length ws) (records s k ws)
  unfolding records
  records_upto zero ws = good
  records_upto (suc k) ws =
      let n = high (get_or ws 0 0) in
      then_upto (recorded s ws) _ (recorded_upto ws)
      (λ g.
      let fits : n + length (drop n ws) ≤ length ws = omega (arith, (recorded_says s ws g).fits, length-drop n ws) in
      offset_upto n fits (records_upto k (drop n ws)))

-- a block, by the row that it is held to
pub kept_upto : (r : Row) (b : List ℕ) → Sound r → r.listed ≡ true → Upto (length b) (kept r b)
unfolding kept filled buffered front_words is_of_file
kept_upto r b s l =
    cond_upto (sized r b && readable r.text b)
    (λ t.
    let size : r.least ≤ length b = sized_least r b (and_both (sized r b) _ t).0 in
    let two : 2 ≤ length b = omega (arith, s.least l) in
    let fits : front_words r ≤ length b = front (eqb r.subs.count 0) size two in
    let subs : 2 + length (drop 2 b) ≤ length b = omega (arith, length-drop 2 b) in
    then_upto (ruled b (rules_in r.rules)) _ (ruled_upto b (rules_in r.rules) fits s.rules)
    (λ g.
    then_upto (filled r b) _ (cond_upto (leb (least_of r b) (length b)) (λ u. good) (λ u. bad (omega arith) refl))
    (λ f.
    then_upto (buffered r b) _
    (cond_upto r.logger
    (λ u.
    let six : 6 ≤ length b = omega (arith, s.logger u) in
    cond_upto (whole_records r.width (long_at b 6)) (λ v. good) (λ v. bad six refl))
    (λ u. good))
    (λ h. offset_upto 2 subs (records_upto r.subs s.sub_rules r.subs.count (drop 2 b))))))
    (λ t. bad (omega arith) refl)
  where
    front : (t : Bool) → r.least ≤ length b → 2 ≤ length b → cond t r.least 2 ≤ length b
    front true p q = p
    front false p q = q
