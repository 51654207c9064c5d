-- Two blocks whose first words agree are held to the same rules, and have the same raw words after them.
use mathlib.Core.Bool.{Bool, true, false, cond, ◌||◌, ◌&&◌}
use mathlib.Core.List.{List, [], ◌∷◌}
use mathlib.Core.Path.{◌≡◌, refl}
use Prim.Native.Nat.{ℕ, ◌+◌, ◌/◌, ◌<◌}
use native.Mathlib.Omega.{arith}
use lib.Dec.{eqb, ltb, leb, lit≤}
use lib.ListN.{get_or}
use borrow.Author.Tests.{eqb-true, ltb-true}
use Rattle.words.specs.Words.{low, long_at}
use Rattle.words.proofs.Choice.{and_both}
use Rattle.file_walk.specs.Walk.{raw_of}
use Rattle.file_rules.specs.declared.Kind.{Kind}
use Rattle.file_rules.specs.declared.Kind.TheVariants.{Range, OneOf, Band, BandsFrom}
use Rattle.file_rules.specs.declared.More.{More}
use Rattle.file_rules.specs.declared.More.TheVariants.{Nothing, Where, Counts}
use Rattle.file_rules.specs.declared.Rule.{Rule}
use Rattle.file_rules.specs.declared.Row.{Row}
use Rattle.file_rules.specs.Block.{allows, in_force, more_of, least_of, obeyed, ruled, whole_records, buffered}
use Rattle.file_rules.specs.Sound.{among, looks, counts, asks, inside}
use Rattle.file_refusal.specs.declared.Refusal.{Refusal}
use Rattle.std.specs.declared.result.Result.TheVariants.{Ok}
use Rattle.std.specs.declared.result.Result.{Result}
use Rattle.std.specs.Prelude.{⊤}

-- from word 1 up to word n
pub record Agree (n : ℕ) (b b' : List ℕ) : Type 0 where
  pub word : (k : ℕ) → 0 < k → k < n → get_or b' k 0 ≡ get_or b k 0

module _ {n : ℕ} {b b' : List ℕ} (a : Agree n b b') where
  among_agree : (k : ℕ) → among n k ≡ true → get_or b' k 0 ≡ get_or b k 0
  unfolding among
  among_agree k e = let p = and_both (ltb 0 k) _ e in a.word k (ltb-true _ _ p.0) (ltb-true _ _ p.1)

  -- whether a rule is in force, by word 3
  in_force_agrees : (r : Rule) → (eqb r.from 0 || ltb 3 n) ≡ true → in_force r (get_or b' 3 0) ≡ in_force r (get_or b 3 0)
  unfolding in_force
  in_force_agrees r e = go (eqb r.from 0) refl e
    where
      go : (t : Bool) → eqb r.from 0 ≡ t → (t || ltb 3 n) ≡ true
          → (t || (leb r.from (get_or b' 3 0) && leb (get_or b' 3 0) r.upto)) ≡ (t || (leb r.from (get_or b 3 0) && leb (get_or b 3 0) r.upto))
      go true q h = refl
      go false q h = rw (a.word 3 (lit≤ tt) (ltb-true 3 n h))

  -- what may stand at a word
  allows_agree : (k : Kind) → looks n k ≡ true → (w : ℕ) → allows b' k w ≡ allows b k w
  unfolding allows looks
  allows_agree (Range lo hi) l w = refl
  allows_agree (OneOf one two three) l w = refl
  allows_agree Band l w = refl
  allows_agree (BandsFrom first) l w = rw (among_agree first l)

  pub ruled_agree : (rs : List Rule) → inside n rs ≡ true → ruled b' rs ≡ ruled b rs
  unfolding ruled inside asks obeyed
  ruled_agree [] i = refl
  ruled_agree (r ∷ rs) i =
      let p = and_both (asks n r) (inside n rs) i in
      let q = and_both (among n r.off) _ p.0 in
      let l = and_both (looks n r.kind) _ q.1 in
      let f = and_both (eqb r.from 0 || ltb 3 n) _ l.1 in
      rw (in_force_agrees r f.0, among_agree r.off q.0, allows_agree r.kind l.0 (get_or b r.off 0), ruled_agree rs p.1)

  -- how many words there are at least
  more_agree : (m : More) → counts n m ≡ true → more_of m b' ≡ more_of m b
  unfolding counts more_of
  more_agree Nothing c = refl
  more_agree (Where at is words) c = rw (among_agree at c)
  more_agree (Counts at) c = let p = and_both (among n at) _ c in rw (among_agree at p.0, among_agree (at + 1) p.1)

  pub least_agree : (r : Row) → counts n r.more ≡ true → least_of r b' ≡ least_of r b
  unfolding least_of
  least_agree r c = rw (more_agree r.more c)

  -- BuffLength, in words 6 and 7
  long_agree : 7 < n → long_at b' 6 ≡ long_at b 6
  unfolding long_at
  long_agree h = rw (a.word 6 (lit≤ tt) (omega arith), a.word 7 (lit≤ tt) h)

  pub buffered_agree : (r : Row) → (r.logger ≡ true → 7 < n) → buffered r b' ≡ buffered r b
  unfolding buffered
  buffered_agree r h = go _ r.logger refl
    where
      go : (x : Result ⊤ Refusal) (t : Bool) → r.logger ≡ t → cond t (cond (whole_records r.width (long_at b' 6)) (Ok tt) x) (Ok tt) ≡ cond t (cond (whole_records r.width (long_at b 6)) (Ok tt) x) (Ok tt)
      go x true q = rw (long_agree (h q))
      go x false q = refl

  pub raw_agree : low (get_or b' 0 0) ≡ low (get_or b 0 0) → (low (get_or b 0 0) ≡ 0x0F → 7 < n) → raw_of b' ≡ raw_of b
  unfolding raw_of
  raw_agree e h = rw e (go (eqb (low (get_or b 0 0)) 0x0F) refl)
    where
      go : (t : Bool) → eqb (low (get_or b 0 0)) 0x0F ≡ t → cond t (long_at b' 6 / 2) 0 ≡ cond t (long_at b 6 / 2) 0
      go true q = rw (long_agree (h (eqb-true _ 0x0F q)))
      go false q = refl
