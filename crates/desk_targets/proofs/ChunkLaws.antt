-- What a test of the chunks of a slice finds: whether one of the chunks of 40 bytes is a text.
use mathlib.Core.Bool.{Bool, true, false}
use mathlib.Core.List.{List}
use mathlib.Core.Path.{◌≡◌, refl, sym, ◌∙◌}
use native.Mathlib.Omega.{arith}
use denote.Ref.{Bor}
use denote.Param.Members.{Mut, Called}
use Rattle.std.specs.Prelude.{ℕ, ◌+◌, ◌*◌, ◌<◌, ◌≤◌, length, take, drop, IfSome, IsSomeAnd, IsTrue}
use Rattle.std.specs.Prelude.{Option, Some, None}
use Rattle.std.specs.Bool.{Decides, MatchBool}
use Rattle.std.specs.List.{IsSubsliceAt}
use Rattle.std.specs.Option.{option_map}
use Rattle.std.specs.Iterator.Runs.{SomeRun, EveryRun, AnyItemGives, AllItemsGive, CallKeepsClosure, IsChunksExactRun}
use Rattle.std.specs.Slice.Iter.{chunks_exact_steps, chunks_exact_size, chunks_exact_rest}
use Rattle.std.specs.declared.slice.ChunksExact.{ChunksExact}
use Rattle.desk_targets.specs.Target.{IsInput}

module _ {F : Type 0} (g : Mut F (Bor (List ℕ) × Unit {0}) Bool) (f : F) (ids id : List ℕ) (says : (x : Bor (List ℕ)) (b : Bool) → Called g f (x, tt) b f → Decides b (x.now ≡ id)) where
  found : (k : ℕ) (o : Option (Bor (List ℕ))) → IsSomeAnd o (λ x. Called g f (x, tt) true f)
      → IfSome o (λ x. (length x.now ≡ 40) × (k * 40 + 40 ≤ length ids) × IsSubsliceAt 40 ids (k * 40) x.now)
      → (j : ℕ) × (40 * j + 40 ≤ length ids) × (take 40 (drop (40 * j) ids) ≡ id)
  found k None a b = elim a [ ]
  found k (Some x) a b = let e : 40 * k ≡ k * 40 = omega arith in (k, omega arith, rw e (sym b.2.0 ∙ (says x true a).0 refl))

  missed : (k : ℕ) (o : Option (Bor (List ℕ))) {y : Bor (List ℕ)} → option_map (λ z. z) o ≡ Some y → IfSome o (λ x. Called g f (x, tt) false f)
      → IfSome o (λ x. (length x.now ≡ 40) × (k * 40 + 40 ≤ length ids) × IsSubsliceAt 40 ids (k * 40) x.now)
      → take 40 (drop (40 * k) ids) ≡ id → ⊥
  missed k None e a b q = absurd (cc)
  missed k (Some x) e a b q =
      let n : 40 * k ≡ k * 40 = omega arith in
      let t : false ≡ true = (says x false a).1 (b.2.0 ∙ (rw n at q)) in absurd (cc)

  pub input_is : {s : ChunksExact ℕ} {r : Bool} → chunks_exact_rest s ≡ ids → chunks_exact_size s ≡ 40
      → EveryRun (chunks_exact_steps {A = ℕ}) (λ p. 0 < chunks_exact_size p.from → IsChunksExactRun p (chunks_exact_size p.from) (chunks_exact_rest p.from))
      → SomeRun (chunks_exact_steps {A = ℕ}) s (λ p. MatchBool r (AnyItemGives p g f true) (IsTrue p.whole × AllItemsGive p g f false))
      → CallKeepsClosure g f → IsInput ids id r
  input_is {r = true} e n every (p, at, any) keeps =
      let run : IsChunksExactRun p 40 ids = rw (at, e, n) at (every p p.seen) (omega arith) in
      let hit = any keeps in
      (λ _. found hit.0 (p.at hit.0) hit.2 (run.2 hit.0), λ q. absurd (cc))
  input_is {r = false} e n every (p, at, none) keeps =
      let run : IsChunksExactRun p 40 ids = rw (at, e, n) at (every p p.seen) (omega arith) in
      (λ q. absurd (cc), λ _ k within. missed k (p.at k) (p.reads k (record { ref_ptr = (0, 0); now = id }) (rw (run.1 none.0) (omega arith))) (none.1 keeps k) (run.2 k))
