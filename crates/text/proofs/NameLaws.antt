-- Laws of a table of names: a code that is a key of it, and a code that is none.
use mathlib.Core.Path.{◌≡◌, refl, sym, ap}
use mathlib.Core.List.{List, [], ◌∷◌}
use Prim.Native.Nat.{ℕ, ◌≤◌, zero-le}
use borrow.Author.Tests.{ne_eqb}
use Rattle.text.proofs.Writing.{nothing, text_is, at_most}
use Rattle.text.specs.Text.{named, Wrote}

-- the name of a key was written
pub keyed : (table : List (ℕ × List ℕ)) (key code : ℕ) {d e : List ℕ} {n p q : ℕ} → code ≡ key → Wrote (named table key) p d e n → p ≤ q
    → Wrote (named table code) q d e n
keyed table key code h w m = at_most (text_is w (ap (named table) (sym h))) m

-- the text of a variant was written
pub told : {A : Type 0} (text : A → List ℕ) {x variant : A} {d e : List ℕ} {n p q : ℕ} → x ≡ variant → Wrote (text variant) p d e n → p ≤ q → Wrote (text x) q d e n
told text h w m = at_most (text_is w (ap text (sym h))) m

-- N, and the code is none of the table's keys
abbrev pub Others : {A : Type 0} → Type 0 → List (ℕ × A) → ℕ → Type 0
Others N [] code = N
Others N (n ∷ ns) code = Others (N × (code ≡ n.0 → ⊥)) ns code

pub others_front : {A : Type 0} (N : Type 0) (table : List (ℕ × A)) (code : ℕ) → Others N table code → N
others_front N [] code h = h
others_front N (n ∷ ns) code h = (others_front (N × (code ≡ n.0 → ⊥)) ns code h).0

named_other : (N : Type 0) (table : List (ℕ × List ℕ)) (code : ℕ) → Others N table code → named table code ≡ []
unfolding named
named_other N [] code h = refl
named_other N (n ∷ ns) code h =
    let M = N × (code ≡ n.0 → ⊥) in
    rw (ne_eqb code n.0 (others_front M ns code h).1) (named_other M ns code h)

-- nothing was written for a code that is no key
pub unkeyed : (table : List (ℕ × List ℕ)) (code : ℕ) (d : List ℕ) {q : ℕ} → Others (Unit {0}) table code → Wrote (named table code) q d d 0
unkeyed table code d h = text_is (at_most (nothing d) zero-le) (sym (named_other (Unit {0}) table code h))
