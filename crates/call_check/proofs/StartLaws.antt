-- The record's starts, by place: what is noted of an id stands at its place, and all else stays. One law for all places.
use mathlib.Core.Bool.{Bool, true, false, cond, ◌&&◌}
use mathlib.Core.List.{List, [], map}
use mathlib.Core.Path.{◌≡◌, refl, sym, ap, ◌∙◌}
use Prim.Native.Nat.{ℕ, ◌<◌}
use native.Mathlib.Nat.{zero-add}
use native.Mathlib.Omega.{arith}
use lib.Dec.{eqb, ltb}
use lib.ListN.{get_or, set}
use lib.Seq.{get_or-set_same, get_or-set_other}
use borrow.Author.Tests.{ltb-true, eqb-true, eqb-false, eq-eqb, ne_eqb}
use Rattle.words.specs.Numbers.{numbers_from}
use Rattle.words.proofs.Choice.{and_both}
use Rattle.words.proofs.NumberLaws.{number_there}
use Rattle.file_models.proofs.ListLaws.{all, found_passes}
use Rattle.call_check.specs.declared.starts.Starts.{Starts}
use Rattle.call_check.specs.Starts.{absent, places, place_count, place_of, starts_in, starts_of, noted}

-- the start at a place of the record
abbrev pub start_at : ℕ → Starts → ℕ
start_at place s = get_or (starts_in s) place absent

-- the start of the block with this id
unfoldable pub start_of : ℕ → Starts → ℕ
start_of id s = start_at (place_of id) s

starts_back : (at : List ℕ) → starts_in (starts_of at) ≡ map (λ i. get_or at i absent) (numbers_from 0 place_count)
unfolding numbers_from
starts_back at = refl

module _ (place : ℕ) (small : place < place_count) where
  start_of_lem : (at : List ℕ) → start_at place (starts_of at) ≡ get_or at place absent
  start_of_lem at =
      ap (λ (l : List ℕ). get_or l place absent) (starts_back at) ∙ number_there (λ i. get_or at i absent) 0 place_count place absent small ∙ ap (λ (i : ℕ). get_or at i absent) (zero-add place)

  pub none_noted : start_at place (starts_of []) ≡ absent
  none_noted = start_of_lem []

  pub start_noted : (s : Starts) (id at : ℕ) → start_at place (noted s id at) ≡ cond (eqb (place_of id) place) at (start_at place s)
  unfolding noted
  start_noted s id at = start_of_lem (set (starts_in s) (place_of id) at) ∙ go (eqb (place_of id) place) refl
    where
      go : (t : Bool) → eqb (place_of id) place ≡ t → get_or (set (starts_in s) (place_of id) at) place absent ≡ cond t at (start_at place s)
      go true q = rw (eqb-true (place_of id) place q) (get_or-set_same (starts_in s) place at absent small)
      go false q = get_or-set_other (starts_in s) (place_of id) place at absent (λ z. eqb-false (place_of id) place q (sym z))

-- ---- the ids at a place, by one test of the list

pub ids_at : (f : ℕ → Bool) (place : ℕ) → place < place_count → all (λ i p. cond (eqb p place) (f i) true) places ≡ true → (id : ℕ) → place_of id ≡ place → f id ≡ true
unfolding place_of
ids_at f place small a id e =
    let test = found_passes (λ i p. cond (eqb p place) (f i) true) {none = place_count} places a id (rw (ne_eqb place_count place (λ z. omega arith))) in
    rw (eq-eqb (place_of id) place e) at test

-- an id that has a place of its own: `own 0x03 ≡ true` is computed
unfoldable pub own : ℕ → Bool
own id = ltb (place_of id) place_count && all (λ i p. cond (eqb p (place_of id)) (eqb i id) true) places

module _ (id : ℕ) (o : own id ≡ true) where
  pub own_small : place_of id < place_count
  unfolding own
  own_small = ltb-true _ _ (and_both (ltb (place_of id) place_count) _ o).0

  pub own_id : (i : ℕ) → place_of i ≡ place_of id → i ≡ id
  unfolding own
  own_id i e = eqb-true i id (ids_at (λ k. eqb k id) (place_of id) own_small (and_both (ltb (place_of id) place_count) _ o).1 i e)

  pub own_test : (i : ℕ) → eqb (place_of i) (place_of id) ≡ eqb i id
  own_test i = go (eqb (place_of i) (place_of id)) refl
    where
      go : (t : Bool) → eqb (place_of i) (place_of id) ≡ t → t ≡ eqb i id
      go true q = sym (eq-eqb i id (own_id i (eqb-true _ _ q)))
      go false q = sym (ne_eqb i id (λ z. eqb-false _ _ q (ap place_of z)))
