-- A block that may be put between others is not listed, and counts itself.
use mathlib.Core.Bool.{Bool, true, false, cond, not, ◌&&◌, false≢true}
use mathlib.Core.List.{List, [], ◌∷◌}
use mathlib.Core.Path.{◌≡◌, sym, ap, ◌∙◌}
use Prim.Native.Nat.{ℕ, ◌<◌}
use native.Mathlib.Omega.{arith}
use lib.Dec.{eqb, ltb}
use lib.ListN.{length, get_or}
use borrow.Author.Tests.{not-true, eqb-true, eqb-false, ltb-true, ne_eqb, le-ltb}
use Rattle.words.specs.Words.{low, high}
use Rattle.words.proofs.Choice.{and_both}
use Rattle.file_walk.specs.Walk.{refused, cut, end_marker, long_form, fronted, front_of, raw_of, Whole}
use Rattle.file_tables.specs.Table.{row_of, kind_of}
use Rattle.law_additions.specs.Additions.{count_in, may_be_put}

pub record Put (b : List ℕ) : Type 0 where
  pub unlisted : (kind_of (low (get_or b 0 0))).listed ≡ false
  pub no_end : get_or b 0 0 ≡ end_marker → ⊥
  pub some : 0 < length b
  pub counts : count_in b ≡ length b

pub put_says : (b : List ℕ) → may_be_put b ≡ true → Put b
unfolding may_be_put
put_says b e =
    let tests : (not (kind_of (low (get_or b 0 0))).listed && (not (eqb (get_or b 0 0) end_marker) && (ltb 0 (length b) && eqb (count_in b) (length b)))) ≡ true = e in
    let p = and_both _ _ tests in
    let q = and_both _ _ p.1 in
    let r = and_both _ _ q.1 in
    record {
      unlisted = not-true _ p.0;
      no_end = eqb-false _ _ (not-true _ q.0);
      some = ltb-true _ _ r.0;
      counts = eqb-true _ _ r.1;
    }

-- the long form has its length in word 1, so it has two words at least
long_two : (b : List ℕ) → 0 < length b → get_or b 1 0 ≡ length b → 1 < length b
long_two [] h e = absurd (omega arith)
long_two (w ∷ []) h e = absurd (omega (arith, e))
long_two (w ∷ (v ∷ b)) h e = omega arith

put_front : (b : List ℕ) → Put b → front_of b ≡ cut (length b)
unfolding front_of fronted count_in
put_front b p = simp (ne_eqb (length b) 0 (λ z. omega (arith, p.some)), ne_eqb (get_or b 0 0) end_marker p.no_end) (go (long_form (get_or b 0 0)) p.counts)
  where
    go : (t : Bool) → cond t (get_or b 1 0) (high (get_or b 0 0)) ≡ length b
        → cond t (cond (ltb (length b) 2) (refused 2) (cond (ltb (get_or b 1 0) 2) (refused 3) (cond (ltb (length b) (get_or b 1 0)) (refused 2) (cut (get_or b 1 0)))))
        (cond (ltb (length b) (high (get_or b 0 0))) (refused 2) (cut (high (get_or b 0 0))))
        ≡ cut (length b)
    go true e = simp (e, le-ltb (length b) 2 (omega (arith, long_two b p.some e)), le-ltb (length b) (length b) (omega arith))
    go false e = simp (e, le-ltb (length b) (length b) (omega arith))

pub put_whole : (b : List ℕ) → Put b → Whole (record { words = b; raw = [] })
unfolding raw_of row_of
put_whole b p =
    let no : low (get_or b 0 0) ≡ 0x0F → ⊥ = λ e. false≢true (sym p.unlisted ∙ ap (λ (i : ℕ). (kind_of i).listed) {x = low (get_or b 0 0)} {y = 0x0F} e) in
    record { counted = put_front b p; followed = simp (ne_eqb (low (get_or b 0 0)) 0x0F no) }
