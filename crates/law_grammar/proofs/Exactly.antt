-- Check accepts exactly the files of the grammar.
use mathlib.Core.Bool.{Bool, true, false, cond, not, ◌&&◌, false≢true}
use mathlib.Core.List.{List}
use mathlib.Core.Path.{◌≡◌, refl, sym, ap, ◌∙◌}
use Prim.Native.Nat.{ℕ, suc, ◌%◌}
use native.Mathlib.Omega.{arith}
use lib.Dec.{eqb}
use lib.ListN.{length}
use borrow.Author.Tests.{not-true, eqb-false, ne_eqb, ltb-false, le-ltb}
use Rattle.words.specs.Words.{words_of}
use Rattle.file_walk.specs.Walk.{Part, parts_of, laid_out, walked, Wholes}
use Rattle.file_walk.proofs.Segments.{closes, walk_laid_out, laid_out_walk}
use Rattle.words.proofs.Choice.{and_both, or_neither}
use Rattle.file_order.specs.Setup.{no_setup}
use Rattle.file_order.specs.Order.{only}
use Rattle.call_check.specs.Judge.{first_state, misfit, surveyed}
use Rattle.call_check.specs.Check.{outline_of, answered, verdict}
use Rattle.law_grammar.specs.Grammar.{Grammatical, Accepts}
use Rattle.law_grammar.proofs.Sentence.{takes_ordered, ordered_takes}
use Rattle.law_grammar.proofs.Takes.{takes, accepts, judge_takes}
use Rattle.file_refusal.specs.declared.Refusal.{Refusal}
use Rattle.call_check.specs.declared.judge.State.{State}
use Rattle.std.specs.declared.result.Result.TheVariants.{Ok, Err}
use Rattle.std.specs.declared.result.Result.{Result}

-- an acceptance, as a test
pub accepts_found : (file : List ℕ) → accepts (surveyed file) ≡ true → Accepts file
unfolding verdict answered accepts
accepts_found file e = go (surveyed file) refl e
  where
    go : (j : Result State Refusal) → surveyed file ≡ j → accepts j ≡ true → Accepts file
    go (Ok s) h t = record { found = outline_of s; answer = ap answered h }
    go (Err x) h t = absurd (false≢true t)

pub found_accepts : (file : List ℕ) → Accepts file → accepts (surveyed file) ≡ true
unfolding verdict answered accepts
found_accepts file a = go (surveyed file) a.answer
  where
    go : (j : Result State Refusal) → answered j ≡ Ok a.found → accepts j ≡ true
    go (Ok s) h = refl
    go (Err x) h = let z : ◌≡◌ {A = ℕ} 0 1 = cc in absurd (omega arith)

-- the acceptance of a file, without positions
pub surveyed_takes : (file : List ℕ)
    → accepts (surveyed file) ≡ (not (misfit file) && (closes (walked (words_of file)) && takes (only 0x01) no_setup (parts_of (walked (words_of file)))))
unfolding surveyed accepts
surveyed_takes file = go (misfit file) _ _ refl (judge_takes (walked (words_of file)) first_state)
  where
    go : (t : Bool) (i j : Result State Refusal) {x : Bool} → accepts i ≡ false → accepts j ≡ x → accepts (cond t i j) ≡ (not t && x)
    go true i j f e = f
    go false i j f e = e

-- the parts that a file is laid out of are those that the walk finds: there is one reading of a file at most
pub walked_parts : (ws : List ℕ) (ps : List Part) → Wholes ps → ws ≡ laid_out ps → (parts_of (walked ws) ≡ ps) × (closes (walked ws) ≡ true)
unfolding walked
walked_parts ws ps w e = rw e (walk_laid_out ps w (suc (length (laid_out ps))) 0 (omega arith))

pub accepted_exactly : (file : List ℕ) → (Accepts file → Grammatical file) × (Grammatical file → Accepts file)
unfolding misfit walked
accepted_exactly file = (to, from)
  where
    ws : List ℕ
    ws = words_of file

    to : Accepts file → Grammatical file
    to a =
        let x = and_both (not (misfit file)) _ (sym (surveyed_takes file) ∙ found_accepts file a) in
        let y = and_both (closes (walked ws)) _ x.1 in
        let fit = or_neither (eqb (length file % 2) 1) _ (not-true _ x.0) in
        let cut = laid_out_walk (suc (length ws)) 0 ws y.0 in
        record {
          even = omega (arith, eqb-false (length file % 2) 1 fit.0);
          short = ltb-false _ _ fit.1;
          parts = parts_of (walked ws);
          whole = cut.1;
          words = sym cut.0;
          order = takes_ordered _ y.1;
        }

    from : Grammatical file → Accepts file
    from g =
        let cut = walked_parts ws g.parts g.whole g.words in
        accepts_found file
        (surveyed_takes file
        ∙ simp (ne_eqb (length file % 2) 1 (omega (arith, g.even)), le-ltb 65536 (length file) g.short, cut.0, cut.1, ordered_takes g.order))
