-- A listed block of an accepted file can be cut by its row.
use mathlib.Core.Bool.{true, false, false≢true}
use mathlib.Core.List.{List}
use mathlib.Core.Logic.{◌⊎◌, inl, inr}
use mathlib.Core.Path.{◌≡◌, sym, ap, ◌∙◌}
use Prim.Native.Nat.{ℕ, ◌≤◌, ◌<◌}
use native.Mathlib.Omega.{arith}
use lib.ListN.{length, get_or, take, drop, length-drop}
use borrow.Author.Tests.{ne_eqb}
use Rattle.words.specs.Words.{low, high}
use Rattle.words.proofs.WordLaws.{Below, below_drop, below_take}
use Rattle.file_walk.specs.declared.Cursor.{Cursor}
use Rattle.file_walk.specs.Walk.{cut, front_of, long_form, raw_of}
use Rattle.file_walk.proofs.Fronts.{front_cuts}
use Rattle.file_walk.proofs.Segments.{cut_whole}
use Rattle.file_rules.specs.Block.{readable}
use Rattle.file_rules.proofs.BlockLaws.{Kept, kept_says, kept_full, kept_short}
use Rattle.file_order.specs.declared.setup.Setup.{Setup}
use Rattle.file_tables.specs.Table.{row_of, kind_of}
use Rattle.file_order.specs.Setup.{row_for}
use Rattle.file_order.proofs.KnownLaws.{each_sound, row_listed, row_exact}
use Rattle.file_slim.specs.Cut.{Cuts}
use Rattle.call_check.specs.declared.judge.State.{State}
use Rattle.call_check.proofs.Seen.{Through, unlisted, listed}
use Rattle.call_check.proofs.Onward.{Passes}
use Rattle.call_slim.specs.Parts.{Within}

-- ---- a listed block of an accepted file can be cut

-- a listed block that is no histogram counts itself in its first word
counts_itself : (w : ℕ) → (kind_of (low w)).listed ≡ true → (kind_of (low w)).exact ≡ false → (high w ≡ 0 → ⊥) → long_form w ≡ false
unfolding row_of long_form
counts_itself w l x h =
    simp (
      ne_eqb (high w) 0 h,
      ne_eqb (low w) 0x0B (λ e. false≢true (sym x ∙ ap (λ (i : ℕ). (kind_of i).exact) e)),
      ne_eqb (low w) 0x14 (λ e. false≢true (sym (ap (λ (i : ℕ). (kind_of i).listed) e) ∙ l)),
    )

module _ (b : List ℕ) (below : Below 65536 b) (whole : front_of b ≡ cut (length b)) where
  cut_short : long_form (get_or b 0 0) ≡ false → length b < 256
  cut_short f = go (front_cuts b (length b) whole).size
    where
      go : ((long_form (get_or b 0 0) ≡ true) × (2 ≤ get_or b 1 0) × (length b ≡ get_or b 1 0)) ⊎ ((long_form (get_or b 0 0) ≡ false) × (length b ≡ high (get_or b 0 0))) → length b < 256
      go (inl (t, two, z)) = absurd (false≢true (sym f ∙ t))
      go (inr (t, z)) = omega (arith, z, below 0)

  kept_cuts : (s : Setup) → (row_for s (get_or b 0 0)).listed ≡ true → Kept (row_for s (get_or b 0 0)) b → Cuts (row_for s (get_or b 0 0)) b
  unfolding readable
  kept_cuts s l k =
      let w = get_or b 0 0 in
      record {
        sound = each_sound s w;
        listed = l;
        long = λ x. kept_full (row_for s w) b k;
        short = λ x. cut_short (counts_itself w (sym (row_listed s w) ∙ l) (sym (row_exact s w) ∙ x) (kept_short k x));
        null = λ t. rw t at k.null;
        subs = k.subs;
      }

-- ---- a block that Slim goes over

pub inside : {ws : List ℕ} {m : ℕ} {s s' : State} {start len : ℕ} {next : Cursor} → Below 65536 ws → length ws ≤ 32768 → Passes ws m s s' start len next → Within ws s.setup start len
inside {ws} {s = s} {start = start} {len} below few o =
    record {
      short = few;
      fits = o.fits;
      good = by o.through;
    }
  where
    fits : raw_of (take len (drop start ws)) ≤ length (drop len (drop start ws))
    fits = omega (arith, o.fits, length-drop len (drop start ws), length-drop start ws)

    by : Through s start (take len (drop start ws)) o.state → (row_for s.setup (get_or (take len (drop start ws)) 0 0)).listed ≡ true
        → Cuts (row_for s.setup (get_or (take len (drop start ws)) 0 0)) (take len (drop start ws))
    by (unlisted l e) y = absurd (false≢true (sym l ∙ sym (row_listed s.setup _) ∙ y))
    by (listed l d g e) y =
        kept_cuts (take len (drop start ws)) (below_take len (drop start ws) (omega arith) (below_drop start ws below)) (cut_whole (drop start ws) len o.front fits).counted s.setup y (kept_says _ _ g)
