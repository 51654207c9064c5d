-- What a block that has grown has in common with what it was, for any kind of growth.
use mathlib.Core.Bool.{true, false}
use mathlib.Core.Path.{◌≡◌, refl, sym, ◌∙◌}
use Prim.Native.Nat.{suc}
use lib.ListN.{length, get_or}
use Rattle.words.specs.Words.{low}
use Rattle.file_walk.specs.Walk.{Part, Whole}
use Rattle.file_rules.specs.Block.{nulled, readable, kept}
use Rattle.file_rules.specs.Slim.{counted}
use Rattle.file_rules.proofs.BlockLaws.{kept_says}
use Rattle.file_order.specs.declared.setup.Setup.{Setup}
use Rattle.file_tables.specs.Table.{kind_of}
use Rattle.file_order.specs.Setup.{row_for, slim_of}
use Rattle.file_order.specs.Order.{key_of}
use Rattle.file_order.proofs.KnownLaws.{row_exact, row_text}
use Rattle.law_additions.specs.Additions.{recounted, Grown, as_is, table, title}
use Rattle.law_additions.proofs.RecordGrowth.{counted_low}
use Rattle.law_additions.proofs.FirstWord.{same_row, same_key}
use Rattle.law_additions.proofs.TableGrowth.{is, table_good, table_slim, table_whole}
use Rattle.law_additions.proofs.TitleGrowth.{said, is_text_lem, title_good, title_slim, title_whole}
use Rattle.std.specs.declared.result.Result.TheVariants.{Ok}

pub record Same (s : Setup) (p p' : Part) : Type 0 where
  pub id : low (get_or p'.words 0 0) ≡ low (get_or p.words 0 0)
  pub key : key_of (get_or p'.words 0 0) ≡ key_of (get_or p.words 0 0)
  pub good : kept (row_for s (get_or p'.words 0 0)) p'.words ≡ Ok tt
  pub whole : Whole p → Whole p'
  pub slim : slim_of s p'.words p'.raw ≡ slim_of s p.words p.raw

pub grown_same : {p p' : Part} → Grown p p' → (s : Setup) → kept (row_for s (get_or p.words 0 0)) p.words ≡ Ok tt → Same s p p'
unfolding recounted counted readable
grown_same (as_is p) s g = record { id = refl; key = refl; good = g; whole = λ w. w; slim = refl }
grown_same (table h w {t} {t'} raw may rs) s g =
    let l = counted_low h (suc (suc (length t'))) in
    let x = (is s h w raw may rs).1.0 in
    record {
      id = l;
      key = same_key h _ l x;
      good = rw (same_row h _ l x s) (table_good s h w raw may rs g);
      whole = table_whole s h w raw may rs g;
      slim = table_slim s h w raw may rs g;
    }
grown_same (title h t t' raw may null text) s g =
    let l = counted_low h (suc (length t')) in
    let i = is_text_lem s h t t' raw may null text in
    let x : (kind_of (low h)).exact ≡ false = sym (row_exact s h) ∙ i.exact in
    let was : nulled t ≡ true = rw (row_text s h ∙ (said s h t t' raw may null text).1) at (kept_says _ _ g).null in
    record {
      id = l;
      key = same_key h _ l x;
      good = rw (same_row h _ l x s) (title_good s h t t' raw may null text g);
      whole = title_whole s h t t' raw may null text;
      slim = title_slim s h t t' raw may null text was;
    }
