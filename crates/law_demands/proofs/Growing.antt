-- Blocks with words at their ends, and files of them with strange blocks between, are additions.
use mathlib.Core.Bool.{true}
use mathlib.Core.List.{List, [], ◌∷◌, ◌++◌, map, append-nil}
use mathlib.Core.Path.{◌≡◌, refl}
use Prim.Native.Nat.{ℕ, suc, ◌+◌, ◌*◌}
use lib.ListN.{length}
use Rattle.words.specs.Words.{low}
use Rattle.file_walk.specs.Walk.{long_form, Part}
use Rattle.file_rules.specs.Slim.{counted}
use Rattle.file_tables.specs.Table.{row_of, kind_of}
use Rattle.law_additions.specs.Additions.{may_grow, count_in, may_be_put, recounted, Records, rest, next, Grown, as_is, table, Adds, end, block, put, Additions, additions}
use Rattle.law_additions.proofs.RecordGrowth.{counted_low, counted_high}
use Rattle.law_demands.specs.Files.{alone, longer, with_records}
use Rattle.law_demands.specs.Instances.{strange, between, after_header}

-- ---- blocks

-- a table block, by its sub-blocks and what is after them
pub table_grown : (h w : ℕ) (raw : List ℕ) {k : ℕ} {t t' : List ℕ} → may_grow (kind_of (low h)) ≡ true → (kind_of (low h)).subs.count ≡ k → Records k t t'
    → Grown (record { words = recounted (h ∷ (w ∷ t)); raw = raw }) (record { words = recounted (h ∷ (w ∷ t')); raw = raw })
unfolding recounted counted
table_grown h w raw {k} {t} {t'} may e rs =
    let n = suc (suc (length t)) in
    let l = counted_low h n in
    let by : Records (kind_of (low (low h + 256 * n))).subs.count t t' = rw (l, e) rs in
    rw l at (table (low h + 256 * n) w raw (rw l may) by)

-- a block with no sub-blocks
pub longer_grown : (h w : ℕ) (t more : List ℕ) → may_grow (kind_of (low h)) ≡ true → (kind_of (low h)).subs.count ≡ 0
    → Grown (longer [] (h ∷ (w ∷ t))) (longer more (h ∷ (w ∷ t)))
unfolding longer alone
longer_grown h w t more may none = rw (append-nil t) (table_grown h w [] may none (rest t more))

-- a sub-block
record_longer : {k : ℕ} (h : ℕ) (s more : List ℕ) {t t' : List ℕ} → Records k t t' → Records (suc k) (recounted (h ∷ s ++ []) ++ t) (recounted (h ∷ s ++ more) ++ t')
unfolding recounted counted
record_longer h s more rs =
    let n = suc (length s) in
    rw (append-nil s) (rw (counted_low h n) at (next (low h + 256 * n) s more (counted_high h n) rs))

-- a block with three
pub records_grown : (id word a b c : ℕ) (x y z more : List ℕ) → may_grow (kind_of (low id)) ≡ true → (kind_of (low id)).subs.count ≡ 3
    → Grown (with_records [] id word (a ∷ x) (b ∷ y) (c ∷ z)) (with_records more id word (a ∷ x) (b ∷ y) (c ∷ z))
unfolding with_records alone
records_grown id word a b c x y z more may three =
    table_grown id word [] may three (record_longer a x more (record_longer b y more (record_longer c z more (rest [] more))))

-- ---- files

-- blocks that have grown, one by one
pub data AllGrown : List Part → List Part → Type 0 where
  none : AllGrown [] []
  one : {p p' : Part} {ps ps' : List Part} → Grown p p' → AllGrown ps ps' → AllGrown (p ∷ ps) (p' ∷ ps')

-- those that stay as they are
pub all_as_is : (ps : List Part) → AllGrown ps ps
all_as_is [] = none
all_as_is (p ∷ ps) = one (as_is p) (all_as_is ps)

pub grown_append : {ps ps' qs qs' : List Part} → AllGrown ps ps' → AllGrown qs qs' → AllGrown (ps ++ qs) (ps' ++ qs')
grown_append none b = b
grown_append (one g a) b = one g (grown_append a b)

strange_put : {ps ps' : List Part} → Adds ps ps' → Adds ps (map alone strange ++ ps')
unfolding strange alone may_be_put count_in long_form row_of
strange_put a = put _ refl (put _ refl (put _ refl a))

between_adds : {ps ps' : List Part} → AllGrown ps ps' → Adds ps (between ps')
unfolding between
between_adds none = rw (← append-nil (map alone strange)) (strange_put end)
between_adds (one g a) = strange_put (block g (between_adds a))

pub header_adds : {ps ps' : List Part} {p p' : Part} → Grown p p' → AllGrown ps ps' → Additions (p ∷ ps) (after_header (p' ∷ ps'))
unfolding after_header
header_adds g a = additions g (between_adds a)
