-- The grammar of accepted files: document 01's sentence on the order of listed blocks, each good by its row. It says what
-- an accepted file is, and not how one is found out.
use Rattle.std.specs.Prelude.{false, cond, List, [], ◌∷◌, ◌⊎◌, ◌≡◌, ℕ, ◌%◌, ◌≤◌, eqb, length, get_or, Ok}
use Rattle.words.specs.Words.{low, words_of}
use Rattle.file_models.specs.Models.{columns}
use Rattle.file_walk.specs.Walk.{Part, laid_out, Wholes}
use Rattle.file_rules.specs.Block.{kept}
use Rattle.file_order.specs.declared.setup.Setup.{Setup}
use Rattle.file_tables.specs.Table.{kind_of}
use Rattle.file_order.specs.Setup.{row_for, slim_of, learnt, no_setup}
use Rattle.file_order.specs.Order.{key_of}
use Rattle.call_check.specs.Check.{verdict}
use Rattle.call_check.specs.declared.check.Outline.{Outline}

-- what may stand somewhere: some blocks, by what is known before them
abbrev pub Blocks : Type 1
Blocks = Setup → List Part → Type 0

-- a block of an id that is not listed
pub record Unlisted (p : Part) : Type 0 where
  pub unlisted : (kind_of (low (get_or p.words 0 0))).listed ≡ false

-- a listed block with this key, good by its row
pub record Listed (key : ℕ) (s : Setup) (p : Part) : Type 0 where
  pub key_is : key_of (get_or p.words 0 0) ≡ key
  pub good : kept (row_for s (get_or p.words 0 0)) p.words ≡ Ok tt

-- what is known after a listed block, by its slim form
unfoldable pub known_after : Setup → Part → Setup
known_after s p = learnt s (slim_of s p.words p.raw)

-- no listed block any more; "Others are passed over whole"
pub data End : Setup → List Part → Type 0 where
  end : {s : Setup} → End s []
  pass : {s : Setup} (p : Part) {ps : List Part} → Unlisted p → End s ps → End s (p ∷ ps)

-- the listed block with this key, and then what may follow it; unlisted blocks before it are passed over
pub data Then (key : ℕ) (Next : Blocks) : Setup → List Part → Type 0 where
  here : {s : Setup} (p : Part) {ps : List Part} → Listed key s p → Next (known_after s p) ps → Then key Next s (p ∷ ps)
  pass : {s : Setup} (p : Part) {ps : List Part} → Unlisted p → Then key Next s ps → Then key Next s (p ∷ ps)

abbrev pub Either : Blocks → Blocks → Blocks
Either A B s ps = A s ps ⊎ B s ps

-- "0E if the function is 2, 10 if it is 3, neither if it is 1"; "function 4 has the block order of 1"
abbrev pub Spectrum : Blocks → Blocks
Spectrum Next s ps =
    cond (eqb s.function 2) (Then 0x0E Next s ps) (cond (eqb s.function 3) (Then 0x10 Next s ps) (Next s ps))

-- "09 followed by three 0B with nn 01, 02, 04"
abbrev pub Statistics : Blocks
Statistics = Then 0x09 (Then 0x010B (Then 0x020B (Then 0x040B End)))

-- "07, then 0E if the function is 2, 10 if it is 3, neither if it is 1, then optionally 09 .."
abbrev pub Measurement : Blocks
Measurement = Then 0x07 (Spectrum (Either Statistics End))

-- "0F with its contents"
abbrev pub Buffer : Blocks
Buffer = Then 0x0F End

-- "then either 0F with its contents, or 07, .."; "a 953 file with 0F is 4"
abbrev pub Contents : Blocks
Contents s ps = columns s.model (Either Buffer Measurement s ps) (Measurement s ps)

-- "01 (at word 0), 02, 03, 04, 05; then .."
pub data Ordered : List Part → Type 0 where
  ordered : (p : Part) {ps : List Part} → Listed 0x01 no_setup p
      → Then 0x02 (Then 0x03 (Then 0x04 (Then 0x05 Contents))) (known_after no_setup p) ps → Ordered (p ∷ ps)

-- a file of the grammar: bytes of an allowed length, that are the words of such blocks and the end marker, "and no word after it"
pub record Grammatical (file : List ℕ) : Type 0 where
  pub even : length file % 2 ≡ 0
  pub short : length file ≤ 65536
  pub parts : List Part
  pub whole : Wholes parts
  pub words : words_of file ≡ laid_out parts
  pub order : Ordered parts

-- Check answers acceptance
pub record Accepts (file : List ℕ) : Type 0 where
  pub found : Outline
  pub answer : verdict file ≡ Ok found
