-- What a file holds: its listed blocks in slim form, and where each stands.
use Rattle.std.specs.Prelude.{cond, List, [], ◌∷◌, ◌++◌, ℕ, eqb, get_or}
use Rattle.words.specs.Words.{low, words_of}
use Rattle.file_walk.specs.Walk.{Part, parts_of, walked}
use Rattle.file_rules.specs.Slim.{Slim}
use Rattle.file_order.specs.declared.setup.Setup.{Setup}
use Rattle.file_tables.specs.Table.{kind_of}
use Rattle.file_order.specs.Setup.{no_setup, slim_of, learnt, id_in}
use Rattle.call_check.specs.Starts.{place_of}

-- a listed block in its slim form, by what is known before it; a block that is not listed leaves none
unfoldable pub slim_part : Setup → Part → List Slim
slim_part s p = cond (kind_of (low (get_or p.words 0 0))).listed (slim_of s p.words p.raw ∷ []) []

-- what is known after a block: a block that is not listed says nothing
unfoldable pub known_from : Setup → Part → Setup
known_from s p = cond (kind_of (low (get_or p.words 0 0))).listed (learnt s (slim_of s p.words p.raw)) s

-- the listed blocks in their slim forms, each by what is known from those before it: "a file is read by the model in its own block 02"
unfoldable pub slims : Setup → List Part → List Slim
slims s [] = []
slims s (p ∷ ps) = slim_part s p ++ slims (known_from s p) ps

-- the slim blocks of a file
unfoldable pub slims_in : List ℕ → List Slim
slims_in file = slims no_setup (parts_of (walked (words_of file)))

-- the slim form of a block that is absent
abbrev pub no_slim : Slim
no_slim = record { head = []; records = []; contents = [] }

-- the slim blocks from the one at a place on, where there is one, and else `found`: an accepted file has one at most
unfoldable pub slims_from : ℕ → List Slim → List Slim → List Slim
slims_from place found [] = found
slims_from place found (x ∷ xs) = slims_from place (cond (eqb (place_of (id_in x)) place) (x ∷ xs) found) xs

-- listed block k of those from the one with this id on, counted from 0
unfoldable pub slim_after : (id k : ℕ) → List Slim → Slim
slim_after id k xs = get_or (slims_from (place_of id) [] xs) k no_slim

-- the slim block with this id; "spectrum (0E or 10)" has one place
unfoldable pub slim_at : ℕ → List Slim → Slim
slim_at id xs = slim_after id 0 xs

-- ---- what is known at the end of a file: what its slim blocks say, one after another

unfoldable pub learnt_from : Setup → List Slim → Setup
learnt_from s [] = s
learnt_from s (x ∷ xs) = learnt_from (learnt s x) xs

unfoldable pub setup_in : List Slim → Setup
setup_in xs = learnt_from no_setup xs
