-- The order of the listed blocks (document 01, Walking the blocks): after each block, what is due.
use Rattle.std.specs.Prelude.{Bool, cond, ◌||◌, List, [], ◌∷◌, ℕ, eqb}
use Rattle.words.specs.Words.{low}
use Rattle.file_walk.specs.Walk.{end_marker}
use Rattle.file_models.specs.Models.{columns}
use Rattle.file_models.specs.Lists.{lookup}
use Rattle.file_order.specs.declared.setup.Setup.{Setup}
use Rattle.file_order.specs.declared.order.Due.{Due}

-- what a block is in the order: its id; "three 0B with nn 01, 02, 04" are three
unfoldable pub key_of : ℕ → ℕ
key_of w = cond (eqb (low w) 0x0B) w (low w)

-- what may come next has room for three: the two, or the one
abbrev pub either : ℕ → ℕ → Due
either a b = record { one = a; two = b; three = b }

abbrev pub only : ℕ → Due
only k = either k k

unfoldable pub is_due : Due → ℕ → Bool
is_due d k = eqb k d.one || (eqb k d.two || eqb k d.three)

-- no listed block has the id 00
abbrev pub nothing : Due
nothing = only 0x00

-- "01 (at word 0)": where another block stands there, nothing is due any more
unfoldable pub passed_over : Due → Due
passed_over d = cond (eqb d.one 0x01) nothing d

-- "function 4 has the block order of 1"; "then 0E if the function is 2, 10 if it is 3, neither if it is 1, then optionally 09 .. Then the end marker"
unfoldable pub due_after_results : ℕ → Due
due_after_results function = cond (eqb function 2) (only 0x0E) (cond (eqb function 3) (only 0x10) (either 0x09 end_marker))

-- "then either 0F with its contents, or 07"; "a 953 file with 0F is 4"
unfoldable pub due_after_profiles : ℕ → Due
due_after_profiles model = columns model (either 0x0F 0x07) (only 0x07)

-- "01 (at word 0), 02, 03, 04, 05; then either 0F with its contents, or 07, .. then optionally 09 followed by three 0B with nn
-- 01, 02, 04. Then the end marker": each key, and what is due after it
abbrev pub order : Setup → List (ℕ × Due)
order s =
    (0x01, only 0x02)
    ∷ (0x02, only 0x03)
    ∷ (0x03, only 0x04)
    ∷ (0x04, only 0x05)
    ∷ (0x05, due_after_profiles s.model)
    ∷ (0x07, due_after_results s.function)
    ∷ (0x0E, either 0x09 end_marker)
    ∷ (0x10, either 0x09 end_marker)
    ∷ (0x09, only 0x010B)
    ∷ (0x010B, only 0x020B)
    ∷ (0x020B, only 0x040B)
    ∷ []

-- after any other block the end marker is due
unfoldable pub due_after : Setup → ℕ → Due
due_after s key = lookup (only end_marker) (order s) key
