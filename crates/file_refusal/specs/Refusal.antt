-- A refusal is a number and a position, the same in a block, a file and an answer.
use Rattle.std.specs.Prelude.{Bool, ◌&&◌, ℕ, leb}
use Rattle.file_refusal.specs.declared.Refusal.{Refusal}

abbrev pub refusal : ℕ → ℕ → Refusal
refusal num at = record { num = num; at = at }

-- document 01 gives 1 to 9 to a file, and 10 and 11 to a call's other arguments
unfoldable pub is_of_file : ℕ → Bool
is_of_file num = leb 1 num && leb num 9
