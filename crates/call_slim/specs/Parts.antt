-- What the functions that Slim calls ask and answer; the promise of Slim itself cites none of it.
use Rattle.std.specs.Prelude.{true, ◌≡◌, ℕ, ◌+◌, ◌≤◌, length, get_or, take, drop, Ok}
use mathlib.Core.List.{List, flat_map}
use Rattle.file_walk.specs.Walk.{Part, raw_of}
use Rattle.file_rules.specs.Slim.{words_in}
use Rattle.file_order.specs.declared.setup.Setup.{Setup}
use Rattle.file_order.specs.Setup.{row_for}
use Rattle.file_slim.specs.Cut.{Cuts}
use Rattle.call_check.specs.declared.judge.State.{State}
use Rattle.call_check.specs.Judge.{surveyed}
use Rattle.call_check.specs.Slims.{slim_part}

-- an accepted file
pub record IsAccepted (file : List ℕ) : Type 0 where
  pub state : State
  pub passed : surveyed file ≡ Ok state

-- the words of a block and its raw contents in the slim copy; none of a block that is not listed
unfoldable pub part_words : Setup → Part → List ℕ
part_words s p = flat_map words_in (slim_part s p)

-- a block within a file of 32,768 words at most, and good by its row where it is listed
pub record Within (ws : List ℕ) (known : Setup) (start len : ℕ) : Type 0 where
  pub short : length ws ≤ 32768
  pub fits : start + (len + raw_of (take len (drop start ws))) ≤ length ws
  pub good : (row_for known (get_or (take len (drop start ws)) 0 0)).listed ≡ true
      → Cuts (row_for known (get_or (take len (drop start ws)) 0 0)) (take len (drop start ws))
