-- The user's third demand: "the new file is accepted too, and with the same label gives the same sheet and the same slim copy, byte
-- for byte".
use Rattle.std.specs.Prelude.{List, ◌≡◌, ℕ}
use Rattle.law_grammar.specs.Grammar.{Accepts}
use Rattle.call_slim.specs.Copy.{slim_copy}
use Rattle.sheet_page.specs.Sheet.{sheet_texts}

-- f is a file, and g that file with additions
pub record SameAnswers (f g : List ℕ) : Type 0 where
  pub accepted : Accepts g
  pub sheet : (label : List ℕ) → sheet_texts g label ≡ sheet_texts f label
  pub copy : slim_copy g ≡ slim_copy f
