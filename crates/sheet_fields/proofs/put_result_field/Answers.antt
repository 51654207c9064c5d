-- `put_result_field` meets its contract: each arm writes its kind of number.
use mathlib.Core.List.{List, ◌++◌}
use Prim.Native.Nat.{ℕ}
use native.Mathlib.Omega.{arith}
use Rattle.text.specs.Ascii.{ascii}
use Rattle.text.proofs.NameLaws.{told}
use Rattle.sheet_results.specs.declared.Number.{Number}
use Rattle.sheet_fields.specs.Fields.{result_field}
use Rattle.sheet_fields.proofs.put_result_field.Goals as goal

abbrev after_comma : ℕ → Number → List ℕ
after_comma w number = ascii "," ++ result_field number w

pub returns-in-Level : goal.returns-in-Level
unfolding result_field
returns-in-Level c = told (after_comma _) c.in-Level.is c.put_level.ensures (omega arith)

pub returns-in-Plain : goal.returns-in-Plain
unfolding result_field
returns-in-Plain c = told (after_comma _) c.in-Plain.is c.put_whole.ensures (omega arith)
