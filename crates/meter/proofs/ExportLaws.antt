-- The answers of Sheet and Slim, as the structs that a caller from outside gets.
use mathlib.Core.List.{List}
use mathlib.Core.Path.{◌≡◌, sym, ap, ◌∙◌}
use Prim.Native.Nat.{ℕ}
use Rattle.call_sheet.specs.Reply.{Sheeted}
use Rattle.call_slim.specs.Copy.{Slimmed}
use Rattle.meter.specs.declared.SheetReply.{SheetReply}
use Rattle.meter.specs.declared.SlimReply.{SlimReply}
use Rattle.meter.specs.Exports.{sheet_struct, slim_struct, SheetGiven, SlimGiven}
use Rattle.meter.proofs.FieldLaws.{answer_of_sheet, answer_of_slim}
use Rattle.file_refusal.specs.declared.Refusal.{Refusal}
use Rattle.paging.specs.declared.fit.Progress.{Progress}
use Rattle.std.specs.declared.result.Result.{Result}

pub sheet_given : {file label : List ℕ} {n : ℕ} {before after : List ℕ} {a : Result Progress Refusal} {r : SheetReply}
    → Sheeted file label n before after a → sheet_struct a ≡ r → SheetGiven file label n before after r
sheet_given h e = record { answer_is = sym e ∙ ap sheet_struct (answer_of_sheet h); output_is = h.output_is }

pub slim_given : {file before after : List ℕ} {a : Result ℕ Refusal} {r : SlimReply} → Slimmed file before after a → slim_struct a ≡ r → SlimGiven file before after r
slim_given h e = record { answer_is = sym e ∙ ap slim_struct (answer_of_slim h); output_is = h.output_is }
