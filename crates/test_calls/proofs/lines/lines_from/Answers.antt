-- `lines::lines_from` meets its contract: what Sheet counts fits into the output.
use Rattle.std.proofs.Common.{rules, ◌≡◌, ℕ, List, ◌≤◌, length, arith}
use Rattle.std.specs.Prelude.{Result, Ok, Err, IfSome}
use Rattle.std.specs.Result.{result_ok}
use Rattle.file_refusal.specs.declared.Refusal.{Refusal}
use Rattle.paging.specs.declared.fit.Progress.{Progress}
use Rattle.call_sheet.specs.Reply.{Sheeted}
use Rattle.call_sheet.proofs.WrittenLaws.{success, counts_within}
use Rattle.test_calls.proofs.lines.lines_from.Goals as goal

within : {file label : List ℕ} {n : ℕ} {before after : List ℕ} (r : Result Progress Refusal)
    → Sheeted file label n before after r → length after ≡ length before → IfSome (result_ok r) (λ p. p.bytes ≤ length after)
within (Ok p) s e = omega (arith, counts_within (success p s))
within (Err x) s e = tt

pub returns : goal.returns
returns c =
    rw c.ok.ensures.value (within c.sheet.result c.sheet.ensures (search rules))
