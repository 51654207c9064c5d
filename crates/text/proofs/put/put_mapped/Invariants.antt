use Rattle.std.proofs.Common.{◌≡◌, ℕ, ◌<◌, map, take}
use Rattle.text.specs.Text.{Wrote}
use Rattle.text.proofs.put.put_mapped.Given as goal

abbrev pub invariant-loop-i : goal.invariant-loop-i
invariant-loop-i g l = (h : ℕ → ℕ) → ((b r : ℕ) → b < 256 → goal.F-post g l.f b r → r ≡ h b) → Wrote (take l.i (map h l.src)) l.i l.initial.out l.out l.i
