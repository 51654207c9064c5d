-- What is due after a listed block is never the file header.
use mathlib.Core.Bool.{false, not}
use mathlib.Core.Path.{◌≡◌, refl}
use Prim.Native.Nat.{ℕ}
use lib.Dec.{eqb}
use borrow.Author.Tests.{not-true}
use Rattle.file_order.specs.declared.setup.Setup.{Setup}
use Rattle.file_order.specs.declared.order.Due.{Due}
use Rattle.file_order.specs.Order.{due_after, due_after_profiles, due_after_results}
use Rattle.file_order.proofs.OrderLaws.{after_passes}

pub record Later (d : Due) : Type 0 where
  pub no_header : eqb d.one 0x01 ≡ false

pub after_later : (s : Setup) (key : ℕ) → Later (due_after s key)
unfolding due_after_profiles due_after_results
after_later s key = record { no_header = not-true _ (after_passes (λ k d. not (eqb d.one 0x01)) refl s key refl) }
