-- "A file is read by the model in its own block 02" (request T-01): what differs between the 945 and the 953 stands in two
-- columns.
use Rattle.std.specs.Prelude.{cond, ℕ, eqb}

-- by the unit type: the 945's, or the 953's
module _ {ℓ} {A : Type ℓ} where
  abbrev pub columns : ℕ → A → A → A
  columns model a b = cond (eqb model 953) b a
