-- What `?` hands on is the error that it was given.
use mathlib.Core.Path.{◌≡◌, ap, ◌∙◌}
use Rattle.std.specs.Prelude.{Result, Err, IsErrAnd}
use Rattle.std.proofs.lemmas.Result.{err_from_is_err_and}

pub handed_on : {T E : Type 0} (t : Result T E) (x : E) → IsErrAnd t (λ y. y ≡ x) → t ≡ Err x
handed_on t x h = let p = err_from_is_err_and t h in p.1 ∙ ap Err p.2
