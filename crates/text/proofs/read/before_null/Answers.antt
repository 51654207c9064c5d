use Rattle.text.proofs.Nulls.{null_first, null_none}
use Rattle.text.proofs.read.before_null.Goals as goal

pub returns-in-Some : goal.returns-in-Some
returns-in-Some c = null_first _ _ c.in-Some.ensures

pub returns-in-None : goal.returns-in-None
returns-in-None c = null_none _ c.in-None.ensures
