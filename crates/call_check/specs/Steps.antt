-- The end of the walk, as the code takes it.
use Rattle.std.specs.Prelude.{◌<◌}
use Rattle.file_walk.specs.declared.Stop.{Stop}

-- what is asked of it: an end marker stands in a file of at most 32,768 words
abbrev pub Ends : Stop → Type 0
Ends (Stop.End at left) = at < 65536
Ends (Stop.Refused r) = Unit {0}
