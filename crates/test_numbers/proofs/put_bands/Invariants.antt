-- `put_bands` meets its contract: a run over the lines of the bands.
use lib.ListN.{take}
use Rattle.paging.specs.Run.{Continued}
use Rattle.test_numbers.specs.Rows.{band_lines}
use Rattle.test_numbers.proofs.put_bands.Given as goal

abbrev pub invariant-loop-band : goal.invariant-loop-band
invariant-loop-band l = Continued (take l.band-index band_lines) l.initial.out l.out l.initial.run l.run
