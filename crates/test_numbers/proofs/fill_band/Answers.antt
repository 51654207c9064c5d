use borrow.Author.Rules.{rules}
use Rattle.test_numbers.specs.Rows.{band_line}
use Rattle.test_numbers.proofs.BandLaws.{line_some}
use Rattle.test_numbers.proofs.fill_band.Goals as goal

pub write_line-requires-clause-puts : goal.write_line-requires-clause-puts
write_line-requires-clause-puts c = (band_line c.args.f, record { some = line_some c.args.f; takes = λ s h. search rules; wrote = λ s t n h k. search rules })

pub returns : goal.returns
returns c = c.write_line.ensures (band_line c.args.f) (record { some = line_some c.args.f; takes = λ s h. search rules; wrote = λ s t n h k. search rules })
