-- `put_spectrum_filter` meets its contract: the model picks the table.
use borrow.Author.Tests.{eq-eqb, ne_eqb}
use Rattle.sheet_names.specs.Names.{spectrum_filters}
use Rattle.sheet_names.proofs.put_spectrum_filter.Goals as goal

pub returns-then-model-eq953 : goal.returns-then-model-eq953
unfolding spectrum_filters
returns-then-model-eq953 c = rw (eq-eqb _ 953 c.if-model-eq953.true) c.put_profile_filter.ensures

pub returns : goal.returns
unfolding spectrum_filters
returns c = rw (ne_eqb _ 953 c.if-model-eq953.false) c.put_octave_filter.ensures
