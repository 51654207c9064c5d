-- `row_of` is its row of the tables.
use Rattle.file_tables.specs.Table.{unlisted, alike, rows, row_of}
use Rattle.file_models.proofs.ListLaws.{found_none}
use Rattle.file_tables.proofs.TableLaws.{alike_is}
use Rattle.file_tables.proofs.row_of.Goals as goal

pub returns-in-1 : goal.returns-in-1
unfolding row_of
returns-in-1 c = rw (c.bare.ensures, c.in-1.is, alike_is)

pub returns-in-2 : goal.returns-in-2
unfolding row_of
returns-in-2 c = rw (c.unit.ensures, c.in-2.is, alike_is)

pub returns-in-3 : goal.returns-in-3
unfolding row_of
returns-in-3 c = rw (c.title.ensures, c.in-3.is, alike_is)

pub returns-in-4 : goal.returns-in-4
unfolding row_of
returns-in-4 c = rw (c.settings.ensures, c.in-4.is)

pub returns-in-5 : goal.returns-in-5
unfolding row_of
returns-in-5 c = rw (c.profiles.ensures, c.in-5.is)

pub returns-in-7 : goal.returns-in-7
unfolding row_of
returns-in-7 c = rw (c.results.ensures, c.in-7.is)

pub returns-in-14 : goal.returns-in-14
unfolding row_of
returns-in-14 c = rw (c.octave.ensures, c.in-14.is)

pub returns-in-16 : goal.returns-in-16
unfolding row_of
returns-in-16 c = rw (c.third.ensures, c.in-16.is, alike_is)

pub returns-in-9 : goal.returns-in-9
unfolding row_of
returns-in-9 c = rw (c.statistics.ensures, c.in-9.is, alike_is)

pub returns-in-11 : goal.returns-in-11
unfolding row_of
returns-in-11 c = rw (c.histogram_row.ensures, c.in-11.is, alike_is)

pub returns-in-15 : goal.returns-in-15
unfolding row_of
returns-in-15 c = rw (c.logger_row.ensures, c.in-15.is, alike_is)

pub returns-in_default : goal.returns-in_default
unfolding row_of
returns-in_default c = rw (c.unlisted.ensures, found_none (alike unlisted) (Unit {0}) rows _ c.in_default.in_default-own.rest, alike_is)
