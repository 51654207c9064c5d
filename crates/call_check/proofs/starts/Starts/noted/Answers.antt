-- `starts::Starts::noted` is `noted`.
use mathlib.Core.Path.{refl}
use Rattle.file_models.proofs.ListLaws.{found_none}
use Rattle.call_check.specs.Starts.{places, place_count, place_of, noted}
use Rattle.call_check.proofs.starts.Starts.noted.Goals as goal

pub returns-in-1 : goal.returns-in-1
unfolding noted place_of
returns-in-1 c = rw c.in-1.is refl

pub returns-in-2 : goal.returns-in-2
unfolding noted place_of
returns-in-2 c = rw c.in-2.is refl

pub returns-in-3 : goal.returns-in-3
unfolding noted place_of
returns-in-3 c = rw c.in-3.is refl

pub returns-in-4 : goal.returns-in-4
unfolding noted place_of
returns-in-4 c = rw c.in-4.is refl

pub returns-in-5 : goal.returns-in-5
unfolding noted place_of
returns-in-5 c = rw c.in-5.is refl

pub returns-in-7 : goal.returns-in-7
unfolding noted place_of
returns-in-7 c = rw c.in-7.is refl

pub returns-in-14 : goal.returns-in-14
unfolding noted place_of
returns-in-14 c = rw c.in-14.is refl

pub returns-in-16 : goal.returns-in-16
unfolding noted place_of
returns-in-16 c = rw c.in-16.is refl

pub returns-in-9 : goal.returns-in-9
unfolding noted place_of
returns-in-9 c = rw c.in-9.is refl

pub returns-in-15 : goal.returns-in-15
unfolding noted place_of
returns-in-15 c = rw c.in-15.is refl

pub returns-in_default : goal.returns-in_default
unfolding noted place_of
returns-in_default c = rw (found_none place_count (Unit {0}) places _ c.in_default.in_default-own.rest) refl
