use mathlib.Core.Path.{◌≡◌, ap}
use lib.ListN.{get_or}
use Rattle.words.specs.Numbers.{numbers_from}
use Rattle.words.proofs.NumberLaws.{numbers_length, number_at}
use Rattle.text.proofs.Pieces.{begin, next, ended}
use Rattle.call_check.specs.Starts.{place_count}
use Rattle.text.specs.Text.{named}
use Rattle.text.proofs.Writing.{text_is}
use Rattle.print_check.specs.Replies.{entry, keys, start_entry}
use native.Mathlib.Omega.{arith}
use Rattle.print_check.proofs.put_starts.Goals as goal

pub loop-place-init : goal.loop-place-init
loop-place-init c = begin _ _ _ _

pub loop-place-preserved : goal.loop-place-preserved
unfolding start_entry
loop-place-preserved c =
    let number = number_at 0 place_count c.loop-place.place (omega arith) in
    let place : c.loop-place.place ≡ get_or (numbers_from 0 place_count) c.loop-place.place 0 = omega (arith, number) in
    next (start_entry c.args.starts) 19 (numbers_from 0 place_count) c.loop-place.invariant (omega (arith, numbers_length 0 place_count)) (omega (arith, numbers_length 0 place_count)) place
    (text_is c.put_entry-at.ensures (ap (entry (named keys c.loop-place.place)) c.start.ensures))

pub returns : goal.returns
returns c = ended _ 19 _ c.loop-place.invariant (omega (arith, numbers_length 0 place_count)) (omega (arith, numbers_length 0 place_count))
