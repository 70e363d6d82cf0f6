-- `listing::tunes::push_cards` meets its contract: the lines of the cards before card n were written, and their delays added.
use native.Mathlib.Omega.{arith}
use Rattle.book.specs.Bounds.{good_length}
use Rattle.book.specs.Delays.{adding_fits}
use Rattle.listing.specs.Lines.{cards_start, cards_room, cards_next, cards_end}
use Rattle.listing.proofs.tunes.push_cards.Goals as goal

pub overflow_add-n-end : goal.overflow_add-n-end
overflow_add-n-end c = omega (arith, good_length _ c.args.body.now.good)

pub loop-n-init : goal.loop-n-init
loop-n-init c = cards_start _ _ c.args.body.now.good (omega (arith, c.requires))

pub push_card-requires : goal.push_card-requires
push_card-requires c = cards_room c.loop-n.invariant (omega arith) c.requires _ c.card-read.ensures

pub add_delay-ticks-requires : goal.add_delay-ticks-requires
add_delay-ticks-requires c =
    adding_fits _ _ _ c.loop-n.invariant.adding _ c.args.body.now.good (omega arith) c.card-read.ensures

pub loop-n-preserved : goal.loop-n-preserved
loop-n-preserved c =
    cards_next c.loop-n.invariant (omega arith) _ c.card-read.ensures _ c.add_delay-ticks.ensures c.push_card.ensures

pub returns : goal.returns
returns c = let e = cards_end c.loop-n.invariant (omega arith) in record { writes = e.0; ticks = e.1 }
