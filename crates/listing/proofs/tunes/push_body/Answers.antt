-- `listing::tunes::push_body` meets its contract: the card lines, then the last line.
use native.Mathlib.Omega.{arith}
use Rattle.listing.specs.Listing.{body_text}
use Rattle.listing.specs.Sizes.{body_text_length}
use Rattle.text.proofs.WritingLaws.{writes_then, room_after}
use Rattle.listing.proofs.tunes.push_body.Goals as goal

pub push_cards-ticks-requires : goal.push_cards-ticks-requires
push_cards-ticks-requires c = omega (arith, body_text_length c.args.body.now.bytes.now, c.requires)

pub push_ticks-requires : goal.push_ticks-requires
unfolding body_text
push_ticks-requires c =
    let e = c.push_cards-ticks.ensures in
    rw e.ticks (room_after e.writes _ c.requires)

pub returns : goal.returns
unfolding body_text
returns c =
    let e = c.push_cards-ticks.ensures in
    writes_then e.writes (rw e.ticks at c.push_ticks.ensures)
