-- `listing::tunes::write_tune` meets its contract: the first line, then the lines of the entry's own part of the book.
use native.Mathlib.Omega.{arith}
use Rattle.book.specs.Entries.{entry_parts}
use Rattle.text.proofs.WritingLaws.{writes_then, room_after}
use Rattle.listing.specs.Listing.{tune_text}
use Rattle.listing.specs.Sizes.{tune_text_length}
use Rattle.listing.proofs.tunes.write_tune.Goals as goal

pub push_tune-requires : goal.push_tune-requires
push_tune-requires c =
    let t = entry_parts _ _ _ c.tune.ensures in
    rw (t.0, t.1) (omega (arith, tune_text_length c.args.entry.now.book.now c.args.entry.now.place, c.requires))

pub push_body-requires : goal.push_body-requires
unfolding tune_text
push_body-requires c =
    let t = entry_parts _ _ _ c.tune.ensures in
    rw c.body.ensures (room_after (rw (t.0, t.1) at c.push_tune.ensures) _ c.requires)

pub returns : goal.returns
unfolding tune_text
returns c =
    let t = entry_parts _ _ _ c.tune.ensures in
    writes_then (rw (t.0, t.1) at c.push_tune.ensures) (rw c.body.ensures at c.push_body.ensures)
