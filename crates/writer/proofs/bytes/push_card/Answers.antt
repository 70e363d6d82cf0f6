-- `writer::bytes::push_card` meets its contract: the word of the strike's message.
use Rattle.std.proofs.Common.{◌≡◌, get_or, arith, ◌∙◌}
use Rattle.strike.specs.Strikes.{message_good}
use Rattle.book.specs.Layout.{two_bytes}
use Rattle.text.proofs.WritingLaws.{part_start, part_room, part_next, part_end}
use Rattle.writer.specs.Writing.{card_bytes}
use Rattle.writer.proofs.Filled.{two_is, symbols_at, symbols_end}
use Rattle.writer.proofs.bytes.push_card.Goals as goal

pub invariant_of-message-2 : goal.invariant_of-message-2
invariant_of-message-2 c = record { small = rw (← c.message.ensures) at (message_good c.args.strike c.requires.good) }

pub loop-symbol-init : goal.loop-symbol-init
unfolding card_bytes
loop-symbol-init c = rw (c.word-symbol-items.ensures, c.message.ensures) (part_start _ _ (omega (arith, c.requires.room)))

pub extend_from_slice-requires : goal.extend_from_slice-requires
extend_from_slice-requires c =
    let w = c.word-symbol-items.result in
    let i = c.loop-symbol.symbol-index in
    let e : c.to_be_bytes.result ≡ two_bytes (get_or w i 0) = c.to_be_bytes.ensures ∙ two_is _ c.loop-symbol-test.element_fits.fits in
    rw e
    (part_room c.loop-symbol.invariant _ _ (symbols_at w i (omega arith)) c.requires.room)

pub loop-symbol-preserved : goal.loop-symbol-preserved
loop-symbol-preserved c =
    let w = c.word-symbol-items.result in
    let i = c.loop-symbol.symbol-index in
    let e : c.to_be_bytes.result ≡ two_bytes (get_or w i 0) = c.to_be_bytes.ensures ∙ two_is _ c.loop-symbol-test.element_fits.fits in
    part_next c.loop-symbol.invariant _ _ (symbols_at w i (omega arith)) (rw e at c.extend_from_slice.ensures)

pub returns : goal.returns
returns c = part_end c.loop-symbol.invariant (symbols_end c.word-symbol-items.result c.loop-symbol.symbol-index (omega arith))
