-- `decoder::decoding::decode_damaged` meets its contract: k decides which way.
use native.Mathlib.Omega.{arith}
use mathlib.Core.Path.{◌≡◌, sym, ◌∙◌}
use Rattle.rank.specs.Definitions.{at}
use Rattle.coding.specs.Spectrum.{spectrum}
use Rattle.coding.specs.Clean.{unshaped_five}
use Rattle.candidate.specs.Finding.{found_message}
use Rattle.candidate.specs.Places.{shaped_is}
use Rattle.decoder.specs.Singles.{three_single}
use Rattle.decoder.proofs.decoding.decode_damaged.Goals as goal

pub returns-in_default : goal.returns-in_default
unfolding found_message
returns-in_default c =
    let five : c.args.k.value ≡ 5 = omega arith in
    let r = c.args.received in
    let unshaped = sym (shaped_is (spectrum r.card.symbols) _ r.spectrum_is c.args.k.value c.args.k.within.1) ∙ c.requires in
    (sym (rw five (unshaped_five r.card.symbols r.card.is_card (rw five at unshaped))), tt)

pub returns-in-3 : goal.returns-in-3
unfolding at
returns-in-3 c =
    let r = c.args.received in
    (c.find_single.ensures.0 ∙ rw c.in-3.is (three_single r.card.symbols _ r.spectrum_is r.card.is_card), c.find_single.ensures.1)
