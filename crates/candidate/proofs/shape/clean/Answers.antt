-- `candidate::shape::clean` meets its contract: the card is the word of the message read off its spectrum.
use mathlib.Core.Path.{sym, ap, ◌∙◌}
use Rattle.coding.specs.Code.{word}
use Rattle.coding.specs.Spectrum.{spectrum}
use Rattle.coding.specs.WordSpectrum.{message_of}
use Rattle.coding.specs.Clean.{shaped_is_word}
use Rattle.coding.specs.Decode.{decode}
use Rattle.codec.specs.declared.dimension.Dimension.{Dimension}
use Rattle.codec.specs.Messages.{numbers_of}
use Rattle.candidate.specs.Places.{read_is, shaped_is}
use Rattle.candidate.proofs.shape.clean.Goals as goal

pub undamaged-requires : goal.undamaged-requires
unfolding message_of
undamaged-requires c =
    let (p, q) = c.args.k.within in
    let k = c.args.k.value in
    let card = c.args.received.card in
    let r = spectrum card.symbols in
    let e = c.args.received.spectrum_is in
    ap (λ (d : Dimension). word d.value (numbers_of c.read_message.result)) c.read_message.ensures.of_k
    ∙ ap (word k) (c.read_message.ensures.numbers ∙ read_is r _ e k q)
    ∙ shaped_is_word k p q card.symbols card.is_card (sym (shaped_is r _ e k q) ∙ c.requires)

pub returns : goal.returns
returns c = (
  c.undamaged.ensures.0 ∙ ap (λ (d : Dimension). decode d.value c.args.received.card.symbols) c.read_message.ensures.of_k,
  (c.undamaged.ensures.1.0 ∙ ap (λ (d : Dimension). d.value) c.read_message.ensures.of_k, c.undamaged.ensures.1.1),
)
