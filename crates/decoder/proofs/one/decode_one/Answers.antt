-- `decoder::one::decode_one` meets its contract: the determinant decides whether the error has rank at most 1, or a message is checked.
use mathlib.Core.Path.{ap, ◌∙◌}
use Prim.Native.Nat.{ℕ}
use Rattle.coding.specs.Decode.{if_near}
use Rattle.rank.specs.Definitions.{at}
use Rattle.codec.specs.Messages.{numbers_of}
use Rattle.decoder.specs.Doubles.{one_single, one_double}
use Rattle.decoder.proofs.one.decode_one.Goals as goal

pub returns-then-known-eq0 : goal.returns-then-known-eq0
unfolding at
returns-then-known-eq0 c =
    let r = c.args.received in
    (c.find_single.ensures.0 ∙ one_single r.card.symbols r.card.is_card _ r.spectrum_is _ c.determinant-known.ensures c.if-known-eq0.true, c.find_single.ensures.1)

pub solved_pair-f-requires : goal.solved_pair-f-requires
unfolding at
solved_pair-f-requires c = c.determinant-known.ensures

pub returns : goal.returns
unfolding at
returns c =
    let r = c.args.received in (
      c.near.ensures.0
          ∙ ap (λ (k : ℕ). if_near k r.card.symbols (numbers_of c.two_numbers.result)) c.two_numbers.ensures.one
          ∙ one_double r.card.symbols r.card.is_card _ r.spectrum_is _ c.determinant-known.ensures c.if-known-eq0.false _ _ c.solved_pair-f.ensures c.two_numbers.ensures.numbers,
      rw c.two_numbers.ensures.one at c.near.ensures.1,
    )
