-- `decoder::single::find_single` meets its contract: the residual is a word's, and its message is checked, or it is none.
use mathlib.Core.Path.{sym, ap, ◌∙◌}
use Rattle.rank.specs.Definitions.{at}
use Rattle.coding.specs.Decode.{if_near}
use Rattle.codec.specs.declared.dimension.Dimension.{Dimension}
use Rattle.codec.specs.Messages.{numbers_of}
use Rattle.candidate.specs.Finding.{found_message}
use Rattle.decoder.specs.Singles.{unfit, fit}
use Rattle.decoder.proofs.single.find_single.Goals as goal

pub returns-then-not-is_word : goal.returns-then-not-is_word
unfolding at found_message
returns-then-not-is_word c =
    let r = c.args.received in
    (sym (unfit r.card.symbols _ r.spectrum_is c.args.u _ c.residual-f.ensures c.args.k.value c.requires (sym c.is_word.ensures ∙ c.if-not-is_word.true)), tt)

pub returns : goal.returns
unfolding at
returns c =
    let r = c.args.received in (
      c.near.ensures.0
          ∙ ap (λ (k : Dimension). if_near k.value r.card.symbols (numbers_of c.read_message.result)) c.read_message.ensures.of_k
          ∙ ap (if_near c.args.k.value r.card.symbols) c.read_message.ensures.numbers
          ∙ fit r.card.symbols _ r.spectrum_is c.args.u _ c.residual-f.ensures c.args.k.value c.requires (sym c.is_word.ensures ∙ c.if-not-is_word.false),
      rw c.read_message.ensures.of_k at c.near.ensures.1,
    )
