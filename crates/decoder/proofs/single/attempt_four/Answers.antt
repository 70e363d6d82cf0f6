-- `decoder::single::attempt_four` meets its contract: the first coefficient refuses, or else all of them decide.
use mathlib.Core.Path.{sym, ◌∙◌}
use Rattle.candidate.specs.Finding.{found_message}
use Rattle.decoder.specs.Singles.{four_some, four_none}
use Rattle.decoder.proofs.single.attempt_four.Goals as goal

pub returns-then-high-ne0 : goal.returns-then-high-ne0
unfolding found_message
returns-then-high-ne0 c =
    let r = c.args.received in (
      sym (four_none r.card.symbols _ r.spectrum_is c.args.d _ c.last_error-u.ensures _ c.first_coefficient.ensures
          (λ z. c.if-high-ne0.true (c.high.ensures ∙ z))),
      tt,
    )

pub returns : goal.returns
returns c =
    let r = c.args.received in
    (c.find_single.ensures.0 ∙ four_some r.card.symbols _ r.spectrum_is c.args.d _ c.last_error-u.ensures, c.find_single.ensures.1)
