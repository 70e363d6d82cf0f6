-- `decoder::single::decode_four` meets its contract. The loop's invariant: none of the attempts so far gave an answer.
use mathlib.Core.Path.{sym, ◌∙◌}
use native.Mathlib.Omega.{arith}
use Rattle.coding.specs.DecodeSingle.{attempt_four, decode_four, four_is_decode}
use Rattle.candidate.specs.Finding.{found_message, first_none, first_next, first_at, first_all}
use Rattle.decoder.proofs.single.decode_four.Goals as goal

pub loop-d-init : goal.loop-d-init
loop-d-init c = first_none _

pub returns-in-Some : goal.returns-in-Some
unfolding decode_four found_message
returns-in-Some c =
    let card = c.args.received.card in (
      sym (first_at (attempt_four card.symbols) _ c.loop-d.d 27 c.loop-d.invariant (omega arith) (sym c.in-Some.ensures.0)) ∙ four_is_decode card.symbols card.is_card,
      c.in-Some.ensures.1,
    )

pub loop-d-preserved : goal.loop-d-preserved
unfolding found_message
loop-d-preserved c = first_next (attempt_four _) c.loop-d.d c.loop-d.invariant (sym c.in_default.ensures.0)

pub returns : goal.returns
unfolding decode_four found_message
returns c =
    let card = c.args.received.card in
    (sym (first_all (attempt_four card.symbols) c.loop-d.d 27 (omega arith) c.loop-d-test.false c.loop-d.invariant) ∙ four_is_decode card.symbols card.is_card, tt)
