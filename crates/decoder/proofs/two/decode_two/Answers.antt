-- `decoder::two::decode_two` meets its contract. The loop's invariant: none of the attempts so far gave an answer.
use mathlib.Core.Path.{sym, ◌∙◌}
use native.Mathlib.Omega.{arith}
use Rattle.rank.specs.Definitions.{at}
use Rattle.coding.specs.DecodeTwo.{attempt}
use Rattle.candidate.specs.Finding.{found_message, first_none, first_next}
use Rattle.decoder.specs.Doubles.{prepared_of, two_single, two_found, two_none}
use Rattle.decoder.proofs.two.decode_two.Goals as goal

pub returns-then-known-eq0 : goal.returns-then-known-eq0
unfolding at
returns-then-known-eq0 c =
    let r = c.args.received in
    (c.find_single.ensures.0 ∙ two_single r.card.symbols r.card.is_card _ r.spectrum_is _ c.determinant-known.ensures c.if-known-eq0.true, c.find_single.ensures.1)

pub prepare-s-requires : goal.prepare-s-requires
unfolding at
prepare-s-requires c = c.determinant-known.ensures

pub loop-a-init : goal.loop-a-init
loop-a-init c = first_none _

pub attempt-requires : goal.attempt-requires
attempt-requires c =
    (omega arith, prepared_of c.args.received.card.symbols _ _ c.args.received.spectrum_is c.prepare-s.ensures)

pub returns-in-Some : goal.returns-in-Some
unfolding at found_message
returns-in-Some c =
    let r = c.args.received in (
      sym (two_found r.card.symbols r.card.is_card _ r.spectrum_is _ c.determinant-known.ensures c.if-known-eq0.false c.loop-a.a _
          c.loop-a.invariant (omega arith) (sym c.in-Some.ensures.0)),
      c.in-Some.ensures.1,
    )

pub loop-a-preserved : goal.loop-a-preserved
unfolding found_message
loop-a-preserved c = first_next (attempt _) c.loop-a.a c.loop-a.invariant (sym c.in_default.ensures.0)

pub returns : goal.returns
unfolding at found_message
returns c =
    let r = c.args.received in (
      sym (two_none r.card.symbols r.card.is_card _ r.spectrum_is _ c.determinant-known.ensures c.if-known-eq0.false c.loop-a.a
          (omega arith) c.loop-a-test.false c.loop-a.invariant),
      tt,
    )
