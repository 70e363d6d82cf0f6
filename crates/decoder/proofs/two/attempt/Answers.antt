-- `decoder::two::attempt` meets its contract: the last symbol decides, or else `near` of the message proposed.
use mathlib.Core.Path.{◌≡◌, sym, ap, ◌∙◌}
use mathlib.Core.List.{[], ◌∷◌}
use Rattle.algebra.specs.SmallField.{low}
use Rattle.coding.specs.Code.{is_message}
use Rattle.coding.specs.Spectrum.{spectrum}
use Rattle.coding.specs.Decode.{if_near}
use Rattle.coding.specs.DecodeTwo.{ninth, zeroth_error, proposed}
use Rattle.candidate.specs.Finding.{found_message}
use Rattle.decoder.specs.Doubles.{ninth_by, inner_by, proposed_is, proposed_message, attempt_none, attempt_some}
use Rattle.decoder.proofs.two.attempt.Goals as goal
use Rattle.decoder.proofs.two.attempt.Goals.{After-high, After-low-fourth}

-- the last symbol's ninth power
last : (h : After-high) →
    h.quotient-v.result ≡ ninth (spectrum h.args.card) (zeroth_error (spectrum h.args.card) h.args.a)
last h =
    ninth_by (spectrum h.args.card) h.args.s h.requires.1 h.args.a _ _ h.small_symbol-x.ensures h.at-d.ensures _ _ h.at.ensures
    h.quotient-v.ensures

-- the message, before it is checked against the card
proposal : (c : After-low-fourth) → c.quotient-v.result ≡ ninth (spectrum c.args.card) (zeroth_error (spectrum c.args.card) c.args.a) →
    c.args.a ∷ c.low-second.result ∷ c.high-third.result ∷ c.low-fourth.result ∷ [] ≡ proposed (spectrum c.args.card) c.args.a
proposal c l =
    let f = inner_by (spectrum c.args.card) c.args.s c.requires.1 c.args.a _ _ c.small_symbol-x.ensures c.at-d.ensures _ c.inner_coefficient-f.ensures in
    proposed_is (spectrum c.args.card) c.args.a _ _ _ _ _ l f c.low-second.ensures c.high-third.ensures (c.low-fourth.ensures ∙ ap low c.cube.ensures)

pub returns-then-high-ne0 : goal.returns-then-high-ne0
unfolding found_message
returns-then-high-ne0 c =
    (sym (attempt_none c.args.card c.args.a _ (last (goal.at.returns-then-high-ne0 c).After-high) (λ z. c.if-high-ne0.true (c.high.ensures ∙ z))), tt)

pub invariant_of-message-2 : goal.invariant_of-message-2
invariant_of-message-2 c = record {
  small =
      ap (is_message 2) (proposal (goal.at.invariant_of-message-2 c).After-low-fourth (last (goal.at.invariant_of-message-2 c).After-high))
      ∙ proposed_message (spectrum c.args.card) c.args.a c.requires.0;
}

pub returns : goal.returns
returns c = (
  c.near.ensures.0
      ∙ ap (if_near 2 c.args.card) (proposal (goal.at.returns c).After-low-fourth (last (goal.at.returns c).After-high))
      ∙ sym (attempt_some c.args.card c.args.a _ (last (goal.at.returns c).After-high) (sym c.high.ensures ∙ c.if-high-ne0.false)),
  c.near.ensures.1,
)
