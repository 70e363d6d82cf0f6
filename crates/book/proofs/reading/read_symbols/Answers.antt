-- `book::reading::read_symbols` meets its contract: it goes by what `any_above`, `decode_card` and `has_no_bell` answer, as `card_refusal` does.
use mathlib.Core.Path.{◌≡◌, sym, ◌∙◌, ap}
use mathlib.Core.Bool.{false}
use Rattle.algebra.specs.Tests.{any_above}
use Rattle.strike.specs.Strikes.{no_bell}
use Rattle.book.specs.CardReading.{card_range, found_none, found_near, found_bell, found_strike, decoded_message, card_passes}
use Rattle.book.proofs.reading.read_symbols.Goals as goal
use Rattle.book.proofs.reading.read_symbols.Goals.{Else-any_above}

pub returns-then-any_above : goal.returns-then-any_above
returns-then-any_above c = card_range _ (sym c.any_above.ensures ∙ c.if-any_above.true)

-- past the first test no symbol is above 728
inside : (c : Else-any_above) → any_above 728 c.args.symbols ≡ false
inside c = sym c.any_above.ensures ∙ c.if-any_above.false

pub invariant_of-card : goal.invariant_of-card
invariant_of-card c = record { is_card = card_passes c.args.symbols c.well_formed.0.1.0.1 (inside (goal.at.invariant_of-card c).Else-any_above) }

pub returns-in_default : goal.returns-in_default
returns-in_default c = found_none _ (inside (goal.at.returns-in_default c).Else-any_above) c.in_default.ensures.0

pub from_message-strike-requires : goal.from_message-strike-requires
from_message-strike-requires c =
    let f = c.in-Some.ensures in
    decoded_message _ _ (found_near _ (inside (goal.at.from_message-strike-requires c).Else-any_above) c.in-Some.near f.0 f.1)

pub returns-then-has_no_bell : goal.returns-then-has_no_bell
returns-then-has_no_bell c =
    let f = c.in-Some.ensures in
    let b = sym (c.has_no_bell.ensures ∙ ap no_bell c.from_message-strike.ensures) ∙ c.if-has_no_bell.true in
    found_bell _ (inside (goal.at.returns-then-has_no_bell c).Else-any_above) c.in-Some.near f.0 f.1 b

pub returns : goal.returns
returns c =
    let f = c.in-Some.ensures in
    let b = sym (c.has_no_bell.ensures ∙ ap no_bell c.from_message-strike.ensures) ∙ c.if-has_no_bell.false in
    rw c.from_message-strike.ensures (found_strike _ (inside (goal.at.returns c).Else-any_above) c.in-Some.near f.0 f.1 b)
