-- `listing::lines::push_reading` meets its contract: the parts of the line one after another.
use Rattle.std.proofs.Common.{ℕ, arith, length-append}
use Rattle.listing.specs.Listing.{strike_line}
use Rattle.text.proofs.WritingLaws.{writes_then, writes_at, writes_length}
use Rattle.listing.proofs.lines.push_reading.Goals as goal

pub push_spaced-requires-3 : goal.push_spaced-requires-3
unfolding strike_line
push_spaced-requires-3 c =
    let w = writes_then (writes_then c.push_decimal.ensures c.push_spaced.ensures) c.push_spaced-2.ensures in
    omega (arith, length-append {A = ℕ}, writes_at w, writes_length w)

pub push_spaced-requires-4 : goal.push_spaced-requires-4
unfolding strike_line
push_spaced-requires-4 c =
    let w = writes_then (writes_then (writes_then c.push_decimal.ensures c.push_spaced.ensures) c.push_spaced-2.ensures) c.push_spaced-3.ensures in
    omega (arith, length-append {A = ℕ}, writes_at w, writes_length w)

pub push-requires : goal.push-requires
unfolding strike_line
push-requires c =
    let w = writes_then (writes_then (writes_then (writes_then c.push_decimal.ensures c.push_spaced.ensures) c.push_spaced-2.ensures) c.push_spaced-3.ensures) c.push_spaced-4.ensures in
    omega (arith, length-append {A = ℕ}, writes_at w, writes_length w)

pub returns : goal.returns
unfolding strike_line
returns c =
    writes_then (writes_then (writes_then (writes_then (writes_then c.push_decimal.ensures c.push_spaced.ensures) c.push_spaced-2.ensures) c.push_spaced-3.ensures) c.push_spaced-4.ensures)
    c.push.ensures
