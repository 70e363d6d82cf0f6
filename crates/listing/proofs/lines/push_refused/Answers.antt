-- `listing::lines::push_refused` meets its contract: the parts of the line one after another.
use Rattle.std.proofs.Common.{ℕ, arith, length-append}
use Rattle.listing.specs.Listing.{refused_line}
use Rattle.text.proofs.WritingLaws.{writes_then, writes_at, writes_length}
use Rattle.listing.proofs.lines.push_refused.Goals as goal

pub push_spaced-requires : goal.push_spaced-requires
unfolding refused_line
push_spaced-requires c =
    let w = writes_then c.push_decimal.ensures c.extend_from_slice.ensures in
    rw c.into.ensures (omega (arith, length-append {A = ℕ}, writes_at w, writes_length w))

pub push-requires : goal.push-requires
unfolding refused_line
push-requires c =
    let w = writes_then (writes_then c.push_decimal.ensures c.extend_from_slice.ensures) (rw c.into.ensures at c.push_spaced.ensures) in
    omega (arith, length-append {A = ℕ}, writes_at w, writes_length w)

pub returns : goal.returns
unfolding refused_line
returns c =
    writes_then (writes_then (writes_then c.push_decimal.ensures c.extend_from_slice.ensures) (rw c.into.ensures at c.push_spaced.ensures)) c.push.ensures
