-- `listing::lines::push_tune` meets its contract: the parts of the line one after another.
use Rattle.std.proofs.Common.{arith, length-append}
use Rattle.listing.specs.Listing.{tune_line}
use Rattle.text.proofs.WritingLaws.{writes_then, writes_at, writes_length}
use Rattle.listing.proofs.lines.push_tune.Goals as goal

pub push_spaced-requires : goal.push_spaced-requires
unfolding tune_line
push_spaced-requires c =
    omega (arith, simp length-append at c.requires, writes_at c.extend_from_slice.ensures, writes_length c.extend_from_slice.ensures)

pub push_spaced-requires-2 : goal.push_spaced-requires-2
unfolding tune_line
push_spaced-requires-2 c =
    let w = writes_then c.extend_from_slice.ensures c.push_spaced.ensures in
    omega (arith, simp length-append at c.requires, writes_at w, writes_length w)

pub push-requires : goal.push-requires
unfolding tune_line
push-requires c =
    let w = writes_then (writes_then c.extend_from_slice.ensures c.push_spaced.ensures) c.push_spaced-2.ensures in
    omega (arith, simp length-append at c.requires, simp length-append at (writes_at w), writes_length w)

pub returns : goal.returns
unfolding tune_line
returns c = writes_then (writes_then (writes_then c.extend_from_slice.ensures c.push_spaced.ensures) c.push_spaced-2.ensures) c.push.ensures
