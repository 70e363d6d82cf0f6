-- `book::entries::Entry::body` meets its contract: the part of an entry of an accepted book lies within it, and is a body.
use mathlib.Core.Path.{◌≡◌}
use native.Mathlib.Nat.{add-sub_cancel_left}
use native.Mathlib.Omega.{arith}
use Prim.Native.Nat.{◌+◌, ◌*◌, ◌-◌, ◌≤◌}
use lib.ListN.{take, drop, length}
use Rattle.book.specs.Layout.{part_of}
use Rattle.book.proofs.Accepted.{part_within, part_good}
use Rattle.book.proofs.entries.Entry.body.Goals as goal
use Rattle.book.proofs.entries.Entry.body.Goals.{After-from}

within : (c : After-from) → c.fields-fields.result.offset + 12 * c.from.result ≤ length c.args.self.now.book.now
within c = let a = c.args.self.now.accepted in rw (c.from.ensures, c.fields-fields.ensures) (part_within _ a.0 _ a.1)

part : (c : After-from) → let f = c.fields-fields.result in
    take (f.offset + 12 * c.from.result - f.offset) (drop f.offset c.args.self.now.book.now) ≡ part_of c.args.self.now.book.now c.args.self.now.place
unfolding part_of
part c = rw (add-sub_cancel_left, c.from.ensures, c.fields-fields.ensures)

pub slice_bounds-result-end : goal.slice_bounds-result-end
slice_bounds-result-end c = omega (arith, within (goal.at.slice_bounds-result-end c).After-from)

pub returns : goal.returns
returns c = part (goal.at.returns c).After-from

pub invariant_of-result : goal.invariant_of-result
invariant_of-result c =
    let a = c.args.self.now.accepted in
    record { good = rw (part (goal.at.invariant_of-result c).After-from) (part_good _ a.0 _ a.1) }
