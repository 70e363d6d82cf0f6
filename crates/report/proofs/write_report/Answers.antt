-- `report::write_report` meets its contract: where there is room for the longest report there is room for this one.
use Rattle.std.proofs.Common.{◌≡◌, arith, length, ◌∙◌, rules}
use Rattle.refusal.specs.Replies.{reply_with, unless}
use Rattle.text.specs.Writing.{Wrote}
use Rattle.text.proofs.WritingLaws.{room_short, room_enough}
use Rattle.report.specs.Reports.{report, longest}
use Rattle.report.specs.Sizes.{report_within}
use Rattle.report.proofs.write_report.Goals as goal
use Rattle.report.proofs.write_report.Goals.{After-write}

pub returns-then-text-lt-LONGEST : goal.returns-then-text-lt-LONGEST
unfolding reply_with unless
returns-then-text-lt-LONGEST c = let e = room_short longest c.args.text.now (omega arith) in record { answers = rw e; text_after = rw e }

pub write-requires : goal.write-requires
write-requires c =
    let n = c.new-lent.ensures in
    rw (n.as_it_was, n.at_start) (omega (arith, report_within c.args.kind c.args.book.now))

-- what was written, from the beginning of the text on
written_is : (c : After-write) → Wrote c.args.text.now 0 (report c.args.kind c.args.book.now) c.write.new.text.list.now c.write.new.text.at
written_is c = let n = c.new-lent.ensures in rw (n.as_it_was, n.at_start) at c.write.ensures.wrote

pub overflow_cast-result : goal.overflow_cast-result
overflow_cast-result c =
    let w = written_is (goal.at.overflow_cast-result c).After-write in
    omega (arith, w.after, report_within c.args.kind c.args.book.now)

pub returns : goal.returns
unfolding reply_with unless
returns c =
    let e = room_enough longest c.args.text.now (omega arith) in
    let w = written_is (goal.at.returns c).After-write in
    let s = c.write.ensures.same_list ∙ c.new-lent.ensures.same_list in
    let a : c.write.new.text.at ≡ length (report c.args.kind c.args.book.now) = omega (arith, w.after) in
    record { answers = rw (e, a); text_after = rw (e, ← w.text) (search rules) }
