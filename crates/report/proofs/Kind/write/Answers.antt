-- `report::Kind::write` meets its contract: it goes by what `open` answers, as `report` does.
use Rattle.std.proofs.Common.{◌≡◌}
use Rattle.refusal.specs.Replies.{answer_value}
use Rattle.book.specs.Layout.{tunes}
use Rattle.book.specs.Accepted.{Accepted}
use Rattle.text.specs.Text.{book_refused}
use Rattle.report.specs.Reports.{report}
use Rattle.report.specs.Answers.{report_accepted, opened_refused}
use Rattle.report.proofs.Kind.write.Goals as goal
use Rattle.report.proofs.Kind.write.Goals.{After-into, In-Ok}

-- the book was refused: its report is one line
refused : (c : After-into) → report c.args.self c.args.book.now ≡ book_refused c.into.result
refused c = opened_refused _ _ _ _ _ c.in-Err.is c.«open».ensures c.into.ensures

-- the book was accepted: the report is that of its tunes
opened : (c : In-Ok) → Accepted c.args.book.now × (c.in-Ok.count ≡ tunes c.args.book.now)
opened c = answer_value _ _ _ _ c.in-Ok.is c.«open».ensures

pub write_tunes-requires : goal.write_tunes-requires
write_tunes-requires c =
    let o = opened (goal.at.write_tunes-requires c).In-Ok in
    record { accepted = o.0; count_is = o.1; room = rw (← report_accepted c.args.self c.args.book.now o.0) c.requires }

pub returns-in-Ok : goal.returns-in-Ok
returns-in-Ok c =
    let o = opened (goal.at.returns-in-Ok c).In-Ok in
    rw (report_accepted c.args.self c.args.book.now o.0) c.write_tunes.ensures

pub push_book_refused-requires : goal.push_book_refused-requires
push_book_refused-requires c = rw (← refused (goal.at.push_book_refused-requires c).After-into) c.requires

pub returns-in-Err : goal.returns-in-Err
returns-in-Err c = rw (refused (goal.at.returns-in-Err c).After-into) c.push_book_refused.ensures
