-- `wear_lines::write_tune` meets its contract: the answer of `worst_run` decides which line it is.
use Rattle.std.proofs.Common.{◌≡◌}
use Rattle.book.specs.Entries.{entry_parts}
use Rattle.wear_lines.specs.WearLines.{run_line, short_line, wear_line}
use Rattle.wear_lines.specs.Lines.{line_run, line_short}
use Rattle.wear_lines.proofs.write_tune.Goals as goal
use Rattle.wear_lines.proofs.write_tune.Goals.{In-Err, In-Ok}

-- the line with the entry's number
run_line_is : (c : In-Ok) → wear_line c.args.entry.now.book.now c.args.entry.now.place ≡ run_line c.tune-number.result.number c.in-Ok.run'
run_line_is c =
    let t = entry_parts _ _ _ c.tune-number.ensures in
    rw t.0 (line_run _ _ c.args.entry.now.accepted _ (rw c.body.ensures at c.worst_run.ensures) _ c.in-Ok.is)

short_line_is : (c : In-Err) → wear_line c.args.entry.now.book.now c.args.entry.now.place ≡ short_line c.tune-number.result.number
short_line_is c =
    let t = entry_parts _ _ _ c.tune-number.ensures in
    rw t.0 (line_short _ _ c.args.entry.now.accepted _ (rw c.body.ensures at c.worst_run.ensures) _ c.in-Err.is)

pub push_run-requires : goal.push_run-requires
push_run-requires c = rw (← run_line_is (goal.at.push_run-requires c).In-Ok) c.requires

pub push_short-requires : goal.push_short-requires
push_short-requires c = rw (← short_line_is (goal.at.push_short-requires c).In-Err) c.requires

pub returns-in-Ok : goal.returns-in-Ok
returns-in-Ok c = rw (run_line_is (goal.at.returns-in-Ok c).In-Ok) c.push_run.ensures

pub returns-in-Err : goal.returns-in-Err
returns-in-Err c = rw (short_line_is (goal.at.returns-in-Err c).In-Err) c.push_short.ensures
