-- `wear_lines::push_run` meets its contract: the parts of the line one after another.
use Rattle.std.proofs.Common.{ℕ, arith, length-append}
use Rattle.text.proofs.WritingLaws.{writes_then, writes_at, writes_length}
use Rattle.wear_lines.specs.WearLines.{run_line}
use Rattle.wear_lines.proofs.push_run.Goals as goal

pub push_spaced-requires-2 : goal.push_spaced-requires-2
unfolding run_line
push_spaced-requires-2 c =
    let w = writes_then c.push_decimal.ensures c.push_spaced.ensures in
    omega (arith, length-append {A = ℕ}, writes_at w, writes_length w)

pub push-requires : goal.push-requires
unfolding run_line
push-requires c =
    let w = writes_then (writes_then c.push_decimal.ensures c.push_spaced.ensures) c.push_spaced-2.ensures in
    omega (arith, length-append {A = ℕ}, writes_at w, writes_length w)

pub returns : goal.returns
unfolding run_line
returns c = writes_then (writes_then (writes_then c.push_decimal.ensures c.push_spaced.ensures) c.push_spaced-2.ensures) c.push.ensures
