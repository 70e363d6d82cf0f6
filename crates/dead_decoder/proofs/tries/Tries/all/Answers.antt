-- `dead_decoder::tries::Tries::all` meets its contract. The loop's invariant: none of the tries so far gave an answer.
use mathlib.Core.Path.{sym}
use native.Mathlib.Omega.{arith}
use Rattle.candidate.specs.Finding.{found_message, first_none, first_next, first_at, first_all}
use Rattle.dead_decoder.specs.Tries.{attempts}
use Rattle.dead_decoder.proofs.tries.Tries.all.Goals as goal

pub loop-b-init : goal.loop-b-init
loop-b-init c = first_none _

pub returns-in-Some : goal.returns-in-Some
unfolding found_message
returns-in-Some c =
    (sym (first_at (attempts c.args.self) _ c.loop-b.b 27 c.loop-b.invariant (omega arith) (sym c.in-Some.ensures.0)), c.in-Some.ensures.1)

pub loop-b-preserved : goal.loop-b-preserved
unfolding found_message
loop-b-preserved c = first_next (attempts c.args.self) c.loop-b.b c.loop-b.invariant (sym c.in_default.ensures.0)

pub returns : goal.returns
unfolding found_message
returns c = (sym (first_all (attempts c.args.self) c.loop-b.b 27 (omega arith) c.loop-b-test.false c.loop-b.invariant), tt)
