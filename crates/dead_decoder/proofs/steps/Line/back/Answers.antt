-- `dead_decoder::steps::Line::back` meets its contract: each turn goes back from what stands before.
use mathlib.Core.Path.{◌∙◌}
use native.Mathlib.Omega.{arith}
use Rattle.dead_decoder.specs.Lines.{step_of, raised_any, backed_none, backed_next, backed_end}
use Rattle.dead_decoder.proofs.steps.Line.back.Goals as goal

pub loop-i-init : goal.loop-i-init
loop-i-init c = backed_none _ _ _ (omega arith)

pub loop-i-preserved : goal.loop-i-preserved
loop-i-preserved c =
    backed_next (step_of c.args.self c.args.a) c.args.f c.factors-m.result c.loop-i.r _ _ _ _ _ c.loop-i.invariant (omega arith)
    c.factors-m.ensures c.difference.ensures c.quotient-y.ensures (c.raised-x.ensures ∙ raised_any c.args.self c.args.a _)

pub returns-2 : goal.returns-2
returns-2 c =
    let b = backed_next (step_of c.args.self c.args.a) c.args.f c.factors-m.result c.loop-i.r _ _ _ _ _ c.loop-i.invariant (omega arith)
    c.factors-m.ensures c.difference.ensures c.quotient-y.ensures (c.raised-x.ensures ∙ raised_any c.args.self c.args.a _) in
    (b.long, backed_end _ _ _ _ _ _ b (omega arith))
