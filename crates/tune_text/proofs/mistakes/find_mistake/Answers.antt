-- `tune_text::mistakes::find_mistake` meets its contract. The loop: the first mistake of the lines that are left is the first of all.
use Rattle.std.proofs.Common.{refl, ◌∙◌, ◌+◌, sym, ap, inl, arith, length}
use Rattle.std.specs.Iterator.Adapters.{enumerate_count}
use Rattle.tune_text.specs.Reading.{mistake_from, mistake_of}
use Rattle.tune_text.proofs.LineLaws.{mistake_found, mistake_passed}
use Rattle.tune_text.proofs.SizeLaws.{said_count}
use Rattle.tune_text.proofs.mistakes.find_mistake.Goals as goal

-- their count fits
pub loop-i-init-derived : goal.loop-i-init-derived
loop-i-init-derived c =
    ((tt, tt, inl (rw (c.into_iter-i-iterator.ensures.into_iter_gives, c.enumerate-i-items.ensures.source, c.enumerate-i-items.ensures.count) (omega (arith, said_count c.args.lines.text.now, c.args.lines.short)))), tt)

pub loop-i-init : goal.loop-i-init
unfolding mistake_of
loop-i-init c =
    rw (c.into_iter-i-iterator.ensures.into_iter_gives, c.enumerate-i-items.ensures.source, c.enumerate-i-items.ensures.count) (omega arith, refl)

pub overflow_cast-result : goal.overflow_cast-result
overflow_cast-result c =
    omega (arith, c.in-Some.ensures.steps, c.loop-i.invariant, said_count c.args.lines.text.now, c.args.lines.short)

pub overflow_add-result : goal.overflow_add-result
overflow_add-result c =
    omega (arith, c.in-Some.ensures.steps, c.loop-i.invariant, said_count c.args.lines.text.now, c.args.lines.short)

pub returns-in-Some-fault : goal.returns-in-Some-fault
returns-in-Some-fault c =
    let s = c.in-Some.ensures.steps in
    let n = enumerate_count c.loop-i.i-iterator + 1 in
    rw s.1 (sym (c.loop-i.invariant.1 ∙ ap (mistake_from c.loop-i.begun n) s.0 ∙ mistake_found c.loop-i.begun n c.in-Some.line _ _ c.in-Some-fault.ensures))

pub loop-i-preserved : goal.loop-i-preserved
loop-i-preserved c =
    let s = c.in-Some.ensures.steps in
    let n = enumerate_count c.loop-i.i-iterator + 1 in (
      omega (arith, s.2, c.loop-i.invariant.0, ap length s.0),
      c.loop-i.invariant.1 ∙ ap (mistake_from c.loop-i.begun n) s.0 ∙ rw (s.2, c.begins_tune-begun.ensures) (mistake_passed c.loop-i.begun n c.in-Some.line _ c.in_default.ensures),
    )

pub returns : goal.returns
unfolding mistake_from
returns c =
    let n = enumerate_count c.loop-i.i-iterator + 1 in
    sym (c.loop-i.invariant.1 ∙ ap (mistake_from c.loop-i.begun n) c.in-None.ensures.steps.0.0)
