-- `tune_text::scanning::Lines::next` meets its contract: the first line is taken off, with its end.
use Rattle.std.proofs.Common.{◌≡◌, ap, length, length-take, arith, rules, tests}
use Rattle.tune_text.proofs.LineLaws.{said_none, line_within, said_more}
use Rattle.tune_text.proofs.scanning.LinesIterator.next.Goals as goal

pub returns-then-is_empty-clause-steps : goal.returns-then-is_empty-clause-steps
returns-then-is_empty-clause-steps c =
    let t = c.args.self.now.text.now in
    let none : length t ≡ 0 = search (rules, tests) in
    (said_none t none, said_none t none)

pub overflow_add-end : goal.overflow_add-end
overflow_add-end c = omega (arith, line_within _ c.line_end-end.ensures, c.args.self.now.short)

pub slice_bounds-line_of-end : goal.slice_bounds-line_of-end
slice_bounds-line_of-end c = simp length-take (omega (arith, line_within _ c.line_end-end.ensures))

pub returns-clause-steps : goal.returns-clause-steps
returns-clause-steps c =
    let some : length c.args.self.now.text.now ≡ 0 → ⊥ = search (rules, tests) in
    rw c.min.ensures (said_more _ c.line_end-end.ensures some c.line_of.ensures)

pub returns-clause-goes : goal.returns-clause-goes
returns-clause-goes c =
    let some : length c.args.self.now.text.now ≡ 0 → ⊥ = search (rules, tests) in
    let fewer = ap length (rw (← c.min.ensures) at (said_more _ c.line_end-end.ensures some c.line_of.ensures)) in
    search rules
