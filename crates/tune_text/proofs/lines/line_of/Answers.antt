-- `tune_text::lines::line_of` meets its contract: it goes by the first word.
use Rattle.std.proofs.Common.{sym}
use Rattle.tune_text.proofs.WordLaws.{says_nothing, says_first}
use Rattle.tune_text.proofs.lines.line_of.Goals as goal

pub returns-in-None : goal.returns-in-None
returns-in-None c = sym (says_nothing _ c.in-None.ensures.steps.0)

pub returns-in-Some : goal.returns-in-Some
returns-in-Some c =
    rw (says_first _ _ _ c.in-Some.ensures.steps, ← c.starts_with.ensures.value, c.if-starts_with.true)

pub returns-in-Some-2 : goal.returns-in-Some-2
returns-in-Some-2 c =
    let tune = rw c.as_slice.ensures at c.eq.ensures in
    rw (says_first _ _ _ c.in-Some.ensures.steps, ← c.starts_with.ensures.value, c.if-starts_with.false, ← tune, c.if-eq.true) c.tune_said.ensures

pub returns-in-Some-3 : goal.returns-in-Some-3
returns-in-Some-3 c =
    let tune = rw c.as_slice.ensures at c.eq.ensures in
    rw (says_first _ _ _ c.in-Some.ensures.steps, ← c.starts_with.ensures.value, c.if-starts_with.false, ← tune, c.if-eq.false) c.strike_said.ensures
