-- `tune_text::scanning::Lines::cards_ahead` meets its contract. The loop: the strikes so far and those that are still ahead are all.
use Rattle.std.proofs.Common.{◌≡◌, ◌∷◌, refl, ap, ◌∙◌, arith}
use Rattle.tune_text.specs.Reading.{lines_said, cards_ahead}
use Rattle.tune_text.proofs.LineLaws.{neither_said, ahead_tune, ahead_other}
use Rattle.tune_text.proofs.SizeLaws.{ahead_fits}
use Rattle.tune_text.proofs.scanning.Lines.cards_ahead.Goals as goal

pub overflow_add-cards : goal.overflow_add-cards
overflow_add-cards c =
    let ahead = ap cards_ahead (rw c.in-Strike.is at c.in-Some.ensures.steps) ∙ ahead_other _ _ refl in
    omega (arith, c.loop-line.invariant, ahead, ahead_fits c.args.self.text.now 0 c.args.self.short)

pub loop-line-preserved-in-Strike : goal.loop-line-preserved-in-Strike
loop-line-preserved-in-Strike c =
    let ahead = ap cards_ahead (rw c.in-Strike.is at c.in-Some.ensures.steps) ∙ ahead_other _ _ refl in
    omega (arith, c.loop-line.invariant, ahead)

pub loop-line-preserved : goal.loop-line-preserved
unfolding cards_ahead
loop-line-preserved c =
    let ls = lines_said c.next.new.self.text.now in
    let same = neither_said (λ l. cards_ahead (l ∷ ls) ≡ cards_ahead ls) c.in-Nothing.is refl (λ f. refl) in
    omega (arith, c.loop-line.invariant, ap cards_ahead c.in-Some.ensures.steps, same)

pub returns-in-None : goal.returns-in-None
unfolding cards_ahead
returns-in-None c = omega (arith, c.loop-line.invariant, ap cards_ahead c.in-None.ensures.steps.0)

pub returns-in-Tune : goal.returns-in-Tune
returns-in-Tune c =
    let ahead = ap cards_ahead (rw c.in-Tune.is at c.in-Some.ensures.steps) ∙ ahead_tune _ _ refl in
    omega (arith, c.loop-line.invariant, ahead)
