-- `dead_decoder::tries::Tries::two` meets its contract: the lower try decides, or else the other.
use mathlib.Core.Path.{◌≡◌, sym, ap, ◌∙◌}
use native.Mathlib.Omega.{arith}
use Rattle.candidate.specs.Finding.{found_message}
use Rattle.dead_decoder.specs.Roots.{lower_some, lower_none}
use Rattle.dead_decoder.specs.Tries.{attempts}
use Rattle.dead_decoder.proofs.tries.Tries.two.Goals as goal

pub returns-in-None : goal.returns-in-None
unfolding found_message
returns-in-None c =
    let t = attempts c.args.self in
    (c.attempt-in-None.ensures.0 ∙ lower_none t 27 _ _ c.requires.0 c.requires.1 c.requires.2 (sym c.in-None.ensures.0), c.attempt-in-None.ensures.1)

pub returns-in_default : goal.returns-in_default
unfolding found_message
returns-in_default c =
    let t = attempts c.args.self in
    let e : c.args.x ≡ c.args.y = omega (arith, c.requires.0) in
    (c.attempt.ensures.0 ∙ ap t e ∙ lower_none t 27 _ _ c.requires.0 c.requires.1 c.requires.2 (sym c.in-None.ensures.0), c.attempt.ensures.1)

pub returns-in_default-2 : goal.returns-in_default-2
unfolding found_message
returns-in_default-2 c =
    let t = attempts c.args.self in
    let e = sym c.in_default.ensures.0 in
    (c.attempt.ensures.0 ∙ e ∙ sym (lower_some t 27 _ _ c.requires.0 c.requires.1 c.requires.2 _ e), c.attempt.ensures.1)
