-- The lines of a text one by one, as the loops go through them.
-- Main: Found, card_in, fault_of.
use Rattle.std.specs.Prelude.{◌≡◌, Bool, true, false, List, ◌∷◌, ℕ, ◌+◌, ◌≤◌, ◌<◌, length, drop}
use Rattle.tune_text.specs.declared.lines.Fault.{Fault}
use Rattle.tune_text.specs.declared.lines.Fault.TheVariants.{Early}
use Rattle.tune_text.specs.declared.lines.Line.{Line}
use Rattle.tune_text.specs.declared.lines.Line.TheVariants.{Nothing, Tune, Strike, Wrong}
use Rattle.tune_text.specs.Reading.{lines_said}

-- THE LINE HERE was found, and says this: the lines from this place on are it and those from the next place on
pub record Found (t : List ℕ) (at : ℕ) (said : Line) (next : ℕ) : Type 0 where
  pub lines : lines_said (drop at t) ≡ said ∷ lines_said (drop next t)
  pub after : at < next
  pub within : next ≤ length t + 1

-- THE STRIKES AHEAD, line by line
abbrev pub begins_tune : Line → Bool
begins_tune Nothing = false
begins_tune (Tune n) = true
begins_tune (Strike s) = false
begins_tune (Wrong f) = false

abbrev pub card_in : Line → ℕ
card_in Nothing = 0
card_in (Tune n) = 0
card_in (Strike s) = 1
card_in (Wrong f) = 0

-- MISTAKES, line by line
abbrev pub fits : (begun : Bool) → Line → Bool
fits b Nothing = true
fits b (Tune n) = true
fits b (Strike s) = b
fits b (Wrong f) = false

abbrev pub fault_of : Line → Fault
fault_of Nothing = Early
fault_of (Tune n) = Early
fault_of (Strike s) = Early
fault_of (Wrong f) = f
