-- The answer of the operation: how each comes about, and what a caller learns from it.
-- Main: ReadSo.
use Rattle.std.specs.Prelude.{◌≡◌, List, ℕ, ◌≤◌, length, None}
use Rattle.tune_text.specs.declared.tunes.Sizes.{Sizes}
use Rattle.tune_text.specs.Reading.{lines_said, numbers_of, strikes_of, mistake_of}
use Rattle.tune_text.specs.Reading.{longest_text}

-- the text is short enough, and the lists are long enough
pub record Tested (t n c s : List ℕ) : Type 0 where
  pub text : length t ≤ longest_text
  pub numbers : length t ≤ length n
  pub counts : length t ≤ length c
  pub strikes : length t ≤ length s

-- the text was read: it passed the tests and has no mistake, and these are the sizes of its lists
pub record ReadSo (t n c s : List ℕ) (z : Sizes) : Type 0 where
  pub tested : Tested t n c s
  pub fine : mistake_of (lines_said t) ≡ None
  pub tunes : z.tunes ≡ length (numbers_of (lines_said t))
  pub strikes : z.strikes ≡ length (strikes_of (lines_said t))
