-- Pull leads to each tune of an accepted book, and to nothing else.
-- Main: There.
use Rattle.std.specs.Prelude.{◌≡◌, List, ℕ}
use Rattle.book.specs.Layout.{tune_number, offset, part_of}
use Rattle.book.specs.Pull.{pulled, pulled_from}
use Rattle.book.specs.Accepted.{AcceptedEntry}

-- the tune is there: entry e of an accepted book bears the number, and its part is what Pull gives back
pub record There (bs : List ℕ) (t e : ℕ) : Type 0 where
  pub held : AcceptedEntry bs e
  pub bears : tune_number bs e ≡ t
  pub part : pulled bs t ≡ part_of bs e
  pub begins : pulled_from bs t ≡ offset bs e
