-- `rank::row::row_less` meets its contract: the six digits are those of `subtract`.
use borrow.Author.Rules.{rules}
use Rattle.rank.specs.Definitions.{subtract}
use Rattle.rank.specs.Elimination.{Digits}
use Rattle.rank.specs.Arrays.{subtract_six}
use Rattle.rank.proofs.row.row_less.Goals as goal

pub digit_less-requires : goal.digit_less-requires
unfolding Digits
digit_less-requires c = search (rules, c.requires.0 0, c.requires.2 0)

pub digit_less-requires-2 : goal.digit_less-requires-2
unfolding Digits
digit_less-requires-2 c = search (rules, c.requires.0 1, c.requires.2 1)

pub digit_less-requires-3 : goal.digit_less-requires-3
unfolding Digits
digit_less-requires-3 c = search (rules, c.requires.0 2, c.requires.2 2)

pub digit_less-requires-4 : goal.digit_less-requires-4
unfolding Digits
digit_less-requires-4 c = search (rules, c.requires.0 3, c.requires.2 3)

pub digit_less-requires-5 : goal.digit_less-requires-5
unfolding Digits
digit_less-requires-5 c = search (rules, c.requires.0 4, c.requires.2 4)

pub digit_less-requires-6 : goal.digit_less-requires-6
unfolding Digits
digit_less-requires-6 c = search (rules, c.requires.0 5, c.requires.2 5)

pub returns : goal.returns
unfolding subtract
returns c =
    simp (
      c.digit_less.ensures,
      c.digit_less-2.ensures,
      c.digit_less-3.ensures,
      c.digit_less-4.ensures,
      c.digit_less-5.ensures,
      c.digit_less-6.ensures,
    )
    (subtract_six c.args.d c.args.x c.args.y c.well_formed.0.1.0.1 c.well_formed.1.1.0.1.0.1)
