-- A book that is written from lists which are not refused shows them: Open accepts it, its entries have the tune numbers and counts given, and
-- Pull and Read give back each strike in its place, with damage 0.
-- Main: undamaged, Shows.
use Rattle.std.specs.Prelude.{◌≡◌, take}
use mathlib.Core.List.{List}
use Prim.Native.Nat.{ℕ, suc, ◌+◌, ◌<◌}
use Rattle.std.proofs.Math.ListN.{length, get_or}
use Rattle.refusal.specs.Replies.{Reply, replied}
use Rattle.rank.specs.Weight.{no_weight}
use Rattle.strike.specs.declared.Strike.{Strike}
use Rattle.strike.specs.Strikes.{no_strike}
use Rattle.strike.specs.Turns.{strikes}
use Rattle.book.specs.Layout.{tunes, tune_numbers, card_counts}
use Rattle.book.specs.Open.{open_refusal}
use Rattle.book.specs.Pull.{pull_refusal, pulled}
use Rattle.book.specs.Reading.{CardValue, cards_in, reading}
use Rattle.writer.specs.Writing.{all_cards}

-- what Read says of a strike that has no damage
abbrev pub undamaged : Strike → Reply CardValue
undamaged s = replied (record { strike = s; damage = no_weight })

-- A BOOK SHOWS tune numbers, counts and strikes
pub record Shows (ns cs ss bs : List ℕ) : Type 0 where
  pub opened : open_refusal bs ≡ 0
  pub tunes_are : tunes bs ≡ length ns
  pub numbers_are : tune_numbers bs ≡ ns
  pub counts_are : card_counts bs ≡ cs
  pub found : (e : ℕ) → e < length ns → pull_refusal bs (get_or ns e 0) ≡ 0
  pub cards_are : (e : ℕ) → e < length ns → cards_in (pulled bs (get_or ns e 0)) ≡ get_or cs e 0
  pub strikes_are : (e j : ℕ) → e < length ns → j < get_or cs e 0
      → reading (pulled bs (get_or ns e 0)) (suc j) ≡ undamaged (get_or (strikes ss) (all_cards (take e cs) + j) no_strike)
