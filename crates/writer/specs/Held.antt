-- A written book is bytes, is clean, and holds the strikes that it was written from; so no two triples of lists are written to the same book.
-- With `Again`: the writer makes exactly the clean books that Open accepts, but for the empty file, each from one triple of lists.
-- Main: Held.
use Rattle.std.specs.Prelude.{◌≡◌}
use mathlib.Core.List.{List}
use Prim.Native.Nat.{ℕ}
use Rattle.strike.specs.Turns.{strike_numbers}
use Rattle.writer.specs.Holding.{book_strikes, Bytes, Clean}

-- WHAT A BOOK HOLDS beside what it shows
pub record Held (ss bs : List ℕ) : Type 0 where
  pub bytes : Bytes bs
  pub clean : Clean bs
  pub strikes_held : strike_numbers (book_strikes bs) ≡ ss
