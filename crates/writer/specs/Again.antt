-- A clean book that Open accepts is the book that is written from its own tune numbers, counts and strikes, and the writer does not refuse
-- these; but for the empty file, which the writer never makes (`never_empty` of `Held`).
-- Main: Again.
use Rattle.std.specs.Prelude.{◌≡◌}
use mathlib.Core.List.{List}
use Prim.Native.Nat.{ℕ}
use Rattle.std.proofs.Math.ListN.{length}
use Rattle.strike.specs.Turns.{strike_numbers}
use Rattle.book.specs.Layout.{tune_numbers, card_counts}
use Rattle.writer.specs.Writing.{book_bytes, write_refusal}
use Rattle.writer.specs.Holding.{book_strikes}

-- A BOOK WRITTEN AGAIN from what is read of it: nothing is refused, and the bytes are the same
pub record Again (bs : List ℕ) : Type 0 where
  pub taken : write_refusal (tune_numbers bs) (card_counts bs) (strike_numbers (book_strikes bs)) (length bs) ≡ 0
  pub same : book_bytes (tune_numbers bs) (card_counts bs) (strike_numbers (book_strikes bs)) ≡ bs
