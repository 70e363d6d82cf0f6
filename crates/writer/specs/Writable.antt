-- Lists that the writer does not refuse, and what each of its tests then says of them.
-- Main: Writable.
use Rattle.std.specs.Prelude.{◌≡◌, List, ℕ, ◌*◌, ◌≤◌, length}
use Rattle.std.proofs.Math.Bool.{true, false}
use Rattle.strike.specs.Turns.{strikes_bad}
use Rattle.book.specs.Layout.{longest_book}
use Rattle.book.specs.Open.{rising}
use Rattle.writer.specs.Writing.{all_cards, book_length, any_zero}

-- WHERE NOTHING IS REFUSED: each test, in its order
pub record Writable (ns cs ss : List ℕ) (room : ℕ) : Type 0 where
  pub strikes_in : strikes_bad ss ≡ false
  pub paired : length cs ≡ length ns
  pub size : book_length cs ≤ longest_book
  pub rise : rising 1 ns ≡ true
  pub counted : any_zero cs ≡ false
  pub numbers : length ss ≡ 3 * all_cards cs
  pub fits : room ≡ book_length cs
