-- `book::reading::symbols` meets its contract: the six symbols are two bytes each, one after another.
use mathlib.Core.Path.{sym, ◌∙◌}
use borrow.Author.Rules.{rules}
use borrow.Author.Tests.{tests}
use Prim.Native.Nat.{◌*◌, ℕ}
use Rattle.algebra.specs.Lists.{table}
use Rattle.book.specs.Layout.{big}
use Rattle.book.specs.CardReading.{twelve_bytes}
use Rattle.book.proofs.Made.{made}
use Rattle.book.proofs.reading.symbols.Goals as goal

pub returns : goal.returns
unfolding table
returns c = made _ (λ (i : ℕ). big c.args.bytes.now (2 * i)) _ (λ x r q k. search (rules, tests)) c.from_fn.result 6 c.from_fn.ensures.items ∙ sym (twelve_bytes _)
