-- `writer::tests::Lists::write_cards` meets its contract: what is written and the cards that are left are all cards.
use Rattle.std.proofs.Common.{◌≡◌}
use Rattle.std.specs.Slice.Iter.{chunks_exact_rest, chunks_exact_size}
use Rattle.strike.specs.Turns.{strikes}
use Rattle.writer.specs.Writing.{cards_bytes}
use Rattle.writer.specs.Filled.{CardsSoFar}
use Rattle.writer.proofs.tests.Lists.write_cards.Given as goal

abbrev pub invariant-loop-numbers : goal.invariant-loop-numbers
invariant-loop-numbers l =
    record { three : chunks_exact_size l.numbers-iterator ≡ 3; cards : CardsSoFar (cards_bytes (strikes l.fn.self.strikes.now)) (chunks_exact_rest l.numbers-iterator) l.fn.book l.book }
