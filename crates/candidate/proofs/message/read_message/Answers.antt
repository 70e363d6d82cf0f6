-- `candidate::message::read_message` meets its contract: the numbers but for the last, and that one. What is read is a message.
use Prim.Native.Nat.{suc}
use Rattle.algebra.specs.Lists.{table, length_table}
use Rattle.rank.specs.Definitions.{at}
use Rattle.coding.specs.Coefficients.{is_message_read}
use Rattle.candidate.specs.Places.{message_is}
use Rattle.candidate.proofs.message.read_message.Goals as goal

pub invariant_of-result : goal.invariant_of-result
invariant_of-result c =
    let k = c.args.k.value in
    let f = at c.args.f in
    record {
      small = rw (c.leading_numbers-numbers.ensures, c.high.ensures, message_is k c.args.k.within.0 c.args.k.within.1 c.args.f)
          (is_message_read k c.args.k.within.0 (table (suc k) f) (length_table (suc k) f));
    }

pub returns-clause-numbers : goal.returns-clause-numbers
returns-clause-numbers c =
    rw (c.leading_numbers-numbers.ensures, c.high.ensures) (message_is c.args.k.value c.args.k.within.0 c.args.k.within.1 c.args.f)
