-- `codec::message::Message::word` meets its contract: the tables are those of the word, computed, and the numbers are added one after another.
use Rattle.std.proofs.Common.{◌≡◌, refl, ap, ◌∙◌, arith}
use Rattle.transform.specs.Packed.{symbols_of}
use Rattle.transform.specs.Transforms.{computing_word, low_tables, high_tables, SmallNumbers, message_small, word_mapped, first_added, both_added, last_added}
use Rattle.codec.specs.declared.message.TheConstants.{LOW, HIGH}
use Rattle.codec.proofs.message.Message.word.Goals as goal
use Rattle.codec.proofs.message.Message.word.Goals.{Start}

lows : LOW ≡ low_tables
unfolding computing_word
lows = refl

highs : HIGH ≡ high_tables
unfolding computing_word
highs = refl

small : (v : Start) → SmallNumbers v.args.self.k.value v.args.self.numbers
small v = message_small v.args.self.k.value v.args.self.numbers v.args.self.small

pub loop-s-init : goal.loop-s-init
loop-s-init c =
    let m = c.args.self in
    record {
      numbers = first_added m.k.value m.numbers (small (goal.at.loop-s-init c).Start) m.k.within.0 m.k.within.1 LOW HIGH lows highs c.none.ensures.0 c.add_small-counts.ensures.numbers;
      rows = omega arith;
    }

pub loop-s-preserved : goal.loop-s-preserved
loop-s-preserved c =
    let m = c.args.self in
    record {
      numbers = both_added m.k.value m.numbers (small (goal.at.loop-s-preserved c).Start) m.k.within.0 m.k.within.1 LOW HIGH lows highs c.loop-s.s (omega arith) (omega arith)
          c.loop-s.invariant.numbers c.add_small-high.ensures.numbers c.add_small-low.ensures.numbers;
      rows = omega arith;
    }

pub returns : goal.returns
returns c =
    let m = c.args.self in
    let last : c.loop-s.s ≡ m.k.value = omega (arith, m.k.within) in
    c.symbols.ensures
    ∙ ap symbols_of (last_added m.k.value m.numbers (small (goal.at.returns c).Start) m.k.within.0 m.k.within.1 LOW HIGH lows highs c.loop-s.s last
    c.loop-s.invariant.numbers c.add_small.ensures.numbers)
    ∙ word_mapped m.k.value m.k.within.0 m.k.within.1 m.numbers
