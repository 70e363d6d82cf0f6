-- `writer::tests::Lists::write_cards` meets its contract: what is written and the cards that are left are all cards.
use Rattle.std.proofs.Common.{◌≡◌, arith, ◌∙◌, ap}
use Rattle.std.specs.Slice.Iter.{chunks_exact_rest, chunks_exact_size}
use Rattle.strike.specs.Turns.{strikes_range}
use Rattle.text.proofs.WritingLaws.{part_start}
use Rattle.writer.proofs.Filled.{cards_room, cards_good, cards_next, cards_end}
use Rattle.writer.proofs.tests.Lists.write_cards.Goals as goal

pub loop-numbers-init : goal.loop-numbers-init
loop-numbers-init c =
    let i = c.into_iter-numbers-iterator.ensures.into_iter_gives in
    let r : chunks_exact_rest c.into_iter-numbers-iterator.result ≡ c.args.self.now.strikes.now = ap chunks_exact_rest i ∙ c.chunks_exact-numbers-items.ensures.rest in
    record {
      three = ap chunks_exact_size i ∙ c.chunks_exact-numbers-items.ensures.size;
      cards = rw r (record { ranged = strikes_range _ c.args.self.now.strikes_good; parts = part_start _ _ (omega (arith, c.requires)) });
    }

pub push_card-requires : goal.push_card-requires
push_card-requires c =
    let s = c.in-Some.ensures.steps in
    let i = c.loop-numbers.invariant in
    let l = s.1.1 ∙ i.three in
    rw (c.from.ensures, c.from-in-loop-numbers.ensures, c.from-in-loop-numbers-2.ensures)
    (record { room = cards_room i.cards _ _ s.1.0 l c.requires; good = cards_good i.cards _ _ s.1.0 l })

pub loop-numbers-preserved : goal.loop-numbers-preserved
loop-numbers-preserved c =
    let s = c.in-Some.ensures.steps in
    let i = c.loop-numbers.invariant in
    let w = rw (c.from.ensures, c.from-in-loop-numbers.ensures, c.from-in-loop-numbers-2.ensures) at c.push_card.ensures in
    record { three = s.0 ∙ i.three; cards = cards_next i.cards _ _ s.1.0 (s.1.1 ∙ i.three) w }

pub returns : goal.returns
returns c =
    let i = c.loop-numbers.invariant in
    cards_end i.cards (omega (arith, c.in-None.ensures.steps, i.three))
