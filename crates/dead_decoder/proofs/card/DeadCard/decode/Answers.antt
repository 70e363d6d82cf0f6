-- `dead_decoder::card::DeadCard::decode` meets its contract: a card with no dead line is decoded as a card is.
use Rattle.std.proofs.Common.{inl, inr, arith}
use Rattle.dead_decoder.specs.Operation.{finds_none, some_line}
use Rattle.dead_decoder.proofs.card.DeadCard.decode.Goals as goal

pub returns-then-self-eq0-2 : goal.returns-then-self-eq0-2
returns-then-self-eq0-2 c = finds_none c.args.self _ c.if-self-eq0.true c.if-self-eq0-2.true c.decode_card.ensures

pub decode_lines-requires : goal.decode_lines-requires
decode_lines-requires c =
    let d = c.args.self in
    elim c.else-self-eq0.either [
      | inl (r, s) ↦ omega (arith, some_line d.columns.bits d.columns.six_lines s)
      | inr r ↦ omega (arith, some_line d.rows.bits d.rows.six_lines r)
    ]
