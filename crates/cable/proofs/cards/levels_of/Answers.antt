-- `cable::cards::levels_of` meets its contract: each call gives the signed number at its index.
use Rattle.std.proofs.Common.{get_or, pos, sym, ◌∙◌, rules}
use Rattle.std.proofs.lemmas.Int.{to_z-of_z}
use Rattle.levels.specs.Levels.{signed_of}
use Rattle.cable.proofs.Made.{made, by_index}
use Rattle.cable.proofs.cards.levels_of.Goals as goal

pub returns : goal.returns
returns c =
    let card = c.args.card.now in
    made _ _ (λ i. signed_of (get_or card i 0)) _ 6 (pos 0) (λ i y q l k. search (rules, to_z-of_z)) c.from_fn.ensures.items ∙ sym (by_index signed_of card 0 6 c.requires)
