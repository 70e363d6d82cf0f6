-- `candidate::shape::undamaged` meets its contract: a word is decoded to its message, and differs by nothing from itself.
use mathlib.Core.Path.{refl, sym, ap, ◌∙◌}
use Rattle.rank.specs.Weight.{weight_self}
use Rattle.coding.specs.Clean.{word_decode}
use Rattle.candidate.specs.Finding.{found_message}
use Rattle.candidate.proofs.shape.undamaged.Goals as goal

pub returns : goal.returns
unfolding found_message
returns c =
    let m = c.args.message in
    (sym (word_decode m.k.value m.k.within.0 m.k.within.1 _ c.args.card.is_card _ m.small c.requires), (refl, ap (λ n. record { rank = n }) c.default.ensures ∙ weight_self _))
