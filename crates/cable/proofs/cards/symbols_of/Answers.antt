-- `cable::cards::symbols_of` meets its contract: each call gives the symbol at its index.
use Rattle.std.proofs.Common.{◌≡◌, ℤ, false, get_or, pos, sym, ◌∙◌, arith, rules}
use Rattle.std.proofs.lemmas.Int.{to_z-of_z}
use Rattle.std.proofs.iter.Serving.{serving}
use Rattle.algebra.specs.Lists.{all_at}
use Rattle.algebra.specs.Tests.{any_none}
use Rattle.levels.specs.Levels.{outside, symbol_of}
use Rattle.cable.proofs.Made.{made, by_index}
use Rattle.cable.proofs.cards.symbols_of.Goals as goal

pub from_fn-requires : goal.from_fn-requires
from_fn-requires c =
    let numbers = c.args.numbers.now in
    let inside = all_at (λ (n : ℤ). outside n ≡ false) (pos 0) numbers (any_none outside numbers c.requires.1) in
    (omega arith, grind (serving, arith, to_z-of_z, inside))

pub returns : goal.returns
returns c =
    let numbers = c.args.numbers.now in
    made _ _ (λ i. symbol_of (get_or numbers i (pos 0))) _ 6 0 (λ i y q l k. search (rules, to_z-of_z)) c.from_fn.ensures.items ∙ sym (by_index symbol_of numbers (pos 0) 6 c.requires.0)
