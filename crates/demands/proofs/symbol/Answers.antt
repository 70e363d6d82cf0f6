-- `demands::symbol` meets its contract, by that of `cable::symbol`, whose number was read back from 16 bits.
use mathlib.Core.Path.{ap, ◌∙◌}
use lib.IntN.{ℤ}
use mir.Syntax.{w16}
use mir.ValLaws.{to_z-of_z}
use Rattle.refusal.specs.Replies.{reply_with}
use Rattle.levels.specs.Levels.{symbol_of}
use Rattle.cable.specs.Operations.{symbol_refusal}
use Rattle.demands.proofs.CableDemands.{symbol_says}
use Rattle.demands.proofs.symbol.Goals as goal

pub returns : goal.returns
returns c =
    symbol_says _ c.symbol.result (c.symbol.ensures ∙ ap (λ (n : ℤ). reply_with 0 (symbol_refusal n) (symbol_of n)) (to_z-of_z w16 c.args.number c.ranges.number))
