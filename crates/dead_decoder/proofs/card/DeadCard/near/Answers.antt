-- `dead_decoder::card::DeadCard::near` meets its contract: the weight of what is left decides, with the dead lines.
use mathlib.Core.Path.{◌≡◌, refl, sym, ap, ◌∙◌}
use mathlib.Core.List.{List}
use Prim.Native.Nat.{ℕ}
use Rattle.rank.specs.Definitions.{rank, difference}
use Rattle.rank.specs.declared.Weight.{Weight}
use Rattle.rank.specs.Weight.{weight_of, weight_rank}
use Rattle.dead_lines.specs.Blanked.{blanked}
use Rattle.candidate.specs.Finding.{found_message}
use Rattle.codec.specs.Messages.{numbers_of}
use Rattle.dead_decoder.specs.Checking.{near_dead_some, near_dead_none}
use Rattle.dead_decoder.proofs.card.DeadCard.near.Goals as goal

-- the rank of a weight, where the symbols weighed are what is left of a difference
rank_at : (ρ σ : ℕ) (card : List ℕ) {w : Weight} {b d o p : List ℕ} → w ≡ weight_of b → b ≡ blanked ρ σ d → d ≡ difference o card → o ≡ p
    → w.rank ≡ rank (blanked ρ σ (difference p card))
rank_at ρ σ card e f g h =
    ap (λ (w : Weight). w.rank) e ∙ weight_rank _ ∙ ap rank (f ∙ ap (blanked ρ σ) (g ∙ ap (λ (o : List ℕ). difference o card) h))

pub returns-then-message-spent : goal.returns-then-message-spent
unfolding found_message
returns-then-message-spent c =
    let d = c.args.self in
    let m = c.args.message in
    let far = rank_at d.rows.bits d.columns.bits d.card.symbols c.weight_of-weight.ensures c.blanked-left.ensures c.difference.ensures c.word-word.ensures in
    (sym (near_dead_none m.k.value d.rows.bits d.columns.bits d.card.symbols (numbers_of m) (rw (far, c.count.ensures.0, c.count-2.ensures.0) at c.if-message-spent.true) m.small), tt)

pub returns : goal.returns
unfolding found_message
returns c =
    let d = c.args.self in
    let m = c.args.message in
    let near = rank_at d.rows.bits d.columns.bits d.card.symbols c.weight_of-weight.ensures c.blanked-left.ensures c.difference.ensures c.word-word.ensures in (
      sym (near_dead_some m.k.value d.rows.bits d.columns.bits d.card.symbols (numbers_of m) m.small (rw (near, c.count.ensures.0, c.count-2.ensures.0) at c.if-message-spent.false)),
      (refl, c.weight_of-weight.ensures ∙ ap weight_of (c.blanked-left.ensures ∙ ap (blanked d.rows.bits d.columns.bits) c.difference.ensures)),
    )
