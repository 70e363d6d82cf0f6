-- `candidate::checking::near` meets its contract: the weight of the difference between word and card decides.
use mathlib.Core.Path.{◌≡◌, refl, sym, ap, ◌∙◌}
use mathlib.Core.List.{List}
use Prim.Native.Nat.{ℕ}
use Rattle.rank.specs.Definitions.{rank, difference, apart}
use Rattle.rank.specs.declared.Weight.{Weight}
use Rattle.rank.specs.Weight.{weight_of, weight_rank}
use Rattle.candidate.specs.Finding.{found_message, near_some, near_none}
use Rattle.candidate.proofs.checking.near.Goals as goal

-- the rank of a weight, where the symbols weighed are a difference
weight_at : {w : Weight} {c d : List ℕ} → w ≡ weight_of c → c ≡ d → w.rank ≡ rank d
weight_at e f = ap (λ (w : Weight). w.rank) e ∙ weight_rank _ ∙ ap rank f

pub returns-then-message-weight : goal.returns-then-message-weight
unfolding apart found_message
returns-then-message-weight c =
    let m = c.args.message in
    let far = weight_at c.weight_of-weight.ensures (c.difference.ensures ∙ ap (λ (w : List ℕ). difference w c.args.card) c.word-word.ensures) in
    (sym (near_none m.k.value c.args.card _ (rw far at c.if-message-weight.true) m.small), tt)

pub returns : goal.returns
unfolding apart found_message
returns c =
    let m = c.args.message in
    let close = weight_at c.weight_of-weight.ensures (c.difference.ensures ∙ ap (λ (w : List ℕ). difference w c.args.card) c.word-word.ensures) in (
      sym (near_some m.k.value c.args.card _ m.small (rw close at c.if-message-weight.false)),
      (refl, c.weight_of-weight.ensures ∙ ap weight_of c.difference.ensures),
    )
