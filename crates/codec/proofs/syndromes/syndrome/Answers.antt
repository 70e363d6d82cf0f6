-- `codec::syndromes::syndrome` meets its contract: the tests decide, and then the list is filled with the test values. Assumes nothing.
use Rattle.std.proofs.Common.{◌≡◌, ℕ, ◌*◌, ◌-◌, ◌≤◌, length, List, ap₂, ◌∙◌, arith}
use Rattle.std.proofs.lemmas.Result.{err_from_is_err_and}
use Rattle.coding.specs.Code.{test_values}
use Rattle.coding.specs.Mu.{mu}
use Rattle.refusal.specs.Replies.{no_refusal}
use Rattle.codec.specs.Refusals.{syndrome_passed, tested_refused, tested_done}
use Rattle.lists.specs.Filling.{filled_rest}
use Rattle.codec.proofs.syndromes.syndrome.Goals as goal
use Rattle.codec.proofs.syndromes.syndrome.Goals.{In_ok-k}

pub returns-in_err-k : goal.returns-in_err-k
returns-in_err-k c =
    let p = err_from_is_err_and c.from_residual.result c.from_residual.ensures.1 in
    rw (p.1, p.2) (tested_refused c.args.k c.args.card.now c.args.values.now _ c.syndrome_tests.ensures.tested _ c.in_err-k.was)

-- what the tests that were passed say
passed : (v : In_ok-k) → (1 ≤ v.args.k) × (v.args.k ≤ 5) × (length v.args.card.now ≡ 6) × (length v.args.values.now ≡ 12 - 2 * v.args.k)
passed v = syndrome_passed _ _ _ (no_refusal _ _ v.syndrome_tests.ensures.tested v.in_ok-k.was)

pub returns : goal.returns
returns c =
    let (p, q, l, n) = passed (goal.at.returns c).In_ok-k in
    let same = c.in_ok-k.ensures.dimension in
    let from = 2 * c.in_ok-k.k.value - 2 in
    tested_done c.args.k c.args.card.now c.args.values.now _ c.syndrome_tests.ensures.tested _ c.in_ok-k.was _
    (filled_rest _ c.values_of-all.result _ from (10 - from) (length c.args.values.now)
    c.fill.ensures (c.values_of-all.ensures ∙ ap₂ (λ (k : ℕ) (card : List ℕ). test_values k (mu k) card) same c.six.ensures) (omega arith) (omega (arith, p, q, n)))
