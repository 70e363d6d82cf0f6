-- The list mu for each k: delta times a constant, and no other list; with it, P is the spectrum times a constant.
-- Main: mu_is, mu_alone, P_mu.
use Rattle.std.specs.Prelude.{◌≡◌, refl, true, List, map, ℕ, zero, suc, ◌+◌, ◌-◌, ◌≤◌, ◌<◌, eqb}
use Rattle.std.proofs.Common.{sym, ap, ap₂, ◌∙◌, arith, eqb-true}
use Rattle.std.proofs.Math.Decide.{ℕ_discrete}
use Rattle.algebra.specs.Field.{add, times, power, risen}
use Rattle.rank.specs.Definitions.{at, is_card}
use Rattle.algebra.specs.Tests.{any_above, both, one_to_five}
use Rattle.coding.specs.Code.{weighted, zeros_from, is_mu, P, P_from}
use Rattle.algebra.specs.Lists.{table, table_same}
use Rattle.algebra.specs.Digits.{add_zero}
use Rattle.algebra.specs.Linear.{computing}
use Rattle.algebra.specs.Products.{products, times_add, times_zero, zero_times, times_whole, risen_times}
use Rattle.algebra.specs.Totals.{total, total_none}
use Rattle.coding.specs.Spectrum.{delta, risen_delta, spectrum, from_weighted}

unfoldable pub mu : (k : ℕ) → List ℕ
mu k = map (times (risen (6 - k) 377)) delta

pub mu_is : (k : ℕ) → 1 ≤ k → k ≤ 5 → is_mu k (mu k) ≡ true
unfolding computing power at is_mu is_card any_above weighted zeros_from mu delta
mu_is = one_to_five _ refl refl refl refl refl

-- P is the spectrum times a constant
pub P_mu : (k i : ℕ) (c : List ℕ) → P i (mu k) c ≡ times (risen i (risen (6 - k) 377)) (spectrum c i)
unfolding P P_from spectrum total mu delta at risen_delta
P_mu k i c = simp (risen_times, times_add, times_zero, products)

-- mu IS THE ONLY LIST: its weighted sums give it back, and all but the first are 0
zero_sums : (nu : List ℕ) (n i : ℕ) → zeros_from n i nu ≡ true → (j : ℕ) → i ≤ j → j < n + i → weighted 6 0 j nu ≡ 0
unfolding zeros_from
zero_sums nu zero i e j p h = absurd (omega arith)
zero_sums nu (suc n) i e j p h =
    let t = both (eqb (weighted 6 0 i nu) 0) (zeros_from n (suc i) nu) e in
    elim (ℕ_discrete j i) [ yes q ↦ rw q (eqb-true (weighted 6 0 i nu) 0 t.0) | no d ↦ zero_sums nu n (suc i) t.1 j (omega arith) (omega arith) ]

pub mu_alone : (k : ℕ) (nu : List ℕ) → is_mu k nu ≡ true → nu ≡ mu k
unfolding is_mu total table mu delta at risen_delta risen
mu_alone k nu e = sym (from_weighted nu card) ∙ table_same 6 _ (λ s. times (risen (6 - k) 377) (at delta s)) (λ s h. only_first s)
  where
    card : is_card nu ≡ true
    card = (both (is_card nu) _ e).0

    sums : (eqb (weighted 6 0 0 nu) (risen (6 - k) 377) ≡ true) × (zeros_from 5 1 nu ≡ true)
    sums = both _ (zeros_from 5 1 nu) (both (is_card nu) _ e).1

    only_first : (s : ℕ) → total 6 0 (λ i. times (weighted 6 0 i nu) (risen_delta s i)) ≡ times (risen (6 - k) 377) (at delta s)
    only_first s =
        ap₂ add (ap (λ (x : ℕ). times x (at delta s)) (eqb-true (weighted 6 0 0 nu) (risen (6 - k) 377) sums.0))
        (total_none 5 1 _ (λ i p q. ap (λ (x : ℕ). times x (risen_delta s i)) (zero_sums nu 5 1 sums.1 i p q) ∙ zero_times _))
        ∙ add_zero _
        ∙ times_whole _ _
