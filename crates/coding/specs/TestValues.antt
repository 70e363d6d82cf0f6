-- The test values are all 0 exactly if the card's spectrum has the shape of a word's.
-- Main: silent, silent_shape.
use Rattle.std.specs.Prelude.{◌≡◌, refl, true, List, [], ◌∷◌, ◌++◌, ℕ, zero, suc, ◌+◌, ◌-◌, ◌≤◌, ◌<◌, eqb}
use Rattle.std.proofs.Common.{sym, ◌∙◌, arith, eqb-true}
use Rattle.std.proofs.Math.Path.{ap}
use Rattle.std.proofs.Math.Decide.{ℕ_discrete}
use Rattle.algebra.specs.Field.{times, risen, small, gamma}
use Rattle.coding.specs.Code.{P, trace, pairs_from, test_values}
use Rattle.coding.specs.Promise.{all_zero}
use Rattle.algebra.specs.Lists.{All}
use Rattle.algebra.specs.Tests.{both}
use Rattle.algebra.specs.Sums.{Zero}
use Rattle.algebra.specs.Linear.{computing}
use Rattle.algebra.specs.Products.{times_zero, times_whole}
use Rattle.algebra.proofs.Inverses.{no_divisors, risen_not_zero}
use Rattle.algebra.specs.SmallField.{low, high}
use Rattle.algebra.proofs.SmallField.{small_linear}
use Rattle.coding.specs.Spectrum.{spectrum, spectrum_whole}
use Rattle.coding.specs.WordSpectrum.{Shape}
use Rattle.coding.specs.Mu.{mu, P_mu}
use Rattle.coding.specs.Traces.{first_trace, first_high, first_not_zero, last_low, last_factor, traces_none, small_of_none, small_of_zero}

-- LISTS OF ZEROS
zeros_passed : (xs : List ℕ) → all_zero xs ≡ true → All (λ x. x ≡ 0) xs
unfolding all_zero
zeros_passed [] e = tt
zeros_passed (x ∷ xs) e = let t = both (eqb x 0) (all_zero xs) e in (eqb-true x 0 t.0, zeros_passed xs t.1)

zeros_pass : (xs : List ℕ) → All (λ x. x ≡ 0) xs → all_zero xs ≡ true
unfolding all_zero
zeros_pass [] h = refl
zeros_pass (x ∷ xs) h = rw (h.0, zeros_pass xs h.1)

-- THE PAIRS are 0 exactly if P is
pairs_silent : (n i : ℕ) (nu c ys : List ℕ) → ((j : ℕ) → i ≤ j → j < n + i → P j nu c ≡ 0) → All (λ y. y ≡ 0) ys
    → All (λ y. y ≡ 0) (pairs_from n i nu c ++ ys)
unfolding pairs_from computing trace
pairs_silent zero i nu c ys e z = z
pairs_silent (suc n) i nu c ys e z =
    let none = e i (omega arith) (omega arith) in (
      small_of_zero (ap trace none),
      (
        small_of_zero (ap (λ (x : ℕ). trace (times gamma x)) none),
        pairs_silent n (suc i) nu c ys (λ j p h. e j (omega arith) (omega arith)) z,
      ),
    )

pairs_heard : (n i : ℕ) (nu c ys : List ℕ) → All (λ y. y ≡ 0) (pairs_from n i nu c ++ ys)
    → ((j : ℕ) → i ≤ j → j < n + i → Zero (P j nu c)) × All (λ y. y ≡ 0) ys
unfolding pairs_from
pairs_heard zero i nu c ys z = ((λ j p h. absurd (omega arith)), z)
pairs_heard (suc n) i nu c ys z =
    let more = pairs_heard n (suc i) nu c ys z.1.1 in
    let here = traces_none (P i nu c) (small_of_none _ z.0) (small_of_none _ z.1.0) in
    ((λ j p h. elim (ℕ_discrete j i) [ yes q ↦ rw q here | no d ↦ more.0 j (omega arith) (omega arith) ]), more.1)

-- a constant times a small symbol
no_part : (a c : ℕ) → ¬ Zero a → times a (small c) ≡ 0 → small c ≡ 0
no_part a c n e = omega (arith, no_divisors a (small c) n e, small_linear.below c)

-- THE TEST AND THE SHAPE
module _ (k : ℕ) (p : 1 ≤ k) (h : k ≤ 5) (c : List ℕ) where
  first_is : trace (times (risen (6 - k) gamma) (P 0 (mu k) c)) ≡ times (first_trace k gamma) (small (high (spectrum c 0)))
  unfolding first_trace risen
  first_is = ap (λ (x : ℕ). trace (times (risen (6 - k) gamma) x)) (P_mu k 0 c) ∙ first_high k p h (spectrum c 0)

  last_is : trace (P k (mu k) c) ≡ times 272 (small (low (spectrum c k)))
  last_is = ap trace (P_mu k k c ∙ ap (λ (x : ℕ). times x (spectrum c k)) (last_factor k p h)) ∙ last_low (spectrum c k)

  none_from : (i : ℕ) → Zero (P i (mu k) c) → spectrum c i ≡ 0
  none_from i e =
      let n = risen_not_zero i (risen (6 - k) 377) (risen_not_zero (6 - k) 377 (omega arith)) in
      sym (spectrum_whole c i) ∙ no_divisors _ (spectrum c i) n (sym (times_whole _ _) ∙ (rw P_mu at e))

  pub silent : Shape k c → all_zero (test_values k (mu k) c) ≡ true
  unfolding test_values
  silent s = zeros_pass (test_values k (mu k) c) (
    small_of_zero (first_is ∙ ap (times (first_trace k gamma)) s.small_first ∙ times_zero _),
    pairs_silent (5 - k) (suc k) (mu k) c _ (λ i b l. P_mu k i c ∙ rw (s.none_beyond i (omega arith) (omega arith), times_zero))
        (small_of_zero (last_is ∙ ap (times 272) s.gamma_last ∙ times_zero 272), tt),
  )

  pub silent_shape : all_zero (test_values k (mu k) c) ≡ true → Shape k c
  unfolding test_values
  silent_shape e =
      let z = zeros_passed (test_values k (mu k) c) e in
      let t = pairs_heard (5 - k) (suc k) (mu k) c _ z.1 in
      record {
        small_first = no_part _ _ (first_not_zero k p h) (sym first_is ∙ small_of_none _ z.0);
        gamma_last = no_part 272 _ (omega arith) (sym last_is ∙ small_of_none _ t.1.0);
        none_beyond = λ i b l. none_from i (t.0 i b (omega arith));
      }
