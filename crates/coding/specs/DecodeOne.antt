-- Decoding for k = 1: four of the error's coefficients are the card's, a window, so the other two are solved by it.
-- Main: zeroth, first, zeroth_is, first_is, double, decode_one, one_is_decode.
use Rattle.std.specs.Prelude.{◌≡◌, true, cond, List, [], ◌∷◌, ℕ, ◌+◌, ◌%◌, ◌<◌, eqb}
use Rattle.std.proofs.Math.Path.{refl}
use Rattle.std.proofs.Common.{◌∙◌, lit≤, lit<}
use Rattle.std.proofs.Math.Option.{Option}
use Rattle.std.proofs.Math.Nat.{mod-eq_of_lt}
use Rattle.algebra.specs.Field.{minus, times, small, gamma}
use Rattle.algebra.specs.Sums.{Zero, minus_rest}
use Rattle.algebra.specs.Products.{times_whole}
use Rattle.algebra.specs.SmallField.{low, high}
use Rattle.algebra.proofs.SmallField.{small_linear}
use Rattle.rank.specs.Definitions.{at, is_card}
use Rattle.coding.specs.Code.{Near}
use Rattle.coding.specs.Coefficients.{inners, higher, coefficients, read, read_higher, read_coefficients}
use Rattle.coding.specs.Answers.{proposal_answers}
use Rattle.coding.specs.Decode.{if_near, near_checks, decode}
use Rattle.coding.specs.Spectrum.{spectrum}
use Rattle.coding.specs.Errors.{errors, errors_beyond}
use Rattle.coding.specs.Annihilator.{Annihilated, near_annihilated}
use Rattle.coding.specs.Window.{determinant, solved, determinant_before, solved_is}
use Rattle.coding.specs.Residual.{if_rank_one, determinant_answers}
use Rattle.coding.specs.Proved.{answered}

-- THE COEFFICIENTS of a message whose error has rank 2, solved by the window
unfoldable pub zeroth : (r : ℕ → ℕ) → ℕ
zeroth r = solved (r 2) (r 3) (r 4) (r 5) (r 0) (r 4) (r 5)

unfoldable pub first : (r : ℕ → ℕ) → ℕ
first r = solved (r 2) (r 3) (r 4) (r 5) (r 1) (r 5) (minus (r 0) (zeroth r))

-- they are f₀ and f₁, if the error has the spectrum's coefficients but for these
module _ {e : ℕ → ℕ} (A : Annihilated e) (r : ℕ → ℕ) (f₀ f₁ : ℕ) (beyond : (i : ℕ) → 1 < i → i < 6 → e i ≡ r i) (e₀ : e 0 ≡ minus (r 0) f₀) (e₁ : e 1 ≡ minus (r 1) f₁)
    (n : ¬ Zero (determinant (r 3) (r 4) (r 5))) where
  solves : (j f g : ℕ) → j < 6 → e j ≡ minus f g → solved (r 2) (r 3) (r 4) (r 5) f (e ((j + 4) % 6)) (e ((j + 5) % 6)) ≡ g % 729
  solves = rw (← beyond 2 (lit< tt) (lit< tt), ← beyond 3 (lit< tt) (lit< tt), ← beyond 4 (lit< tt) (lit< tt), ← beyond 5 (lit< tt) (lit< tt)) (
      solved_is A 4 (lit< tt) (determinant_before A 4 (lit< tt)
      (rw (beyond 3 (lit< tt) (lit< tt), beyond 4 (lit< tt) (lit< tt), beyond 5 (lit< tt) (lit< tt)) n)))

  pub zeroth_is : zeroth r ≡ f₀ % 729
  unfolding zeroth
  zeroth_is = rw (beyond 4 (lit< tt) (lit< tt), beyond 5 (lit< tt) (lit< tt)) at (solves 0 (r 0) f₀ (lit< tt) e₀)

  pub first_is : first r ≡ f₁ % 729
  unfolding first
  first_is = rw (zeroth_is, minus_rest (r 0) f₀) (rw (beyond 5 (lit< tt) (lit< tt), e₀) at (solves 1 (r 1) f₁ (lit< tt) e₁))

-- THE MESSAGE of a spectrum whose error has rank 2
unfoldable pub double : (r : ℕ → ℕ) → List ℕ
double r = low (zeroth r) ∷ high (first r) ∷ []

-- DECODING for k = 1: where the determinant is 0 the error has rank at most 1, else one message is checked against the card
unfoldable pub decode_one : (card : List ℕ) → Option (List ℕ)
decode_one c = cond (eqb (determinant (spectrum c 3) (spectrum c 4) (spectrum c 5)) 0) (if_rank_one 1 c (spectrum c 4)) (if_near 1 c (double (spectrum c)))

module _ (c : List ℕ) (card : is_card c ≡ true) where
  abbrev r : ℕ → ℕ
  r = spectrum c

  module _ (n : ¬ Zero (determinant (r 3) (r 4) (r 5))) (m : List ℕ) (near : Near 1 c m) where
    abbrev A : Annihilated (errors 1 c m)
    A = near_annihilated 1 (lit≤ tt) (lit≤ tt) c card m near

    beyond : (i : ℕ) → 1 < i → i < 6 → errors 1 c m i ≡ r i
    beyond i h l = errors_beyond 1 (lit≤ tt) (lit≤ tt) c card m i h

    zeroth_small : zeroth r ≡ small (at m 0)
    unfolding errors coefficients higher inners at
    zeroth_small = zeroth_is A r (small (at m 0)) (times gamma (small (at m 1))) beyond refl refl n ∙ mod-eq_of_lt (small_linear.below (at m 0))

    first_gamma : first r ≡ times gamma (small (at m 1))
    unfolding errors coefficients higher inners at
    first_gamma = first_is A r (small (at m 0)) (times gamma (small (at m 1))) beyond refl refl n ∙ times_whole gamma (small (at m 1))

    near_double : double r ≡ m
    unfolding double coefficients higher inners read read_higher
    near_double = rw (zeroth_small, first_gamma) (read_coefficients 1 (lit≤ tt) (lit≤ tt) m near.message)

  -- THE SAME as decode
  pub one_is_decode : decode_one c ≡ decode 1 c
  unfolding decode_one
  one_is_decode = answered 1 (lit≤ tt) (lit≤ tt) c card _ (determinant_answers 1 (lit≤ tt) (lit≤ tt) c card (lit≤ tt) _ (λ n. proposal_answers (near_checks 1 c) _ (near_double n)))
