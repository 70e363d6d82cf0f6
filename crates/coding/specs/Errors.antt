-- The error of a card, if a message near it was meant: its coefficients are those of the card less those of the message, and its rank is at
-- most the radius.
-- Main: errors, taken_back, error_values, errors_rank, near_rank, errors_beyond, given_back.
use Rattle.std.specs.Prelude.{◌≡◌, true, List, ℕ, ◌%◌, ◌≤◌, ◌<◌}
use Rattle.std.proofs.Math.Path.{sym, ap, ap₂, fun_ext}
use Rattle.std.proofs.Common.{◌∙◌, arith}
use Rattle.std.proofs.Math.ListN.{get_or-eq_default}
use Rattle.algebra.specs.Field.{minus}
use Rattle.algebra.specs.Lists.{table, length_table, at_table}
use Rattle.algebra.specs.Sums.{minus_zero}
use Rattle.algebra.specs.Linear.{images}
use Rattle.algebra.specs.Products.{ring}
use Rattle.algebra.specs.Polynomials.{ev}
use Rattle.rank.specs.Definitions.{at, is_card, rank, difference, apart}
use Rattle.rank.specs.Distance.{apart_sym}
use Rattle.coding.specs.Code.{word, radius, Near}
use Rattle.coding.specs.Coefficients.{coefficients, length_coefficients, coefficients_below, word_card}
use Rattle.coding.specs.Cards.{at_whole}
use Rattle.coding.specs.Spectrum.{spectrum, spectrum_whole, images_spectrum}
use Rattle.coding.specs.WordSpectrum.{word_spectrum}

-- THE ERROR'S COEFFICIENTS, if m was meant
unfoldable pub errors : (k : ℕ) → (card m : List ℕ) → ℕ → ℕ
errors k c m i = minus (spectrum c i) (at (coefficients k m) i)

ev_difference : (r f : ℕ → ℕ) (y : ℕ) → ev (table 6 (λ i. minus (r i) (f i))) y ≡ minus (ev (table 6 r) y) (ev (table 6 f) y)
unfolding ev table
ev_difference r f y = simp ring

pub taken_back : (r f : ℕ) → minus r (minus r f) ≡ f % 729
taken_back r f = simp ring

module _ (k : ℕ) (p : 1 ≤ k) (q : k ≤ 5) (c : List ℕ) (card : is_card c ≡ true) (m : List ℕ) where
  card_is : images (ev (table 6 (spectrum c))) ≡ c
  unfolding at
  card_is = images_spectrum c (table 6 (spectrum c)) card (omega (arith, length_table 6 (spectrum c))) (at_table 6 (spectrum c))

  word_is : images (ev (table 6 (at (coefficients k m)))) ≡ word k m
  unfolding at
  word_is = images_spectrum (word k m) (table 6 (at (coefficients k m))) (word_card k p m) (omega (arith, length_table 6 (at (coefficients k m))))
      (λ i h. at_table 6 (at (coefficients k m)) i h ∙ sym (word_spectrum k p q m i h))

  pub error_values : images (ev (table 6 (errors k c m))) ≡ difference c (word k m)
  unfolding errors difference
  error_values = ap images (fun_ext (ev_difference (spectrum c) (at (coefficients k m)))) ∙ ap₂ difference card_is word_is

  -- THEIR RANK
  pub errors_rank : apart (word k m) c ≡ rank (images (ev (table 6 (errors k c m))))
  unfolding apart
  errors_rank = apart_sym (word k m) c ∙ ap rank (sym error_values)

  pub near_rank : Near k c m → rank (images (ev (table 6 (errors k c m)))) ≤ radius k
  near_rank near = rw (← errors_rank) near.within

  -- beyond the message's coefficients they are the card's
  pub errors_beyond : (i : ℕ) → k < i → errors k c m i ≡ spectrum c i
  unfolding errors at
  errors_beyond i h =
      ap (minus (spectrum c i)) (get_or-eq_default (coefficients k m) 0 {n = i} (omega (arith, length_coefficients k p m)))
      ∙ minus_zero (spectrum c i)
      ∙ spectrum_whole c i

  -- and the card's less them are the message's
  pub given_back : (i : ℕ) → minus (spectrum c i) (errors k c m i) ≡ at (coefficients k m) i
  unfolding errors
  given_back i = taken_back (spectrum c i) (at (coefficients k m) i) ∙ at_whole (coefficients k m) (coefficients_below k m) i
