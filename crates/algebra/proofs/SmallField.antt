-- The small field: 27 symbols, those that risen 3 leaves as they are. Each equation here between linear functions is by their values at
-- the basis (`agree .. refl`), so it holds at all numbers.
-- Main: small_linear, small_fixed, pair_low_high, pair_only, only_low, only_high, fixed_small, small_back.
use Rattle.std.specs.Prelude.{◌≡◌, refl, true, [], ◌∷◌, ℕ, ◌/◌, ◌%◌, ◌<◌, eqb}
use Rattle.std.proofs.Common.{sym, ap, ◌∙◌, mod-eq_of_lt, arith}
use Rattle.algebra.specs.Field.{add, minus, times, risen, small, gamma, small_of, small_from}
use Rattle.algebra.specs.Tests.{every, tested}
use Rattle.algebra.specs.Digits.{add_zero}
use Rattle.algebra.specs.Sums.{zero_plus, minus_self}
use Rattle.algebra.specs.Linear.{Linear, composed, summed, scale_linear, none_linear, rest_linear, combination_linear}
use Rattle.algebra.specs.Linear.{computing, agree, by_test}
use Rattle.algebra.specs.Products.{ring, right, times_zero, times_whole, risen_linear, risen_times}
use Rattle.algebra.specs.SmallField.{pair, low, high, SmallField}

-- small IS LINEAR, and reads three digits
same_small : (c m : ℕ) → c % 3 ≡ m % 3 → c / 3 % 3 ≡ m / 3 % 3 → c / 9 % 3 ≡ m / 9 % 3 → small c ≡ small m
unfolding small
same_small c m p q r = cc

pub small_rest : (c : ℕ) → small (c % 27) ≡ small c
small_rest c = same_small (c % 27) c (omega arith) (omega arith) (omega arith)

pub small_linear : Linear small
unfolding computing
small_linear = by_test small (λ v. same_small (v % 729) v (omega arith) (omega arith) (omega arith)) refl

rest_27_linear : Linear (λ v. v % 27)
unfolding computing
rest_27_linear = by_test (λ v. v % 27) (λ v. omega arith) refl

-- sums of small symbols are small
pub small_add : (c d : ℕ) → add (small c) (small d) ≡ small (add c d % 27)
small_add c d = sym (small_rest (add c d) ∙ small_linear.sum c d)

-- risen 3 leaves them
pub small_fixed : (c : ℕ) → risen 3 (small c) ≡ small c
unfolding computing
small_fixed = agree (composed (risen_linear 2) small_linear) small_linear refl

pub low_linear : Linear low
unfolding low
low_linear = combination_linear (1 ∷ 0 ∷ 6 ∷ 21 ∷ 4 ∷ 4 ∷ [])

pub high_linear : Linear high
unfolding high
high_linear = combination_linear (0 ∷ 1 ∷ 5 ∷ 10 ∷ 10 ∷ 20 ∷ [])

low_rest : (v : ℕ) → low v ≡ low v % 27
unfolding computing low
low_rest = agree low_linear (composed rest_27_linear low_linear) refl

high_rest : (v : ℕ) → high v ≡ high v % 27
unfolding computing high
high_rest = agree high_linear (composed rest_27_linear high_linear) refl

pub low_below : (v : ℕ) → low v < 27
low_below v = omega (arith, low_rest v)

pub high_below : (v : ℕ) → high v < 27
high_below v = omega (arith, high_rest v)

pub pair_low_high : (v : ℕ) → pair (low v) (high v) ≡ v % 729
unfolding computing pair low high
pair_low_high =
    agree (summed (composed small_linear low_linear) (composed (right gamma) (composed small_linear high_linear))) rest_linear refl

pub low_small : (c : ℕ) → low (small c) ≡ c % 27
unfolding computing low
low_small = agree (composed low_linear small_linear) rest_27_linear refl

pub high_small : (c : ℕ) → high (small c) ≡ 0
unfolding computing high
high_small = agree (composed high_linear small_linear) none_linear refl

pub low_gamma : (d : ℕ) → low (times gamma (small d)) ≡ 0
unfolding computing low
low_gamma = agree (composed low_linear (composed (right gamma) small_linear)) none_linear refl

pub high_gamma : (d : ℕ) → high (times gamma (small d)) ≡ d % 27
unfolding computing high
high_gamma = agree (composed high_linear (composed (right gamma) small_linear)) rest_27_linear refl

pub low_pair : (c d : ℕ) → low (pair c d) ≡ c % 27
unfolding pair
low_pair c d = low_linear.sum (small c) (times gamma (small d)) ∙ simp (low_small, low_gamma, add_zero) (omega arith)

pub high_pair : (c d : ℕ) → high (pair c d) ≡ d % 27
unfolding pair
high_pair c d = high_linear.sum (small c) (times gamma (small d)) ∙ simp (high_small, high_gamma, zero_plus) (omega arith)

-- in one way only
pub pair_only : (c d e f : ℕ) → c < 27 → d < 27 → e < 27 → f < 27 → pair c d ≡ pair e f → (c ≡ e) × (d ≡ f)
pair_only c d e f p q r s same = (
  omega (arith, low_pair c d, low_pair e f, ap low same),
  omega (arith, high_pair c d, high_pair e f, ap high same),
)

-- SYMBOLS WITH ONE PART
pub only_low : (v : ℕ) → small (high v) ≡ 0 → small (low v) ≡ v % 729
unfolding pair
only_low v e = sym (simp (e, times_zero, add_zero) (mod-eq_of_lt (small_linear.below (low v)))) ∙ pair_low_high v

pub only_high : (v : ℕ) → small (low v) ≡ 0 → times gamma (small (high v)) ≡ v % 729
unfolding pair
only_high v e = sym (simp (e, zero_plus, times_whole)) ∙ pair_low_high v

-- WHAT risen 3 LEAVES IS SMALL: 446 is 1 / (gamma^27 - gamma)
high_moved : (v : ℕ) → small (high v) ≡ times 446 (minus (risen 3 v) v)
unfolding computing high minus
high_moved = agree (composed small_linear high_linear) (composed (right 446) (summed (risen_linear 2) (scale_linear 2))) refl

pub fixed_small : (v : ℕ) → risen 3 v ≡ v → small (low v) ≡ v % 729
fixed_small v e = only_low v (simp (high_moved, e, minus_self, times_zero))

-- the high part of a product by a small symbol
pub high_times : (v c : ℕ) → small (high (times v (small c))) ≡ times (small (high v)) (small c)
high_times v c = high_moved _ ∙ ap (λ (x : ℕ). times 446 (minus x (times v (small c)))) (risen_times 3 v (small c) ∙ ap (times (risen 3 v)) (small_fixed c))
    ∙ taken_out (risen 3 v) ∙ ap (λ (x : ℕ). times x (small c)) (sym (high_moved v))
  where
    taken_out : (r : ℕ) → times 446 (minus (times r (small c)) (times v (small c))) ≡ times (times 446 (minus r v)) (small c)
    taken_out r = simp ring

-- products of small symbols are small
pub small_times : (c d : ℕ) → times (small c) (small d) ≡ small (low (times (small c) (small d)))
small_times c d = sym (fixed_small (times (small c) (small d)) (simp (risen_times, small_fixed)) ∙ times_whole (small c) (small d))

-- and small_of takes small numbers back
small_test : every 27 (λ c. eqb (small_of (small c)) c) ≡ true
unfolding computing small_of small_from
small_test = refl

pub small_back : (c : ℕ) → c < 27 → small_of (small c) ≡ c
small_back = tested 27 (λ c. small_of (small c)) (λ c. c) small_test

pub small_field : SmallField
unfolding SmallField
small_field v c h l = (
  small_fixed c,
  small_back c l,
  λ e.
      let f : small (low v) ≡ v = fixed_small v e ∙ mod-eq_of_lt h in
      ap (λ (x : ℕ). small (small_of x)) (sym f) ∙ ap small (small_back (low v) (low_below v)) ∙ f,
)
