-- Inverses by logarithms, and with them no divisors of 0.
-- Main: times_inverse, divide, no_divisors, times_not_zero, risen_not_zero, inverse_only, inverse_cube.
use Rattle.std.specs.Prelude.{◌≡◌, ℕ, zero, suc, ◌+◌, ◌-◌, ◌%◌, ◌<◌}
use Rattle.std.proofs.Common.{sym, ap, ap₂, ◌∙◌, mod-eq_of_lt, arith, lit<, eq-eqb, ne_eqb}
use Rattle.std.proofs.Math.Decide.{ℕ_discrete}
use Rattle.algebra.specs.Field.{times, power, cube, risen}
use Rattle.algebra.specs.Sums.{Zero}
use Rattle.algebra.specs.Linear.{computing}
use Rattle.algebra.specs.Products.{cube_linear, none_cube, cube_times, times_comm, times_assoc, times_one, times_zero, rest_times, times_whole}
use Rattle.algebra.specs.Powers.{log}
use Rattle.algebra.proofs.Powers.{log_below, power_below, power_log, power_plus, power_728}
use Rattle.algebra.specs.Inverses.{inverse}

pub inverse_zero : (a : ℕ) → Zero a → inverse a ≡ 0
unfolding inverse
inverse_zero a z = rw (eq-eqb (a % 729) 0 z)

pub inverse_power : (a : ℕ) → ¬ Zero a → inverse a ≡ power 3 (728 - log a)
unfolding inverse
inverse_power a n = rw (ne_eqb (a % 729) 0 n)

pub inverse_below : (a : ℕ) → inverse a < 729
inverse_below a = elim (ℕ_discrete (a % 729) 0) [ yes z ↦ rw (inverse_zero a z) (lit< tt) | no n ↦ rw (inverse_power a n) (power_below _) ]

pub times_inverse : (a : ℕ) → ¬ Zero a → times a (inverse a) ≡ 1
times_inverse a n =
    let back : log a + (728 - log a) ≡ 728 = omega (arith, log_below a) in
    sym (rest_times a (inverse a)) ∙ ap₂ times (sym (power_log a n)) (inverse_power a n)
    ∙ power_plus (log a) (728 - log a) ∙ ap (power 3) back ∙ power_728

pub divide : (a b : ℕ) → ¬ Zero a → times (inverse a) (times a b) ≡ b % 729
divide a b n = cc (times_one b, times_comm b 1, times_inverse a n, times_comm a (inverse a), times_assoc (inverse a) a b)

-- no divisors of 0
pub no_divisors : (a b : ℕ) → ¬ Zero a → times a b ≡ 0 → Zero b
no_divisors a b n e = sym (divide a b n) ∙ ap (times (inverse a)) e ∙ times_zero (inverse a)

pub times_not_zero : (a b : ℕ) → ¬ Zero a → ¬ Zero b → ¬ Zero (times a b)
times_not_zero a b n m e = m (no_divisors a b n (sym (times_whole a b) ∙ e))

pub risen_not_zero : (i a : ℕ) → ¬ Zero a → ¬ Zero (risen i a)
unfolding risen cube
risen_not_zero zero a n = n
risen_not_zero (suc i) a n =
    let m = risen_not_zero i a n in
    times_not_zero (risen i a) _ m (times_not_zero (risen i a) (risen i a) m m)

-- the inverse is the only one
pub inverse_only : (a r : ℕ) → ¬ Zero a → times a r ≡ 1 → r % 729 ≡ inverse a
inverse_only a r n e = sym (divide a r n) ∙ ap (times (inverse a)) e ∙ times_one (inverse a) ∙ mod-eq_of_lt (inverse_below a)

-- that of a cube is the cube of the inverse
pub inverse_cube : (a : ℕ) → cube (inverse a) ≡ inverse (cube a)
unfolding computing
inverse_cube a = elim (ℕ_discrete (a % 729) 0) [
  | yes z ↦ none_cube (inverse a) (ap (λ (x : ℕ). x % 729) (inverse_zero a z))
      ∙ sym (inverse_zero (cube a) (ap (λ (x : ℕ). x % 729) (none_cube a z)))
  | no n ↦ sym (mod-eq_of_lt (cube_linear.below (inverse a)))
      ∙ inverse_only (cube a) (cube (inverse a)) (risen_not_zero 1 a n) (sym (cube_times a (inverse a)) ∙ ap cube (times_inverse a n))
]
