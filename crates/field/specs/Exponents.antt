-- Logarithms as they are read, and powers of what is made of them.
-- Main: log_read, zero_factor, zero_cubed, zero_divided, product_round, cube_product_is, inverse_one, inverse_back, quotient_is.
use Rattle.std.specs.Prelude.{◌≡◌, ◌⊎◌, ℕ, zero, suc, ◌+◌, ◌*◌, ◌-◌, ◌/◌, ◌%◌, ◌≤◌, get_or}
use Rattle.std.proofs.Math.Path.{sym, ap}
use Rattle.std.proofs.Common.{inl, inr, ap₂, ◌∙◌, mod-lt, lit<}
use Rattle.std.proofs.Math.Nat.{mod-mod}
use native.Mathlib.Omega.{arith}
use Rattle.algebra.specs.Field.{times, power, cube}
use Rattle.algebra.specs.Lists.{table, at_table}
use Rattle.algebra.specs.Sums.{Zero}
use Rattle.algebra.specs.Linear.{at_rest}
use Rattle.algebra.specs.Products.{cube_linear, none_cube, times_rest, rest_times, zero_times, times_zero}
use Rattle.algebra.specs.Powers.{powers, place, log}
use Rattle.algebra.proofs.Powers.{log_below, power_log, power_plus, power_round, power_728, times_logs}
use Rattle.algebra.specs.Inverses.{inverse}
use Rattle.algebra.proofs.Inverses.{inverse_zero, inverse_power}

-- THE TABLE of logarithms has that of a symbol at its place
pub log_read : (a : ℕ) → get_or (table 729 log) (a % 729) 0 ≡ log a
unfolding log
log_read a = at_table 729 log (a % 729) (mod-lt a (lit< tt)) ∙ ap (λ (v : ℕ). place v 0 powers) (mod-mod a 729)

-- a factor is 0: the first, or else the second
pub zero_factor : (a b : ℕ) → Zero a ⊎ (¬ Zero a × Zero b) → 0 ≡ times a b
zero_factor a b (inl z) = sym (sym (rest_times a b) ∙ ap (λ (x : ℕ). times x b) z ∙ zero_times b)
zero_factor a b (inr (n, z)) = sym (sym (times_rest a b) ∙ ap (times a) z ∙ times_zero a)

-- and where the second is cubed, or the first divided by it
pub zero_cubed : (a b : ℕ) → Zero a ⊎ (¬ Zero a × Zero b) → 0 ≡ times a (cube b)
zero_cubed a b (inl z) = zero_factor a (cube b) (inl z)
zero_cubed a b (inr (n, z)) = zero_factor a (cube b) (inr (n, ap (λ v. v % 729) (none_cube b z)))

pub zero_divided : (a b : ℕ) → Zero a ⊎ (¬ Zero a × Zero b) → 0 ≡ times (inverse b) a
zero_divided a b (inl z) = sym (sym (times_rest (inverse b) a) ∙ ap (times (inverse b)) z ∙ times_zero (inverse b))
zero_divided a b (inr (n, z)) = sym (ap (λ x. times x a) (inverse_zero b z) ∙ zero_times a)

-- the powers come round after 728, however often
power_rounds : (q n : ℕ) → power 3 (n + q * 728) ≡ power 3 n
power_rounds zero n = ap (power 3) (omega arith)
power_rounds (suc q) n = ap (power 3) (omega arith) ∙ power_round (n + q * 728) ∙ power_rounds q n

power_rest : (n : ℕ) → power 3 (n % 728) ≡ power 3 n
power_rest n = sym (power_rounds (n / 728) (n % 728)) ∙ ap (power 3) (omega arith)

-- PRODUCTS: where the sum of exponents is 728 or more, it comes round
pub product_round : (a b : ℕ) → ¬ Zero a → ¬ Zero b → 728 ≤ log a + log b → power 3 (log a + log b - 728) ≡ times a b
product_round a b n m h = sym (power_round _) ∙ ap (power 3) (omega arith) ∙ sym (times_logs a b n m)

-- PRODUCTS WITH A CUBE: its exponent is taken three times, and added to that of the other factor
cube_by_log : (a : ℕ) → ¬ Zero a → power 3 (3 * log a) ≡ cube a
unfolding cube
cube_by_log a n =
    ap (power 3) thrice
    ∙ sym (ap (times (power 3 (log a))) (power_plus (log a) (log a)) ∙ power_plus (log a) (log a + log a))
    ∙ ap cube (power_log a n)
    ∙ at_rest cube_linear a
  where
    thrice : 3 * log a ≡ log a + (log a + log a)
    thrice = omega arith

pub cube_product_is : (a b : ℕ) → ¬ Zero a → ¬ Zero b → power 3 ((log a + 3 * log b) % 728) ≡ times a (cube b)
cube_product_is a b n m =
    power_rest (log a + 3 * log b)
    ∙ sym (power_plus (log a) (3 * log b))
    ∙ ap₂ times (power_log a n) (cube_by_log b m)
    ∙ rest_times a (cube b)

-- INVERSES: the exponent is taken from 728
module _ (a : ℕ) (n : ¬ Zero a) where
  pub inverse_one : log a ≡ 0 → 1 ≡ inverse a
  inverse_one e = sym (inverse_power a n ∙ rw e power_728)

  pub inverse_back : power 3 (728 - log a) ≡ inverse a
  inverse_back = sym (inverse_power a n)

-- QUOTIENTS: the exponents are subtracted
pub quotient_is : (a b : ℕ) → ¬ Zero a → ¬ Zero b → power 3 ((log a + 728 - log b) % 728) ≡ times (inverse b) a
quotient_is a b n m =
    power_rest (log a + 728 - log b)
    ∙ ap (power 3) turned
    ∙ sym (power_plus (728 - log b) (log a))
    ∙ ap₂ times (sym (inverse_power b m)) (power_log a n)
    ∙ times_rest (inverse b) a
  where
    turned : log a + 728 - log b ≡ 728 - log b + log a
    turned = omega (arith, log_below b)
