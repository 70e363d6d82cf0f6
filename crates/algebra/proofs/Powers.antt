-- The powers of z, which is symbol 3, are all the symbols but 0: each has its logarithm, and a product is the power at the sum of two.
-- Main: power_at, power_log, power_plus, power_round, times_logs.
use Rattle.std.specs.Prelude.{◌≡◌, refl, true, ℕ, zero, suc, ◌+◌, ◌%◌, ◌<◌, eqb, ltb, get_or}
use Rattle.std.proofs.Common.{sym, ap, ap₂, ◌∙◌, mod-eq_of_lt, mod-lt, zero-add, suc-add, add-suc, add-zero, arith, lit<, ltb-true}
use Rattle.std.proofs.Math.Nat.{mod-mod}
use Rattle.algebra.specs.Field.{shifted, times, power}
use Rattle.algebra.specs.Tests.{every, every_at, tested}
use Rattle.algebra.specs.Sums.{Zero}
use Rattle.algebra.specs.Linear.{computing, agree}
use Rattle.algebra.specs.Products.{orbit, right, shifted_linear, times_assoc, times_comm, one_times, times_rest, rest_times}
use Rattle.algebra.specs.Powers.{powers, place, log}

-- THE POWERS by their places
z_times : (a : ℕ) → times 3 a ≡ shifted a
unfolding computing
z_times = agree (right 3) shifted_linear refl

pub power_zero : (a : ℕ) → power a 0 ≡ 1
unfolding power
power_zero a = refl

pub power_suc : (a n : ℕ) → power a (suc n) ≡ times a (power a n)
unfolding power
power_suc a n = refl

pub power_below : (n : ℕ) → power 3 n < 729
power_below zero = rw (power_zero 3) (lit< tt)
power_below (suc n) = rw (power_suc 3 n) ((right 3).below (power 3 n))

orbit_at : (n i x : ℕ) → power 3 i ≡ x → (j : ℕ) → j < n → get_or (orbit n x) j 0 ≡ power 3 (j + i)
unfolding orbit
orbit_at zero i x e j h = absurd (omega arith)
orbit_at (suc n) i x e zero h = sym e ∙ ap (power 3) (sym (zero-add i))
orbit_at (suc n) i x e (suc j) h =
    orbit_at n (suc i) (shifted x) (power_suc 3 i ∙ z_times (power 3 i) ∙ ap shifted e) j (omega arith)
    ∙ ap (power 3) (add-suc j i ∙ sym (suc-add j i))

pub power_at : (n : ℕ) → n < 728 → get_or powers n 0 ≡ power 3 n
unfolding powers
power_at n h = orbit_at 728 0 1 (power_zero 3) n h ∙ ap (power 3) (add-zero n)

-- THE LOGARITHM of each symbol but 0, by one test
log_test : every 728 (λ b. eqb (get_or powers (log (suc b)) 0) (suc b)) ≡ true
unfolding computing orbit powers place log
log_test = refl

below_test : every 729 (λ v. ltb (log v) 728) ≡ true
unfolding computing orbit powers place log
below_test = refl

log_rest : (a : ℕ) → log (a % 729) ≡ log a
unfolding log
log_rest a = ap (λ (v : ℕ). place v 0 powers) (mod-mod a 729)

pub log_below : (a : ℕ) → log a < 728
log_below a = rw (log_rest a) at (ltb-true (log (a % 729)) 728 (every_at 729 (λ v. ltb (log v) 728) below_test (a % 729) (mod-lt a (lit< tt))))

pub power_log : (a : ℕ) → ¬ Zero a → power 3 (log a) ≡ a % 729
power_log a n = sym (power_at (log a) (log_below a)) ∙ ap (λ (l : ℕ). get_or powers l 0) (sym (log_rest a)) ∙ go (a % 729) n (mod-lt a (lit< tt))
  where
    go : (v : ℕ) → ¬ (v ≡ 0) → v < 729 → get_or powers (log v) 0 ≡ v
    go zero n h = absurd (n refl)
    go (suc b) n h = tested 728 (λ x. get_or powers (log (suc x)) 0) suc log_test b (omega arith)

-- PRODUCTS by logarithms
pub power_plus : (i j : ℕ) → times (power 3 i) (power 3 j) ≡ power 3 (i + j)
power_plus zero j =
    ap (λ (x : ℕ). times x (power 3 j)) (power_zero 3) ∙ one_times (power 3 j) ∙ mod-eq_of_lt (power_below j) ∙ ap (power 3) (sym (zero-add j))
power_plus (suc i) j =
    ap (λ (x : ℕ). times x (power 3 j)) (power_suc 3 i) ∙ times_assoc 3 (power 3 i) (power 3 j)
    ∙ ap (times 3) (power_plus i j) ∙ sym (power_suc 3 (i + j)) ∙ ap (power 3) (sym (suc-add i j))

pub power_728 : power 3 728 ≡ 1
unfolding computing power
power_728 = refl

-- the powers come round after 728
pub power_round : (n : ℕ) → power 3 (n + 728) ≡ power 3 n
power_round n = sym (power_plus n 728) ∙ ap (times (power 3 n)) power_728 ∙ times_comm (power 3 n) 1 ∙ one_times (power 3 n) ∙ mod-eq_of_lt (power_below n)

pub times_logs : (a b : ℕ) → ¬ Zero a → ¬ Zero b → times a b ≡ power 3 (log a + log b)
times_logs a b n m =
    sym (rest_times a b) ∙ sym (times_rest (a % 729) b)
    ∙ ap₂ times (sym (power_log a n)) (sym (power_log b m)) ∙ power_plus (log a) (log b)
