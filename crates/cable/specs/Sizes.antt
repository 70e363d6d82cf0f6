-- Sums of levels fit 16 bits: bounds on absolute values, and what is read back.
-- Main: fits, term_fits, terms_fit, terms_bound, next_term, raised.
use Rattle.std.specs.Prelude.{◌≡◌, refl, Bool, true, false, cond, ℕ, zero, suc, ◌+◌, ◌*◌, ◌-◌, ◌≤◌, ◌<◌, eqb, ltb, ℤ, pos, negsuc, neg_ℤ, ◌+ℤ◌, ◌*ℤ◌, nat_abs}
use Rattle.std.proofs.Common.{ap, ◌∙◌, arith, ltb-true, ltb-false, le-ltb, SFits, to_z, of_z}
use Rattle.std.proofs.Math.IntN.{sub_ℕ}
use Rattle.std.specs.Int.{w16}
use Rattle.std.proofs.lemmas.Int.{to_z-of_z}
use Rattle.algebra.specs.Tests.{neither}
use Rattle.levels.specs.Levels.{level, outside}

-- 16 BITS, and the absolute values of sums and products
pub fits : (z : ℤ) → nat_abs z < 32768 → SFits w16 z
fits (pos n) h = record { sfits = omega arith }
fits (negsuc n) h = record { sfits = omega arith }

difference_bound : (a b : ℕ) → nat_abs (sub_ℕ a b) ≤ a + b
difference_bound a b = go (ltb a b) refl
  where
    go : (t : Bool) → ltb a b ≡ t → nat_abs (cond t (negsuc (b - suc a)) (pos (a - b))) ≤ a + b
    go true e = omega (arith, ltb-true a b e)
    go false e = omega (arith, ltb-false a b e)

sum_bound : (a b : ℤ) → nat_abs (a +ℤ b) ≤ nat_abs a + nat_abs b
sum_bound (pos a) (pos b) = omega arith
sum_bound (pos a) (negsuc b) = difference_bound a (suc b)
sum_bound (negsuc a) (pos b) = omega (arith, difference_bound b (suc a))
sum_bound (negsuc a) (negsuc b) = omega arith

minus_size : (n : ℕ) → nat_abs (neg_ℤ (pos n)) ≡ n
minus_size zero = refl
minus_size (suc n) = refl

product_size : (a b : ℤ) → nat_abs (a *ℤ b) ≡ nat_abs a * nat_abs b
product_size (pos a) (pos b) = refl
product_size (pos a) (negsuc b) = minus_size (a * suc b)
product_size (negsuc a) (pos b) = minus_size (suc a * b)
product_size (negsuc a) (negsuc b) = refl

-- A LEVEL TIMES A POWER is no more than the power, and one term more adds no more than that
term_bound : (d : ℕ) (p : ℤ) → nat_abs (level d *ℤ p) ≤ nat_abs p
unfolding level
term_bound d p = go (eqb d 1) (eqb d 2)
  where
    go : (a b : Bool) → nat_abs (cond a (pos 1) (cond b (negsuc 0) (pos 0)) *ℤ p) ≤ nat_abs p
    go true b = omega (arith, product_size (pos 1) p)
    go false true = omega (arith, product_size (negsuc 0) p)
    go false false = omega (arith, product_size (pos 0) p)

module _ (d : ℕ) (p a : ℤ) where
  pub terms_bound : nat_abs (level d *ℤ p +ℤ a) ≤ nat_abs p + nat_abs a
  terms_bound = omega (arith, sum_bound (level d *ℤ p) a, term_bound d p)

  pub term_fits : nat_abs p ≤ 243 → SFits w16 (level d *ℤ p)
  term_fits h = fits (level d *ℤ p) (omega (arith, term_bound d p))

  pub terms_fit : nat_abs p ≤ 243 → nat_abs a ≤ 364 → SFits w16 (level d *ℤ p +ℤ a)
  terms_fit h k = fits (level d *ℤ p +ℤ a) (omega (arith, terms_bound))

-- what is read back of a sum with one term more: its value, and how large it may be
pub next_term : (r a b : ℤ) (d p n : ℕ) → SFits w16 r → (r ≡ level d *ℤ pos p +ℤ a) × (nat_abs r ≤ p + nat_abs a) → (a ≡ b) × (nat_abs a ≤ n)
    → (to_z w16 (of_z w16 r) ≡ level d *ℤ pos p +ℤ b) × (nat_abs (to_z w16 (of_z w16 r)) ≤ p + n)
next_term r a b d p n f (e, l) (s, m) =
    rw (to_z-of_z w16 r f) (e ∙ ap (λ (x : ℤ). level d *ℤ pos p +ℤ x) s, omega (arith, l, m))

-- 364 MORE than a number in its range is a natural number
pub raised : (n : ℤ) → outside n ≡ false → (n +ℤ pos 364 ≡ pos (nat_abs (n +ℤ pos 364))) × (nat_abs (n +ℤ pos 364) ≤ 728)
unfolding outside
raised (pos a) e = (refl, omega (arith, ltb-false 364 a e))
raised (negsuc a) e =
    let l = ltb-false 363 a (neither (ltb 363 a) false e).0 in
    rw (le-ltb 364 (suc a) (omega arith)) (refl, omega arith)
