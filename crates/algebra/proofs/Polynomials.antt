-- Linearized polynomials g₀ y + g₁ y³ + g₂ y⁹ + .. are linear functions, and their division by y³ - A y.
-- Main: ev_linear, division, quo_length, quo_last, lower_self, lower_zeros.
use Rattle.std.specs.Prelude.{◌≡◌, refl, List, [], ◌∷◌, ℕ, suc, ◌%◌, length}
use Rattle.std.proofs.Common.{sym, ap, ◌∙◌}
use Rattle.std.proofs.Math.Decide.{ℕ_discrete}
use Rattle.algebra.specs.Field.{add, scale, minus, times, cube}
use Rattle.algebra.specs.Digits.{add_zero, scale_zero}
use Rattle.algebra.specs.Sums.{Zero, sums, rest_add, zero_plus, scale_one, scale_whole, minus_none}
use Rattle.algebra.specs.Linear.{Linear, at_minus, composed, summed, none_linear, scale_linear}
use Rattle.algebra.specs.Products.{ring, right, cube_linear, cube_times, times_zero, times_whole}
use Rattle.algebra.proofs.Inverses.{no_divisors}
use Rattle.algebra.specs.Polynomials.{ev, lower, rem, quo, last}

pub ev_linear : (gs : List ℕ) → Linear (ev gs)
unfolding ev
ev_linear [] = none_linear
ev_linear (g ∷ gs) = summed (right g) (composed (ev_linear gs) cube_linear)

pub lower_linear : (A : ℕ) → Linear (lower A)
unfolding lower minus
lower_linear A = summed cube_linear (composed (scale_linear 2) (right A))

lower_cube : (A y : ℕ) → lower (cube A) (cube y) ≡ cube (lower A y)
unfolding lower
lower_cube A y = sym (at_minus cube_linear (cube y) (times A y) ∙ ap (minus (cube (cube y))) (cube_times A y))

division_step : (A g y r e : ℕ) → add (times g y) (add e (times r (cube y))) ≡ add (add (times r (lower A y)) e) (times (add g (times A r)) y)
unfolding lower
division_step A g y r e = simp ring

pub division : (A g y : ℕ) (gs : List ℕ) → ev (g ∷ gs) y ≡ add (ev (quo (cube A) gs) (lower A y)) (times (rem A (g ∷ gs)) y)
unfolding ev rem quo
division A g y [] = simp ring
division A g y (h ∷ gs) =
    let Q = quo (cube (cube A)) gs in
    let r = rem (cube A) (h ∷ gs) in
    ap (add (times g y)) (division (cube A) h (cube y) gs ∙ ap (λ (l : ℕ). add (ev Q l) (times r (cube y))) (lower_cube A y))
    ∙ division_step A g y r (ev Q (cube (lower A y)))

pub quo_length : (A : ℕ) (gs : List ℕ) → length (quo A gs) ≡ length gs
unfolding quo
quo_length A [] = refl
quo_length A (g ∷ gs) = ap suc (quo_length (cube A) gs)

pub quo_last : (A g : ℕ) (gs : List ℕ) → last (rem A (g ∷ gs)) (quo (cube A) gs) ≡ last g gs % 729
unfolding quo rem last
quo_last A g [] = simp (times_zero, add_zero)
quo_last A g (h ∷ gs) = quo_last (cube A) h gs

pub lower_self : (u : ℕ) → lower (times u u) u ≡ 0
unfolding lower cube
lower_self u = simp ring

-- THE ZEROS of y³ - u² y are u by digits
pub lower_zeros : (u y : ℕ) → lower (times u u) y ≡ 0 → (d : ℕ) × (y % 729 ≡ scale d u)
unfolding lower cube minus
lower_zeros u y z = go (ℕ_discrete (y % 729) 0) (ℕ_discrete (minus y u % 729) 0)
  where
    factors : times y (times (minus y u) (add y u)) ≡ minus (times y (times y y)) (times (times u u) y)
    factors = simp ring

    back : y % 729 ≡ minus (add y u) u
    back = simp sums

    go : Dec (Zero y) → Dec (Zero (minus y u)) → (d : ℕ) × (y % 729 ≡ scale d u)
    go (yes e) d = (0, e ∙ sym (scale_zero u))
    go (no n) (yes e) = (1, minus_none y u e ∙ sym (scale_one u))
    go (no n) (no m) =
        let product = sym (times_whole _ _) ∙ no_divisors y (times (minus y u) (add y u)) n (factors ∙ z) in
        let sum = no_divisors (minus y u) (add y u) m product in
        (2, back ∙ sym (rest_add (add y u) _) ∙ ap (λ (x : ℕ). add x (scale 2 u)) sum ∙ zero_plus _ ∙ scale_whole 2 u)
