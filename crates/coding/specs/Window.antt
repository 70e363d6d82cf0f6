-- The annihilator of an error from four of its coefficients in a row, a window w x y z: two of the six equations lie in it, and their determinant
-- times L0 or L1 is a number of the window. Where it is not 0, each coefficient follows from the two before it.
-- Main: determinant, numerator, lowest_times, middle_times, solved, determinant_next, determinant_before, solved_is.
use Rattle.std.specs.Prelude.{◌≡◌, ℕ, ◌+◌, ◌%◌, ◌<◌}
use Rattle.std.proofs.Common.{sym, ap, ap₂, ◌∙◌, arith}
use Rattle.std.proofs.Math.Decide.{ℕ_discrete}
use Rattle.algebra.specs.Field.{add, minus, times, cube, risen}
use Rattle.algebra.specs.Sums.{Zero, add_whole}
use Rattle.algebra.specs.Linear.{at_minus}
use Rattle.algebra.specs.Products.{ring, cube_linear, none_cube, cube_times, times_comm, times_zero, zero_times, rest_times}
use Rattle.algebra.specs.Inverses.{inverse}
use Rattle.algebra.proofs.Inverses.{divide, times_not_zero, risen_not_zero}
use Rattle.coding.specs.Annihilator.{Annihilated}

-- a product that is 0, a cube that is 0, and cubes of differences
pub zero_factor : (a b : ℕ) → Zero a → times a b ≡ 0
zero_factor a b z = sym (rest_times a b) ∙ ap (λ (x : ℕ). times x b) z ∙ zero_times b

pub cube_none : (x : ℕ) → Zero (cube x) → Zero x
unfolding risen
cube_none x z = elim (ℕ_discrete (x % 729) 0) [ yes e ↦ e | no n ↦ absurd (risen_not_zero 1 x n z) ]

pub cube_minus : (a b : ℕ) → cube (minus a b) ≡ minus (cube a) (cube b)
cube_minus = at_minus cube_linear

-- THE DETERMINANT of two neighbouring equations for L1 and L0, and what is L1 times it
unfoldable pub determinant : (x y z : ℕ) → ℕ
determinant x y z = minus (times z (cube x)) (times y (cube y))

unfoldable pub numerator : (w x y z : ℕ) → ℕ
numerator w x y z = minus (times (cube (cube x)) y) (times (cube (cube w)) z)

pub determinant_whole : (x y z : ℕ) → determinant x y z % 729 ≡ determinant x y z
unfolding determinant minus
determinant_whole x y z = add_whole _ _

-- what is L0 times it is the cube of the determinant before it
pub cubed_before : (w x y : ℕ) → minus (times (cube (cube w)) (cube y)) (times (cube (cube x)) (cube x)) ≡ cube (determinant w x y)
unfolding determinant
cubed_before w x y = sym (cube_minus _ _ ∙ rw (cube_times y (cube w), cube_times x (cube x)) (ap₂ minus (times_comm _ _) (times_comm _ _)))

-- two equations solved up to their determinant, in plain variables
module _ (b c x d y z L1 L0 : ℕ) (p : add b (add (times L1 c) (times L0 x)) ≡ 0) (q : add d (add (times L1 y) (times L0 z)) ≡ 0) where
  solved_0 : times (minus (times z c) (times x y)) L0 ≡ minus (times b y) (times d c)
  solved_0 = before ∙ rw (p, q) (simp ring)
    where
      before : times (minus (times z c) (times x y)) L0
          ≡ add (minus (times b y) (times d c)) (minus (times (add d (add (times L1 y) (times L0 z))) c) (times (add b (add (times L1 c) (times L0 x))) y))
      before = simp ring

  solved_1 : times (minus (times z c) (times x y)) L1 ≡ minus (times d x) (times b z)
  solved_1 = before ∙ rw (p, q) (simp ring)
    where
      before : times (minus (times z c) (times x y)) L1
          ≡ add (minus (times d x) (times b z)) (minus (times (add b (add (times L1 c) (times L0 x))) z) (times (add d (add (times L1 y) (times L0 z))) x))
      before = simp ring

-- A COEFFICIENT f less the error's, by a window w x y z; p and q are the error's two before it
unfoldable pub solved : (w x y z : ℕ) → (f p q : ℕ) → ℕ
solved w x y z f p q = add f (times (inverse (cube (determinant w x y))) (add (times (cube (cube p)) (determinant x y z)) (times (numerator w x y z) (cube q))))

solve : (D N K b c e r f : ℕ) → ¬ Zero K → add (times D b) (add (times N c) (times K e)) ≡ 0 → e ≡ minus r f
    → add r (times (inverse K) (add (times b D) (times N c))) ≡ f % 729
solve D N K b c e r f n q h =
    ap (λ (x : ℕ). add r (times (inverse K) x)) (before ∙ rw q after) ∙ ap (add r) (divide K (minus 0 e) n) ∙ rw h (simp ring)
  where
    before : add (times b D) (times N c) ≡ add (times K (minus 0 e)) (add (times D b) (add (times N c) (times K e)))
    before = simp ring

    after : add (times K (minus 0 e)) 0 ≡ times K (minus 0 e)
    after = simp ring

-- THE WINDOW of an error around number i
module _ {e : ℕ → ℕ} (A : Annihilated e) (i : ℕ) (h : i < 6) where
  abbrev w : ℕ
  w = e ((i + 4) % 6)

  abbrev x : ℕ
  x = e ((i + 5) % 6)

  abbrev y : ℕ
  y = e i

  abbrev z : ℕ
  z = e ((i + 1) % 6)

  next : add (cube (cube x)) (add (times A.L1 (cube y)) (times A.L0 z)) ≡ 0
  next =
      let u : ((i + 1) % 6 + 4) % 6 ≡ (i + 5) % 6 = omega arith in
      let v : ((i + 1) % 6 + 5) % 6 ≡ i = omega arith in
      rw (u, v) at (A.equation ((i + 1) % 6) (omega arith))

  opened : times (determinant x y z) A.L0 ≡ minus (times (cube (cube w)) (cube y)) (times (cube (cube x)) (cube x))
  unfolding determinant
  opened = solved_0 _ _ _ _ _ _ A.L1 A.L0 (A.equation i h) next

  pub lowest_times : times (determinant x y z) A.L0 ≡ cube (determinant w x y)
  lowest_times = opened ∙ cubed_before w x y

  pub middle_times : times (determinant x y z) A.L1 ≡ numerator w x y z
  unfolding determinant numerator
  middle_times = solved_1 _ _ _ _ _ _ A.L1 A.L0 (A.equation i h) next

  -- any equation, then, without L1 and L0
  pub without : (b c f : ℕ) → add b (add (times A.L1 c) (times A.L0 f)) ≡ 0
      → add (times (determinant x y z) b) (add (times (numerator w x y z) c) (times (cube (determinant w x y)) f)) ≡ 0
  without b c f q = rw (← lowest_times, ← middle_times) (before (determinant x y z) A.L1 A.L0 ∙ rw q (times_zero _))
    where
      before : (D L1 L0 : ℕ) → add (times D b) (add (times (times D L1) c) (times (times D L0) f)) ≡ times D (add b (add (times L1 c) (times L0 f)))
      before D L1 L0 = simp ring

  -- all determinants are 0, or none is
  pub determinant_next : ¬ Zero (determinant w x y) → ¬ Zero (determinant x y z)
  determinant_next n o = n (cube_none _ (ap (λ (v : ℕ). v % 729) (sym lowest_times ∙ zero_factor _ A.L0 o)))

  pub determinant_before : ¬ Zero (determinant x y z) → ¬ Zero (determinant w x y)
  determinant_before n o = times_not_zero _ A.L0 n A.unit (ap (λ (v : ℕ). v % 729) (lowest_times ∙ none_cube _ o))

  -- and a coefficient follows from the two before it
  pub solved_is : ¬ Zero (determinant w x y) → (j r f : ℕ) → j < 6 → e j ≡ minus r f → solved w x y z r (e ((j + 4) % 6)) (e ((j + 5) % 6)) ≡ f % 729
  unfolding solved
  solved_is n j r f l q = solve _ _ _ _ _ (e j) r f (λ o. n (cube_none _ o)) (without _ _ _ (A.equation j l)) q
