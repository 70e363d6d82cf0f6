-- The message's first coefficient in a try, as a fraction of the try's symbol.
-- Main: fraction_at, FirstShown, prepared_two, prepared_four, prepared_six.
use Rattle.std.specs.Prelude.{◌≡◌, ℕ, ◌/◌}
use Rattle.std.proofs.Common.{sym, ◌∙◌, arith}
use Rattle.std.proofs.Math.Path.{ap}
use Rattle.algebra.specs.Field.{add, minus, times, cube, risen, small}
use Rattle.algebra.specs.Digits.{add_zero}
use Rattle.algebra.specs.Products.{ring, cube_times, times_one, zero_times}
use Rattle.algebra.specs.Inverses.{inverse}
use Rattle.algebra.proofs.Inverses.{inverse_only}
use Rattle.algebra.proofs.SmallField.{small_fixed}
use Rattle.coding.specs.Window.{determinant, numerator, solved, cube_minus, cubed_before}
use Rattle.coding.specs.RankOne.{next_error, chain}
use Rattle.coding.specs.Residual.{residual}
use Rattle.coding.specs.DecodeOne.{zeroth}
use Rattle.dead_lines.specs.Hidden.{less_top}
use Rattle.dead_lines.specs.Solving.{solution}
use Rattle.decoder.specs.Doubles.{value_at}
use Rattle.dead_decoder.specs.declared.fractions.Fraction.{Fraction}

-- THE VALUE of a fraction in a try
unfoldable pub fraction_at : (t : Fraction) → (symbol : ℕ) → ℕ
fraction_at t u = add t.constant (times (inverse (value_at t.denominator u)) (value_at t.numerator u))

-- it is number 0 of the message's coefficients, all steps made, times a; g is what the last symbol is multiplied by
abbrev pub FirstShown : (n : ℕ) → (h : ℕ → ℕ) → (a g : ℕ) → Fraction → Type 0
FirstShown n h a g t = (b : ℕ) → fraction_at t (small b) ≡ times a (solution n (less_top n (times g (risen (n / 2) (small b))) h) 0)

-- powers of what the last symbol adds
cubed_term : (g u : ℕ) → cube (times g (risen 2 u)) ≡ times (cube g) (risen 3 u)
unfolding risen
cubed_term g u = cube_times g (cube (cube u))

ninth_term : (g u : ℕ) → cube (cube (times g (risen 1 u))) ≡ times (cube (cube g)) (risen 3 u)
unfolding risen
ninth_term g u = ap cube (cube_times g (cube u)) ∙ cube_times (cube g) (cube (cube u))

one_inverse : inverse 1 ≡ 1
one_inverse = sym (inverse_only 1 1 (λ z. omega arith) (times_one 1))

-- a window whose first coefficient depends on the try
module _ (v w p u : ℕ) (ew : cube (cube w) ≡ minus (cube (cube v)) (times p u)) where
  determinant_tried : (x y : ℕ) → add (cube (determinant v x y)) (times (minus 0 (times p (cube y))) u) ≡ cube (determinant w x y)
  determinant_tried x y = rw (← cubed_before v x y, ← cubed_before w x y, ew) (split (cube (cube v)) (cube y) (times (cube (cube x)) (cube x)))
    where
      split : (b c r : ℕ) → add (minus (times b c) r) (times (minus 0 (times p c)) u) ≡ minus (times (minus b (times p u)) c) r
      split b c r = simp ring

  numerator_tried : (x y z : ℕ) → numerator w x y z ≡ add (numerator v x y z) (times (times p z) u)
  unfolding numerator
  numerator_tried x y z = rw ew (split (times (cube (cube x)) y) (cube (cube v)))
    where
      split : (b c : ℕ) → minus b (times (minus c (times p u)) z) ≡ add (minus b (times c z)) (times (times p z) u)
      split b c = simp ring

module _ (h : ℕ → ℕ) (a g : ℕ) (t : Fraction) (e : t.constant ≡ times a (h 0)) where
  -- n = 6: THE ERROR is 0
  pub prepared_six : t.numerator.constant ≡ 0 → t.numerator.factor ≡ minus 0 (times a g) → t.denominator.constant ≡ 1 → t.denominator.factor ≡ 0 → FirstShown 6 h a g t
  unfolding fraction_at value_at solution less_top
  prepared_six nc nf dc df b = rw (e, nc, nf, dc, df, small_fixed b, zero_times (small b), add_zero 1, one_inverse) (split (small b))
    where
      split : (u : ℕ) → add (times a (h 0)) (times 1 (add 0 (times (minus 0 (times a g)) u))) ≡ times a (minus (h 0) (times g u))
      split u = simp ring

  -- n = 4: it has rank at most 1
  pub prepared_four : t.numerator.constant ≡ minus 0 (times a (times (h 5) (cube (h 5)))) → t.numerator.factor ≡ 0 → t.denominator.constant ≡ cube (h 4)
      → t.denominator.factor ≡ minus 0 (cube g) → FirstShown 4 h a g t
  unfolding fraction_at value_at solution less_top residual chain next_error
  prepared_four nc nf dc df b =
      rw (e, nc, nf, dc, df, cube_minus (h 4) (times g (risen 2 (small b))), cubed_term g (small b), small_fixed b, below (cube (h 4)) (cube g) (small b))
      (split (inverse (minus (cube (h 4)) (times (cube g) (small b)))) (cube (h 5)) (small b))
    where
      below : (p q u : ℕ) → add p (times (minus 0 q) u) ≡ minus p (times q u)
      below p q u = simp ring

      split : (i p u : ℕ) → add (times a (h 0)) (times i (add (minus 0 (times a (times (h 5) p))) (times 0 u))) ≡ times a (minus (h 0) (times (times (h 5) i) p))
      split i p u = simp ring

  -- n = 2: it has rank at most 2
  pub prepared_two : t.numerator.constant ≡ times a (add (times (cube (cube (h 4))) (determinant (h 3) (h 4) (h 5))) (times (numerator (h 2) (h 3) (h 4) (h 5)) (cube (h 5))))
      → t.numerator.factor ≡ times a (times (cube (cube g)) (times (h 5) (cube (h 5)))) → t.denominator.constant ≡ cube (determinant (h 2) (h 3) (h 4))
      → t.denominator.factor ≡ minus 0 (times (cube (cube g)) (cube (h 4))) → FirstShown 2 h a g t
  unfolding fraction_at value_at solution less_top zeroth solved
  prepared_two nc nf dc df b =
      let w = minus (h 2) (times g (risen 1 (small b))) in
      let p = cube (cube g) in
      let ew : cube (cube w) ≡ minus (cube (cube (h 2))) (times p (small b)) =
      ap cube (cube_minus (h 2) _) ∙ cube_minus (cube (h 2)) _ ∙ ap (minus (cube (cube (h 2)))) (ninth_term g (small b) ∙ ap (times p) (small_fixed b)) in
      rw (e, nc, nf, dc, df, determinant_tried (h 2) w p (small b) ew (h 3) (h 4), numerator_tried (h 2) w p (small b) ew (h 3) (h 4) (h 5))
      (split (inverse (cube (determinant w (h 3) (h 4)))) (cube (cube (h 4))) (determinant (h 3) (h 4) (h 5)) (numerator (h 2) (h 3) (h 4) (h 5)) (cube (h 5)) p (small b))
    where
      split : (i b d n q p u : ℕ) → add (times a (h 0)) (times i (add (times a (add (times b d) (times n q))) (times (times a (times p (times (h 5) q))) u)))
          ≡ times a (add (h 0) (times i (add (times b d) (times (add n (times (times p (h 5)) u)) q))))
      split i b d n q p u = simp ring
