-- Squares: gamma is none and each small symbol is one, so gamma times a square is not small, but 0.
-- Main: gamma_no_square, small_square, square_step, gamma_high.
use Rattle.std.specs.Prelude.{◌≡◌, refl, true, false, ◌||◌, not, [], ◌∷◌, ℕ, ◌%◌, eqb, get_or}
use Rattle.std.proofs.Common.{sym, ap, ◌∙◌, true≢false, mod-eq_of_lt, mod-lt, arith, lit<}
use Rattle.algebra.specs.Field.{add, minus, times, small, gamma}
use Rattle.algebra.specs.Tests.{every, tested, tested_if}
use Rattle.algebra.specs.Sums.{Zero}
use Rattle.algebra.specs.Linear.{computing}
use Rattle.algebra.specs.Products.{ring, products, times_comm, times_one, times_rest, times_whole}
use Rattle.algebra.specs.Inverses.{inverse}
use Rattle.algebra.proofs.Inverses.{times_inverse, times_not_zero}
use Rattle.algebra.specs.SmallField.{low, high}
use Rattle.algebra.proofs.SmallField.{small_linear, small_rest, only_low}
use Rattle.algebra.specs.Squares.{Square}

gamma_test : every 729 (λ x. not (eqb (times x x) gamma) || false) ≡ true
unfolding computing
gamma_test = refl

pub gamma_no_square : (x : ℕ) → times x x ≡ gamma → ⊥
gamma_no_square x e = true≢false (sym (tested_if 729 (λ y. times y y) (λ y. gamma) (λ y. false) gamma_test (x % 729) (mod-lt x (lit< tt))
    (simp (times_comm, times_rest) e)))

root : (c : ℕ) → ℕ
root c = get_or
    (0 ∷ 1 ∷ 291 ∷ 469 ∷ 317 ∷ 123 ∷ 461 ∷ 135 ∷ 270 ∷ 325 ∷ 332 ∷ 271 ∷ 460 ∷ 326 ∷
    378 ∷ 137 ∷ 324 ∷ 268 ∷ 91 ∷ 35 ∷ 459 ∷ 420 ∷ 272 ∷ 446 ∷ 149 ∷ 136 ∷ 355 ∷ []) c 0

root_test : every 27 (λ c. eqb (times (root c) (root c)) (small c)) ≡ true
unfolding computing root
root_test = refl

pub small_square : (c : ℕ) → (r : ℕ) × (times r r ≡ small c)
small_square c =
    (root (c % 27), tested 27 (λ x. times (root x) (root x)) small root_test (c % 27) (mod-lt c (lit< tt)) ∙ small_rest c)

-- NO SQUARE IS gamma TIMES A SQUARE, but 0
no_ratio : (r s : ℕ) → ¬ Zero s → times r r ≡ times gamma (times s s) → ⊥
no_ratio r s n e =
    let c = inverse s in
    gamma_no_square (times r c) (apart c ∙ rw e (joined c ∙ rw (times_inverse s n) (simp ring)))
  where
    apart : (c : ℕ) → times (times r c) (times r c) ≡ times (times r r) (times c c)
    apart c = simp products

    joined : (c : ℕ) → times (times gamma (times s s)) (times c c) ≡ times gamma (times (times s c) (times s c))
    joined c = simp products

pub square_one : Square 1
square_one = record { root = 1; not_zero = omega arith; same = times_one 1 }

-- 291 is a square root of -1
minus_one : times 291 291 ≡ add 1 1
unfolding computing
minus_one = refl

pub square_step : (u v : ℕ) → ¬ Zero u → Square v → Square (minus 0 (times (times u u) v))
square_step u v n s = record {
  root = times 291 (times u s.root);
  not_zero = times_not_zero 291 _ (omega arith) (times_not_zero u s.root n s.not_zero);
  same = sorted 291 s.root ∙ rw (minus_one, s.same) (negative (times u u));
}
  where
    sorted : (i r : ℕ) → times (times i (times u r)) (times i (times u r)) ≡ times (times i i) (times (times u u) (times r r))
    sorted i r = simp products

    negative : (a : ℕ) → times (add 1 1) (times a v) ≡ minus 0 (times a v)
    negative a = simp ring

-- gamma times a square is not small: it has a high part
pub gamma_high : (v : ℕ) → Square v → ¬ Zero (small (high (times gamma v)))
gamma_high v s z =
    let w = times gamma v in
    let none : small (high w) ≡ 0 = sym (mod-eq_of_lt (small_linear.below (high w))) ∙ z in
    let r = small_square (low w) in
    no_ratio r.0 s.root s.not_zero (r.1 ∙ only_low w none ∙ times_whole gamma v ∙ ap (times gamma) (sym s.same))
