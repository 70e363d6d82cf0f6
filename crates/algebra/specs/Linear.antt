-- Linear functions: they are given by their values at 1, 3, 9, 27, 81, 243.
-- Main: combination_linear, combination_cons, combination_any, in_basis, expand, agree, by_test.
use Rattle.std.specs.Prelude.{◌≡◌, refl, true, List, [], ◌∷◌, map, ℕ, zero, suc, ◌+◌, ◌*◌, ◌/◌, ◌%◌, ◌^◌, ◌≤◌, ◌<◌, eqb, length, get_or}
use Rattle.std.proofs.Common.{sym, ap, ap₂, ◌∙◌, subst, mod-eq_of_lt, mod-lt, pow-suc, arith, lit<}
use Rattle.std.proofs.Math.Path.{fun_ext}
use Rattle.algebra.specs.Field.{digits_of, number_of, digits, added, add, scaled, scale, minus, reduced, shifted, times_from, times, cube, risen, small}
use Rattle.algebra.specs.Tests.{every, tested}
use Rattle.algebra.specs.Digits.{digit, digit_add, add_zero, add_below, scale_zero, scale_suc, scale_add, scale_same, scale_below}
use Rattle.algebra.specs.Sums.{sums, thrice}
use Rattle.algebra.specs.Combinations.{combine, combine_below, combine_add, combine_same}

-- LINEAR FUNCTIONS
pub record Linear (f : ℕ → ℕ) : Type 0 where
  pub below : (v : ℕ) → f v < 729
  pub sum : (a b : ℕ) → f (add a b) ≡ add (f a) (f b)

pub at_zero : {f : ℕ → ℕ} → Linear f → f 0 ≡ 0
at_zero {f} l = none (f 0) (sym (l.sum 0 0) ∙ ap f (add_zero 0))
  where
    none : (a : ℕ) → add a a ≡ a → a ≡ 0
    none a e = cc (thrice a)

pub at_rest : {f : ℕ → ℕ} → Linear f → (v : ℕ) → f (v % 729) ≡ f v
at_rest {f} l v = ap f (sym (add_zero v)) ∙ l.sum v 0 ∙ ap (add (f v)) (at_zero l) ∙ add_zero (f v) ∙ mod-eq_of_lt (l.below v)

pub at_scale : {f : ℕ → ℕ} → Linear f → (d v : ℕ) → f (scale d v) ≡ scale d (f v)
at_scale {f} l zero v = ap f (scale_zero v) ∙ at_zero l ∙ sym (scale_zero (f v))
at_scale {f} l (suc d) v = ap f (scale_suc d v) ∙ l.sum v (scale d v) ∙ ap (add (f v)) (at_scale l d v) ∙ sym (scale_suc d (f v))

pub at_minus : {f : ℕ → ℕ} → Linear f → (a b : ℕ) → f (minus a b) ≡ minus (f a) (f b)
unfolding minus
at_minus {f} l a b = l.sum a (scale 2 b) ∙ ap (add (f a)) (at_scale l 2 b)

pub composed : {f g : ℕ → ℕ} → Linear f → Linear g → Linear (λ v. f (g v))
composed {f} {g} l m = record { below = λ v. l.below (g v); sum = λ a b. ap f (m.sum a b) ∙ l.sum (g a) (g b) }

pub summed : {f g : ℕ → ℕ} → Linear f → Linear g → Linear (λ v. add (f v) (g v))
summed {f} {g} l m = record {
  below = λ v. add_below (f v) (g v);
  sum = λ a b. ap₂ add (l.sum a b) (m.sum a b) ∙ simp sums;
}

pub none_linear : Linear (λ v. 0)
none_linear = record { below = λ v. lit< tt; sum = λ a b. sym (add_zero 0) }

pub scale_linear : (d : ℕ) → Linear (scale d)
scale_linear d = record { below = scale_below d; sum = scale_add d }

-- COMBINATIONS
pub at_combine : {f : ℕ → ℕ} → Linear f → (a : ℕ → ℕ) (ws : List ℕ) → f (combine a ws) ≡ combine a (map f ws)
unfolding combine
at_combine l a [] = at_zero l
at_combine l a (w ∷ ws) = l.sum (scale (a 0) w) _ ∙ ap₂ add (at_scale l (a 0) w) (at_combine l (λ k. a (suc k)) ws)

-- the combination of some symbols by the digits of a number
unfoldable pub combination : (symbols : List ℕ) → (v : ℕ) → ℕ
combination ws v = combine (digit v) ws

pub combination_linear : (ws : List ℕ) → Linear (combination ws)
unfolding combination
combination_linear ws = record {
  below = λ v. combine_below (digit v) ws;
  sum = λ a b. combine_same _ _ ws (λ k. omega (arith, digit_add a b k)) ∙ combine_add (digit a) (digit b) ws;
}

-- by recursion: the lowest digit is the first symbol's
pub combination_cons : (w : ℕ) (ws : List ℕ) (v : ℕ) → length ws ≤ 5 → combination (w ∷ ws) v ≡ add (scale (v % 3) w) (combination ws (v / 3))
unfolding combination combine digits digits_of
combination_cons w ws v h = ap (add _) (enough 5 ws (v / 3) h)
  where
    enough : (n : ℕ) (ws : List ℕ) (v : ℕ) → length ws ≤ n
        → combine (λ k. get_or (digits_of n v) k 0) ws ≡ combine (λ k. get_or (digits_of (suc n) v) k 0) ws
    enough n [] v h = refl
    enough zero (w ∷ ws) v h = absurd (omega arith)
    enough (suc n) (w ∷ ws) v h = ap (add _) (enough n ws (v / 3) (omega arith))

-- every combination of up to six symbols is by the digits of a number
pub combination_any : (a : ℕ → ℕ) (ws : List ℕ) → length ws ≤ 6 → (i : ℕ) × (i < 3 ^ length ws) × (combination ws i ≡ combine a ws)
unfolding combination combine
combination_any a [] h = (0, lit< tt, refl)
combination_any a (w ∷ ws) h =
    let (i, b, e) = combination_any (λ k. a (suc k)) ws (omega arith) in
    let rest : (a 0 % 3 + 3 * i) / 3 ≡ i = omega arith in (
      a 0 % 3 + 3 * i,
      rw pow-suc (omega arith),
      combination_cons w ws (a 0 % 3 + 3 * i) (omega arith) ∙ ap₂ add (scale_same _ _ w (omega arith)) (rw rest e),
    )

-- all that a computed test of the field opens
unfoldable pub computing : ℕ
unfolding digits_of number_of digits added add scaled scale reduced shifted times_from times cube risen small combine combination every
computing = 0

-- THE KEY LEMMA: a linear function is the combination of its values at the basis
abbrev pub basis : List ℕ
basis = 1 ∷ 3 ∷ 9 ∷ 27 ∷ 81 ∷ 243 ∷ []

abbrev pub images : (ℕ → ℕ) → List ℕ
images f = map f basis

basis_test : every 729 (λ v. eqb (combination basis v) v) ≡ true
unfolding computing
basis_test = refl

pub in_basis : (v : ℕ) → v % 729 ≡ combination basis v
in_basis v = sym (tested 729 (combination basis) (λ w. w) basis_test (v % 729) (mod-lt v (lit< tt))) ∙ at_rest (combination_linear basis) v

pub expand : {f : ℕ → ℕ} → Linear f → (v : ℕ) → f v ≡ combination (images f) v
unfolding combination
expand {f} l v = sym (at_rest l v) ∙ ap f (in_basis v) ∙ at_combine l (digit v) basis

pub agree : {f g : ℕ → ℕ} → Linear f → Linear g → images f ≡ images g → (v : ℕ) → f v ≡ g v
agree l m e v = expand l v ∙ ap (λ (ws : List ℕ). combination ws v) e ∙ sym (expand m v)

-- what equals a linear function is linear: the remainder by 729, and what passes a test
pub like : {f g : ℕ → ℕ} → Linear g → ((v : ℕ) → f v ≡ g v) → Linear f
like l e = subst Linear (fun_ext (λ v. sym (e v))) l

pub rest_linear : Linear (λ v. v % 729)
rest_linear = like (combination_linear basis) in_basis

pub by_test : (f : ℕ → ℕ) → ((v : ℕ) → f (v % 729) ≡ f v) → every 729 (λ v. eqb (f v) (combination (images f) v)) ≡ true → Linear f
by_test f r t = like (combination_linear (images f))
    (λ v. sym (r v) ∙ tested 729 f (combination (images f)) t (v % 729) (mod-lt v (lit< tt)) ∙ at_rest (combination_linear (images f)) v)
