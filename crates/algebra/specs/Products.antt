-- The laws of times, cube and risen.
-- Main: right, left, times_comm, times_assoc, cube_linear, risen_linear, risen_times, the rulesets products and ring.
use Rattle.std.specs.Prelude.{◌≡◌, refl, List, [], ◌∷◌, ℕ, zero, suc, ◌+◌, ◌%◌, length, take, get_or}
use Rattle.std.proofs.Common.{sym, ap, ap₂, ◌∙◌, mod-eq_of_lt, arith}
use Rattle.algebra.specs.Field.{digits_of, digits, added, number_of, add, scale, reduced, shifted, times_from, times, cube, risen}
use Rattle.algebra.specs.Lists.{cons}
use Rattle.algebra.specs.Digits.{digits_rest}
use Rattle.algebra.specs.Sums.{Zero, sums}
use Rattle.algebra.specs.Combinations.{combine}
use Rattle.algebra.specs.Linear.{Linear, at_zero, at_rest, at_scale, composed, summed, none_linear, scale_linear, rest_linear}
use Rattle.algebra.specs.Linear.{combination, combination_linear, computing, images, agree, like, by_test}

-- times IS LINEAR in each argument
shifted_rest : (v : ℕ) → shifted (v % 729) ≡ shifted v
unfolding shifted
shifted_rest v = ap (λ (ds : List ℕ). number_of (added (0 ∷ take 5 ds) (reduced (get_or ds 5 0)))) (digits_rest v)

pub shifted_linear : Linear shifted
unfolding computing
shifted_linear = by_test shifted shifted_rest refl

unfoldable pub orbit : (left a : ℕ) → List ℕ
orbit zero a = []
orbit (suc n) a = a ∷ orbit n (shifted a)

times_combine : (ds : List ℕ) (a : ℕ) → times_from ds a ≡ combine (λ k. get_or ds k 0) (orbit (length ds) a)
unfolding times_from combine orbit
times_combine [] a = refl
times_combine (d ∷ ds) a = ap (add (scale d a)) (times_combine ds (shifted a))

pub right : (a : ℕ) → Linear (times a)
unfolding times combination digits digits_of
right a = like (combination_linear (orbit 6 a)) (λ b. times_combine (digits b) a)

from_linear : (ds : List ℕ) → Linear (times_from ds)
unfolding times_from
from_linear [] = none_linear
from_linear (d ∷ ds) = summed (scale_linear d) (composed (from_linear ds) shifted_linear)

pub left : (b : ℕ) → Linear (λ a. times a b)
unfolding times
left b = from_linear (digits b)

-- THE LAWS OF times
pub times_comm : (a b : ℕ) → times a b ≡ times b a
unfolding computing
times_comm a = agree (right a) (left a)
    (cons (one 1 refl) (cons (one 3 refl) (cons (one 9 refl) (cons (one 27 refl) (cons (one 81 refl) (cons (one 243 refl) refl))))))
  where
    one : (e : ℕ) → images (λ x. times x e) ≡ images (times e) → times a e ≡ times e a
    one e h = agree (left e) (right e) h a

-- a linear function that goes past z goes past every symbol
through : {f : ℕ → ℕ} → Linear f → ((a : ℕ) → f (shifted a) ≡ shifted (f a))
    → (ds : List ℕ) (a : ℕ) → f (times_from ds a) ≡ times_from ds (f a)
unfolding times_from
through l e [] a = at_zero l
through {f} l e (d ∷ ds) a =
    l.sum (scale d a) (times_from ds (shifted a))
    ∙ ap₂ add (at_scale l d a) (through l e ds (shifted a) ∙ ap (times_from ds) (e a))

pub times_shifted : (a b : ℕ) → times a (shifted b) ≡ shifted (times a b)
unfolding times
times_shifted a b = times_comm a (shifted b) ∙ sym (through shifted_linear (λ c. refl) (digits a) b) ∙ ap shifted (times_comm b a)

pub times_assoc : (a b c : ℕ) → times (times a b) c ≡ times a (times b c)
unfolding times
times_assoc a b c = sym (through (right a) (times_shifted a) (digits c) b)

pub times_one : (a : ℕ) → times a 1 ≡ a % 729
unfolding computing
times_one = agree (left 1) rest_linear refl

pub one_times : (a : ℕ) → times 1 a ≡ a % 729
one_times a = times_comm 1 a ∙ times_one a

pub times_zero : (a : ℕ) → times a 0 ≡ 0
times_zero a = at_zero (right a)

pub zero_times : (a : ℕ) → times 0 a ≡ 0
zero_times a = at_zero (left a)

pub times_add : (a b c : ℕ) → times a (add b c) ≡ add (times a b) (times a c)
times_add a b c = (right a).sum b c

pub add_times : (a b c : ℕ) → times (add a b) c ≡ add (times a c) (times b c)
add_times a b c = (left c).sum a b

pub times_left : (a b c : ℕ) → times a (times b c) ≡ times b (times a c)
times_left a b c = cc (times_assoc a b c, times_assoc b a c, times_comm a b)

pub times_whole : (a b : ℕ) → times a b % 729 ≡ times a b
times_whole a b = mod-eq_of_lt ((right a).below b)

pub times_rest : (a b : ℕ) → times a (b % 729) ≡ times a b
times_rest a b = at_rest (right a) b

pub rest_times : (a b : ℕ) → times (a % 729) b ≡ times a b
rest_times a b = at_rest (left b) a

-- `simp products` sorts a product, and `simp ring` proves an equation between sums of products
pub ruleset products = (times_assoc, times_comm, times_left)

pub ruleset ring = (sums, products, times_one, one_times, times_zero, zero_times, times_add, add_times, times_whole, times_rest)

-- THE CUBE, AND a TO THE 3^i
pub cube_linear : Linear cube
unfolding cube
cube_linear = record { below = λ v. (right v).below (times v v); sum = λ a b. simp ring }

pub none_cube : (a : ℕ) → Zero a → cube a ≡ 0
none_cube a z = sym (at_rest cube_linear a) ∙ ap cube z ∙ at_zero cube_linear

pub cube_times : (a b : ℕ) → cube (times a b) ≡ times (cube a) (cube b)
unfolding cube
cube_times a b = simp products

pub risen_linear : (i : ℕ) → Linear (risen (suc i))
unfolding risen
risen_linear zero = cube_linear
risen_linear (suc i) = composed cube_linear (risen_linear i)

pub risen_add : (i a b : ℕ) → risen i (add a b) ≡ add (risen i a) (risen i b)
unfolding risen
risen_add zero a b = refl
risen_add (suc i) a b = (risen_linear i).sum a b

pub risen_times : (i a b : ℕ) → risen i (times a b) ≡ times (risen i a) (risen i b)
unfolding risen
risen_times zero a b = refl
risen_times (suc i) a b = ap cube (risen_times i a b) ∙ cube_times (risen i a) (risen i b)

pub risen_plus : (i j a : ℕ) → risen (i + j) a ≡ risen i (risen j a)
unfolding risen
risen_plus zero j a = let e : 0 + j ≡ j = omega arith in rw e
risen_plus (suc i) j a = let e : suc i + j ≡ suc (i + j) = omega arith in rw e (ap cube (risen_plus i j a))

pub risen_cube : (i a : ℕ) → risen i (cube a) ≡ cube (risen i a)
unfolding risen
risen_cube zero a = refl
risen_cube (suc i) a = ap cube (risen_cube i a)

pub risen_six : (v : ℕ) → risen 6 v ≡ v % 729
unfolding computing
risen_six = agree (risen_linear 5) rest_linear refl
