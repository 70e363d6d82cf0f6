-- Steps on the six coefficients of a linearized polynomial, each of which forgets a line of its square: y³ - A y applied after the polynomial for
-- a row, before it for a column. Each has a way back.
-- Main: Step, raised, multiplier, line_step, line_stepped, stepped_value, back, unstepped, unstepped_is, Stepped, stepped-on-circle.
use Rattle.std.specs.Prelude.{◌≡◌, refl, List, [], ◌∷◌, length}
use Rattle.std.proofs.Common.{sym, ap, ap₂, ◌∙◌, mod-eq_of_lt}
use Rattle.std.proofs.Math.Path.{fun_ext}
use Prim.Native.Nat.{ℕ, zero, suc, ◌+◌, ◌%◌, ◌≤◌, ◌<◌}
use native.Mathlib.Omega.{arith}
use Rattle.algebra.specs.Field.{add, minus, times, cube, risen}
use Rattle.algebra.specs.Lists.{All, table}
use Rattle.algebra.specs.Sums.{Zero, add_whole, minus_zero, minus_self, rest_add}
use Rattle.algebra.specs.Linear.{Linear, composed, rest_linear, at_rest, at_zero, at_minus}
use Rattle.algebra.specs.Products.{ring, cube_linear, cube_times, risen_six, one_times, times_zero, times_whole, rest_times}
use Rattle.algebra.specs.Inverses.{inverse}
use Rattle.algebra.proofs.Inverses.{divide, risen_not_zero}
use Rattle.algebra.specs.Polynomials.{ev, lower}
use Rattle.algebra.proofs.Polynomials.{ev_linear, lower_linear}
use Rattle.coding.specs.Errors.{taken_back}
use Rattle.coding.specs.Annihilator.{cube_add, cube_six}
use Rattle.coding.specs.RankOne.{lowered_ev}

-- A STEP for a row, or for a column, with the A of its y³ - A y
pub data Step : Type 0 where
  Row : ℕ → Step
  Column : ℕ → Step

-- what it makes of the coefficient before, and what it multiplies coefficient i by
unfoldable pub raised : Step → ℕ → ℕ
raised (Row A) v = cube v
raised (Column A) v = v

unfoldable pub multiplier : Step → (i : ℕ) → ℕ
multiplier (Row A) i = A
multiplier (Column A) i = risen i A

-- the coefficients after a step: the one before number 0 is number 5
unfoldable pub line_step : Step → (h : ℕ → ℕ) → ℕ → ℕ
line_step s h i = minus (raised s (h ((i + 5) % 6))) (times (multiplier s i) (h i))

-- after many, the first first
unfoldable pub line_stepped : List Step → (ℕ → ℕ) → ℕ → ℕ
line_stepped [] h = h
line_stepped (s ∷ ss) h = line_stepped ss (line_step s h)

-- THEIR VALUES: y³ - A y after the polynomial for each row, before it for each column
unfoldable pub after_lines : List Step → ℕ → ℕ
after_lines [] y = y % 729
after_lines (Row A ∷ ss) y = after_lines ss (lower A y)
after_lines (Column A ∷ ss) y = after_lines ss y

unfoldable pub before_lines : List Step → ℕ → ℕ
before_lines [] y = y % 729
before_lines (Row A ∷ ss) y = before_lines ss y
before_lines (Column A ∷ ss) y = lower A (before_lines ss y)

pub after_linear : (ss : List Step) → Linear (after_lines ss)
unfolding after_lines
after_linear [] = rest_linear
after_linear (Row A ∷ ss) = composed (after_linear ss) (lower_linear A)
after_linear (Column A ∷ ss) = after_linear ss

pub before_linear : (ss : List Step) → Linear (before_lines ss)
unfolding before_lines
before_linear [] = rest_linear
before_linear (Row A ∷ ss) = before_linear ss
before_linear (Column A ∷ ss) = composed (lower_linear A) (before_linear ss)

row_value : (A : ℕ) (h : ℕ → ℕ) (y : ℕ) → ev (table 6 (line_step (Row A) h)) y ≡ lower A (ev (table 6 h) y)
unfolding line_step raised multiplier
row_value A h y = sym (lowered_ev A h y)

-- the powers of y³ - A y
before_six : (a b c d e f A y : ℕ) → ev (a ∷ b ∷ c ∷ d ∷ e ∷ f ∷ []) (minus (cube y) (times A y))
    ≡ ev (minus f (times A a) ∷ minus a (times (cube A) b) ∷ minus b (times (cube (cube A)) c) ∷ minus c (times (cube (cube (cube A))) d)
    ∷ minus d (times (cube (cube (cube (cube A)))) e) ∷ minus e (times (cube (cube (cube (cube (cube A))))) f) ∷ []) y
unfolding ev
before_six a b c d e f A y = simp (cube_add, cube_times, cube_six, ring)

column_value : (A : ℕ) (h : ℕ → ℕ) (y : ℕ) → ev (table 6 (line_step (Column A) h)) y ≡ ev (table 6 h) (lower A y)
unfolding line_step raised multiplier lower table risen
column_value A h y = sym (before_six (h 0) (h 1) (h 2) (h 3) (h 4) (h 5) A y)

pub stepped_value : (ss : List Step) (h : ℕ → ℕ) (y : ℕ) → ev (table 6 (line_stepped ss h)) y ≡ after_lines ss (ev (table 6 h) (before_lines ss y))
unfolding line_stepped after_lines before_lines
stepped_value [] h y = sym (ap (λ (v : ℕ). v % 729) (at_rest (ev_linear (table 6 h)) y) ∙ mod-eq_of_lt ((ev_linear (table 6 h)).below y))
stepped_value (Row A ∷ ss) h y = stepped_value ss (line_step (Row A) h) y ∙ ap (after_lines ss) (row_value A h (before_lines ss y))
stepped_value (Column A ∷ ss) h y = stepped_value ss (line_step (Column A) h) y ∙ ap (after_lines ss) (column_value A h (before_lines ss y))

-- LAWS OF ONE STEP
raised_add : (s : Step) (a b : ℕ) → raised s (add a b) ≡ add (raised s a) (raised s b)
unfolding raised
raised_add (Row A) a b = cube_add a b
raised_add (Column A) a b = refl

raised_minus : (s : Step) (a b : ℕ) → raised s (minus a b) ≡ minus (raised s a) (raised s b)
unfolding raised
raised_minus (Row A) a b = at_minus cube_linear a b
raised_minus (Column A) a b = refl

raised_zero : (s : Step) → raised s 0 ≡ 0
unfolding raised
raised_zero (Row A) = at_zero cube_linear
raised_zero (Column A) = refl

raised_whole : (s : Step) (a : ℕ) → a % 729 ≡ a → raised s a % 729 ≡ raised s a
unfolding raised
raised_whole (Row A) a w = mod-eq_of_lt (cube_linear.below a)
raised_whole (Column A) a w = w

-- numbers six places on
abbrev pub past : ℕ → ℕ
past i = suc (suc (suc (suc (suc (suc i)))))

-- multipliers come round
risen_round : (i A : ℕ) → risen (past i) A ≡ risen i A % 729
unfolding risen
risen_round zero A = risen_six A
risen_round (suc i) A = ap cube (risen_round i A) ∙ at_rest cube_linear (risen i A) ∙ sym (mod-eq_of_lt (cube_linear.below (risen i A)))

round : (s : Step) (i v : ℕ) → times (multiplier s (past i)) v ≡ times (multiplier s i) v
unfolding multiplier
round (Row A) i v = refl
round (Column A) i v = ap (λ (x : ℕ). times x v) (risen_round i A) ∙ rest_times (risen i A) v

-- DIFFERENCES
step_minus : (s : Step) (f g : ℕ → ℕ) (i : ℕ) → line_step s (λ j. minus (f j) (g j)) i ≡ minus (line_step s f i) (line_step s g i)
unfolding line_step
step_minus s f g i =
    let j = (i + 5) % 6 in
    rw (raised_minus s (f j) (g j)) (split (raised s (f j)) (raised s (g j)) (multiplier s i) (f i) (g i))
  where
    split : (p q a u v : ℕ) → minus (minus p q) (times a (minus u v)) ≡ minus (minus p (times a u)) (minus q (times a v))
    split p q a u v = simp (rest_add, ring)

pub stepped_minus : (ss : List Step) (f g : ℕ → ℕ) (i : ℕ) → line_stepped ss (λ j. minus (f j) (g j)) i ≡ minus (line_stepped ss f i) (line_stepped ss g i)
unfolding line_stepped
stepped_minus [] f g i = refl
stepped_minus (s ∷ ss) f g i = ap (λ (h : ℕ → ℕ). line_stepped ss h i) (fun_ext (step_minus s f g)) ∙ stepped_minus ss (line_step s f) (line_step s g) i

-- SIX COEFFICIENTS are all that is used
abbrev pub Alike : (h x : ℕ → ℕ) → Type 0
Alike h x = (i : ℕ) → i < 6 → h i ≡ x i

pub step_same : (s : Step) (h x : ℕ → ℕ) → Alike h x → Alike (line_step s h) (line_step s x)
unfolding line_step
step_same s h x e i l = ap₂ (λ (u v : ℕ). minus (raised s u) (times (multiplier s i) v)) (e ((i + 5) % 6) (omega arith)) (e i l)

pub stepped_same : (ss : List Step) (h x : ℕ → ℕ) → Alike h x → Alike (line_stepped ss h) (line_stepped ss x)
unfolding line_stepped
stepped_same [] h x e = e
stepped_same (s ∷ ss) h x e = stepped_same ss (line_step s h) (line_step s x) (step_same s h x e)

-- numbers below 729, kept by steps
abbrev pub Whole : (ℕ → ℕ) → Type 0
Whole g = (i : ℕ) → g i % 729 ≡ g i

step_whole : (s : Step) (h : ℕ → ℕ) → Whole (line_step s h)
unfolding line_step minus
step_whole s h i = add_whole _ _

pub stepped_whole : (ss : List Step) (h : ℕ → ℕ) → Whole h → Whole (line_stepped ss h)
unfolding line_stepped
stepped_whole [] h w = w
stepped_whole (s ∷ ss) h w = stepped_whole ss (line_step s h) (step_whole s h)

-- THE SAME WITHOUT THE CIRCLE, for a message's coefficients: there is none before number 0
unfoldable pub step_on : Step → (g : ℕ → ℕ) → ℕ → ℕ
step_on s g zero = minus 0 (times (multiplier s 0) (g 0))
step_on s g (suc i) = minus (raised s (g i)) (times (multiplier s (suc i)) (g (suc i)))

unfoldable pub stepped_on : List Step → (ℕ → ℕ) → ℕ → ℕ
stepped_on [] g = g
stepped_on (s ∷ ss) g = stepped_on ss (step_on s g)

step_on_whole : (s : Step) (g : ℕ → ℕ) → Whole (step_on s g)
unfolding step_on minus
step_on_whole s g zero = add_whole _ _
step_on_whole s g (suc i) = add_whole _ _

pub stepped_on_whole : (ss : List Step) (g : ℕ → ℕ) → Whole g → Whole (stepped_on ss g)
unfolding stepped_on
stepped_on_whole [] g w = w
stepped_on_whole (s ∷ ss) g w = stepped_on_whole ss (step_on s g) (step_on_whole s g)

-- AND BACK, from number 0 on
unfoldable pub back : Step → (f : ℕ → ℕ) → ℕ → ℕ
back s f zero = times (inverse (multiplier s 0)) (minus 0 (f 0))
back s f (suc i) = times (inverse (multiplier s (suc i))) (minus (raised s (back s f i)) (f (suc i)))

unfoldable pub unstepped : List Step → (ℕ → ℕ) → ℕ → ℕ
unstepped [] f = f
unstepped (s ∷ ss) f = back s (unstepped ss f)

-- where no multiplier is 0
abbrev pub Invertible : Step → Type 0
Invertible s = ¬ Zero (multiplier s 0)

all_units : (s : Step) → Invertible s → (i : ℕ) → ¬ Zero (multiplier s i)
unfolding multiplier risen
all_units (Row A) n i = n
all_units (Column A) n i = risen_not_zero i A n

quotient_is : (A a b x : ℕ) → ¬ Zero A → x ≡ a → times (inverse A) (minus x (minus a (times A b))) ≡ b % 729
quotient_is A a b x n e = rw e (ap (times (inverse A)) (taken_back a (times A b) ∙ times_whole A b) ∙ divide A b n)

back_is : (s : Step) (g : ℕ → ℕ) → Invertible s → Whole g → (i : ℕ) → back s (step_on s g) i ≡ g i
unfolding back step_on
back_is s g n w zero = quotient_is (multiplier s 0) 0 (g 0) 0 n refl ∙ w 0
back_is s g n w (suc i) = quotient_is (multiplier s (suc i)) (raised s (g i)) (g (suc i)) _ (all_units s n (suc i)) (ap (raised s) (back_is s g n w i)) ∙ w (suc i)

back_on : (ss : List Step) (g : ℕ → ℕ) → All Invertible ss → Whole g → (i : ℕ) → unstepped ss (stepped_on ss g) i ≡ g i
unfolding unstepped stepped_on
back_on [] g u w i = refl
back_on (s ∷ ss) g u w i =
    ap (λ (h : ℕ → ℕ). back s h i) (fun_ext (back_on ss (step_on s g) u.1 (step_on_whole s g))) ∙ back_is s g u.0 w i

-- of what is known up to number n
abbrev pub Upto : (n : ℕ) → (f g : ℕ → ℕ) → Type 0
Upto n f g = (i : ℕ) → i ≤ n → f i ≡ g i

pub back_same : (s : Step) (f g : ℕ → ℕ) (n : ℕ) → Upto n f g → Upto n (back s f) (back s g)
unfolding back
back_same s f g n e zero l = ap (λ (v : ℕ). times (inverse (multiplier s 0)) (minus 0 v)) (e 0 l)
back_same s f g n e (suc i) l =
    ap₂ (λ (u v : ℕ). times (inverse (multiplier s (suc i))) (minus (raised s u) v)) (back_same s f g n e i (omega arith)) (e (suc i) l)

pub unstepped_same : (ss : List Step) (f g : ℕ → ℕ) (n : ℕ) → Upto n f g → Upto n (unstepped ss f) (unstepped ss g)
unfolding unstepped
unstepped_same [] f g n e = e
unstepped_same (s ∷ ss) f g n e = back_same s _ _ n (unstepped_same ss f g n e)

-- THE WAY BACK from a message's coefficients, all steps made, as far as they are known
pub unstepped_is : (ss : List Step) (g f : ℕ → ℕ) (n : ℕ) → All Invertible ss → Whole g → Upto n f (stepped_on ss g) → Upto n (unstepped ss f) g
unstepped_is ss g f n u w e i l = unstepped_same ss f _ n e i l ∙ back_on ss g u w i

-- number 0 back is a multiple of number 0
pub first_back : (ss : List Step) (f : ℕ → ℕ) → f 0 % 729 ≡ f 0 → unstepped ss f 0 ≡ times (unstepped ss (λ i. 1) 0) (f 0)
unfolding unstepped back
first_back [] f w = sym (one_times (f 0) ∙ w)
first_back (s ∷ ss) f w = ap (λ (v : ℕ). times (inverse (multiplier s 0)) (minus 0 v)) (first_back ss f w) ∙ split (inverse (multiplier s 0)) (unstepped ss (λ i. 1) 0) (f 0)
  where
    split : (a c v : ℕ) → times a (minus 0 (times c v)) ≡ times (times a (minus 0 c)) v
    split a c v = simp ring

-- THE CIRCLE: coefficients h are those of x, number 6 added to number 0 and so on; x is t at number n and 0 beyond
pub record Stepped (n t : ℕ) (x h : ℕ → ℕ) : Type 0 where
  pub top : x n ≡ t
  pub ends : (i : ℕ) → n < i → x i ≡ 0
  pub circle : (i : ℕ) → i < 6 → h i ≡ add (x i) (x (past i))

-- the top of many steps
unfoldable pub raised_all : List Step → ℕ → ℕ
raised_all [] t = t
raised_all (s ∷ ss) t = raised_all ss (raised s t)

module _ (s : Step) (n t : ℕ) (x h : ℕ → ℕ) (l : n ≤ 10) (w : t % 729 ≡ t) (S : Stepped n t x h) where
  split : (p q a u v : ℕ) → minus (add p q) (times a (add u v)) ≡ add (minus p (times a u)) (minus q (times a v))
  split p q a u v = simp ring

  on_circle : (i : ℕ) → i < 6 → line_step s h i ≡ add (step_on s x i) (step_on s x (past i))
  unfolding line_step step_on
  on_circle zero b = rw (S.circle 5 (omega arith), S.circle 0 b, S.ends 11 (omega arith), raised_add s (x 5) 0, raised_zero s, round s 0 (x 6))
      (swapped (raised s (x 5)) (multiplier s 0) (x 0) (x 6))
    where
      swapped : (p a u v : ℕ) → minus (add p 0) (times a (add u v)) ≡ add (minus 0 (times a u)) (minus p (times a v))
      swapped p a u v = simp (rest_add, ring)
  on_circle (suc i) b =
      let e : (suc i + 5) % 6 ≡ i = omega arith in
      rw (e, S.circle i (omega arith), S.circle (suc i) b, raised_add s (x i) (x (past i)), round s (suc i) (x (past (suc i))))
      (split (raised s (x i)) (raised s (x (past i))) (multiplier s (suc i)) (x (suc i)) (x (past (suc i))))

  on_ends : (i : ℕ) → suc n < i → step_on s x i ≡ 0
  unfolding step_on
  on_ends zero b = absurd (omega arith)
  on_ends (suc i) b = rw (S.ends i (omega arith), S.ends (suc i) (omega arith), raised_zero s, times_zero (multiplier s (suc i))) (minus_self 0)

  on_top : step_on s x (suc n) ≡ raised s t
  unfolding step_on
  on_top = rw (S.top, S.ends (suc n) (omega arith), times_zero (multiplier s (suc n))) (minus_zero (raised s t) ∙ raised_whole s t w)

  step_stepped : Stepped (suc n) (raised s t) (step_on s x) (line_step s h)
  step_stepped = record { top = on_top; ends = on_ends; circle = on_circle }

pub stepped_stepped : (ss : List Step) (n t : ℕ) (x h : ℕ → ℕ) → n + length ss ≤ 6 → t % 729 ≡ t → Stepped n t x h
    → Stepped (n + length ss) (raised_all ss t) (stepped_on ss x) (line_stepped ss h)
unfolding line_stepped stepped_on raised_all
stepped_stepped [] n t x h l w S = let e : n + 0 ≡ n = omega arith in rw e S
stepped_stepped (s ∷ ss) n t x h l w S =
    let e : suc n + length ss ≡ n + suc (length ss) = omega arith in
    rw (← e) (stepped_stepped ss (suc n) (raised s t) (step_on s x) (line_step s h) (omega arith) (raised_whole s t w) (step_stepped s n t x h (omega arith) w S))
