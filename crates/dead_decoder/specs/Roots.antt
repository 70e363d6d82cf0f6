-- Which tries can pass: where the message's first coefficient is small, the try's symbol is a root of a quadratic, so that at most two are left.
-- Main: square_root, square_roots, quadratic_at, Passes, passes_by, is_flat, Roots, roots_line, roots_square, Only, lower_some, lower_none, only_roots, only_roots_sorted.
use Rattle.std.specs.Prelude.{◌≡◌, refl, ◌⊎◌, ◌≢◌, Bool, true, false, ◌||◌, ◌&&◌, cond, List, eqb, get_or}
use Rattle.std.proofs.Math.Path.{sym, ap}
use Rattle.std.proofs.Common.{ap₂, ◌∙◌, inl, inr, true≢false, mod-eq_of_lt, mod-lt, arith, lit<, eqb-true, eq-eqb, ne_eqb}
use Rattle.std.proofs.Math.Nat.{mod-mod}
use Rattle.std.proofs.Math.Option.{Option, none, some}
use Prim.Native.Nat.{ℕ, zero, suc, ◌/◌, ◌%◌, ◌≤◌, ◌<◌, min, max}
use Rattle.std.proofs.Math.Decide.{ℕ_discrete, dec_le}
use Rattle.algebra.specs.Field.{add, minus, times, power, risen, small, gamma}
use Rattle.algebra.specs.Tests.{every, every_at}
use Rattle.algebra.specs.Sums.{Zero, add_rest}
use Rattle.algebra.specs.Linear.{computing, at_zero, at_rest}
use Rattle.algebra.specs.Products.{ring, products, orbit, risen_linear, risen_add, risen_times, times_rest, rest_times, zero_times, times_zero, times_whole}
use Rattle.algebra.specs.Powers.{powers, place, log}
use Rattle.algebra.proofs.Powers.{power_at, log_below}
use Rattle.algebra.specs.Inverses.{inverse}
use Rattle.algebra.proofs.Inverses.{divide}
use Rattle.algebra.specs.SmallField.{low, high}
use Rattle.algebra.proofs.SmallField.{small_linear, small_fixed, low_below, low_small, only_low}
use Rattle.coding.specs.Options.{or_else, first_of}
use Rattle.candidate.specs.Finding.{first_at}
use Rattle.dead_lines.specs.Struck.{dead_lines}
use Rattle.dead_lines.specs.Steps.{unstepped}
use Rattle.dead_lines.specs.Multipliers.{steps}
use Rattle.dead_lines.specs.Solving.{attempt_dead}
use Rattle.decoder.specs.Doubles.{value_at}
use Rattle.dead_decoder.specs.declared.fractions.Fraction.{Fraction}
use Rattle.dead_decoder.specs.declared.roots.Quadratic.{Quadratic}
use Rattle.dead_decoder.specs.Fractions.{fraction_at, FirstShown}
use Rattle.dead_decoder.specs.Solutions.{attempt_dead_none}

-- A SQUARE ROOT of e, if it has one: the power of half its exponent
unfoldable pub square_root : (e : ℕ) → ℕ
square_root e = cond (eqb (e % 729) 0) 0 (get_or powers (log (e % 729) / 2) 0)

-- w is r or -r
unfoldable is_either : (r w : ℕ) → Bool
is_either r w = eqb r w || eqb (minus 0 r) w

square_root_test : every 729 (λ w. is_either (square_root (times w w)) w) ≡ true
unfolding computing orbit powers place log square_root is_either minus
square_root_test = refl

pub square_roots : (w e : ℕ) → times w w ≡ e → (w % 729 ≡ square_root e) ⊎ (w % 729 ≡ minus 0 (square_root e))
unfolding is_either
square_roots w e h = go (eqb (square_root e) v) refl (eqb (minus 0 (square_root e)) v) refl (rw same at (every_at 729 _ square_root_test v (mod-lt w (lit< tt))))
  where
    v : ℕ
    v = w % 729

    same : times v v ≡ e
    same = times_rest (w % 729) w ∙ rest_times w w ∙ h

    go : (a : Bool) → eqb (square_root e) v ≡ a → (b : Bool) → eqb (minus 0 (square_root e)) v ≡ b → (a || b) ≡ true → (v ≡ square_root e) ⊎ (v ≡ minus 0 (square_root e))
    go true p b q t = inl (sym (eqb-true _ _ p))
    go false p true q t = inr (sym (eqb-true _ _ q))
    go false p false q t = absurd (true≢false (sym t))

-- as it is read
pub root_none : (v : ℕ) → Zero v → 0 ≡ square_root v
unfolding square_root
root_none v z = rw (eq-eqb (v % 729) 0 z)

log_rest : (v : ℕ) → log (v % 729) ≡ log v
unfolding log
log_rest v = ap (λ (x : ℕ). place x 0 powers) (mod-mod v 729)

pub root_read : (v : ℕ) → ¬ Zero v → power 3 (log v / 2) ≡ square_root v
unfolding square_root
root_read v n = rw (ne_eqb (v % 729) 0 n, log_rest v) (sym (power_at (log v / 2) (omega (arith, log_below v))))

-- THE QUADRATIC at a symbol
unfoldable pub quadratic_at : (q : Quadratic) → (u : ℕ) → ℕ
quadratic_at q u = add q.constant (add (times q.linear u) (times q.square (times u u)))

-- it is 0 where the fraction is small
abbrev pub Passes : Fraction → Quadratic → Type 0
Passes t q = (b : ℕ) → high (fraction_at t (small b)) ≡ 0 → quadratic_at q (small b) ≡ 0

-- a small symbol is its own power
fixed : (v : ℕ) → high v ≡ 0 → risen 3 v ≡ v % 729
fixed v e =
    let s : small (low v) ≡ v % 729 = only_low v (ap small e ∙ at_zero small_linear) in
    sym (at_rest (risen_linear 2) v) ∙ ap (risen 3) (sym s) ∙ small_fixed (low v) ∙ s

-- the products of numerator and denominator with each other's powers are equal
crossed : (constant n d : ℕ) → high (add constant (times (inverse d) n)) ≡ 0 → let p = add (times constant d) n in times (risen 3 p) d ≡ times p (risen 3 d)
crossed q n d h = elim (ℕ_discrete (d % 729) 0) [
  | yes z ↦ sym (times_rest _ d) ∙ ap (times (risen 3 p)) z ∙ times_zero _ ∙ sym (ap (times p) (nothing z) ∙ times_zero p)
  | no o ↦ let e = whole o in ap (λ (x : ℕ). times x d) (ap (risen 3) e ∙ risen_times 3 v d ∙ ap (λ (x : ℕ). times x (risen 3 d)) (fixed v h) ∙ rest_times v (risen 3 d))
      ∙ turned (risen 3 d) ∙ ap (λ (x : ℕ). times x (risen 3 d)) (sym e)
]
  where
    p : ℕ
    p = add (times q d) n

    v : ℕ
    v = add q (times (inverse d) n)

    nothing : Zero d → risen 3 d ≡ 0
    nothing z = sym (at_rest (risen_linear 2) d) ∙ ap (risen 3) z ∙ at_zero (risen_linear 2)

    turned : (r : ℕ) → times (times v r) d ≡ times (times v d) r
    turned r = simp products

    spread : (i : ℕ) → times (add q (times i n)) d ≡ add (times q d) (times i (times d n))
    spread i = simp ring

    whole : ¬ Zero d → p ≡ times v d
    whole o = sym (spread (inverse d) ∙ ap (add (times q d)) (divide d n o) ∙ add_rest (times q d) n)

-- THE COEFFICIENTS of the quadratic, where a + b u is the numerator once the constant is over the same denominator
pub passes_by : (t : Fraction) (q : Quadratic) (a b : ℕ) → let c = t.denominator.constant in let d = t.denominator.factor in
    a ≡ add (times t.constant c) t.numerator.constant → b ≡ add (times t.constant d) t.numerator.factor
    → q.square ≡ minus (times (risen 3 b) d) (times b (risen 3 d))
    → q.linear ≡ add (minus (times (risen 3 a) d) (times a (risen 3 d))) (minus (times (risen 3 b) c) (times b (risen 3 c)))
    → q.constant ≡ minus (times (risen 3 a) c) (times a (risen 3 c))
    → Passes t q
unfolding fraction_at value_at quadratic_at
passes_by t q a b ea eb es el ec i h =
    let u = small i in
    let c = t.denominator.constant in
    let d = t.denominator.factor in
    let e : times (risen 3 (add a (times b u))) (add c (times d u)) ≡ times (add a (times b u)) (risen 3 (add c (times d u))) =
    rw (← joined u) at (crossed t.constant (add t.numerator.constant (times t.numerator.factor u)) (add c (times d u)) h) in
    rw (es, el, ec) (spread u (risen 3 a) (risen 3 b) (risen 3 c) (risen 3 d) c d
    ∙ nothing _ _ (ap (λ (x : ℕ). times x (add c (times d u))) (sym (parts a b i)) ∙ e ∙ ap (times (add a (times b u))) (parts c d i)))
  where
    joined : (u : ℕ) → add a (times b u)
        ≡ add (times t.constant (add t.denominator.constant (times t.denominator.factor u))) (add t.numerator.constant (times t.numerator.factor u))
    joined u = rw (ea, eb) (simp ring)

    parts : (a b i : ℕ) → risen 3 (add a (times b (small i))) ≡ add (risen 3 a) (times (risen 3 b) (small i))
    parts a b i = risen_add 3 a _ ∙ ap (add (risen 3 a)) (risen_times 3 b (small i) ∙ ap (times (risen 3 b)) (small_fixed i))

    nothing : (x y : ℕ) → x ≡ y → minus x y ≡ 0
    nothing x y e = rw e (simp ring)

    spread : (u a' b' c' d' c d : ℕ) → add (minus (times a' c) (times a c')) (add (times (add (minus (times a' d) (times a d')) (minus (times b' c) (times b c'))) u)
        (times (minus (times b' d) (times b d')) (times u u)))
        ≡ minus (times (add a' (times b' u)) (add c (times d u))) (times (add a (times b u)) (add c' (times d' u)))
    spread u a' b' c' d' c d = simp ring

-- flat: 0 at all symbols or at none
unfoldable pub is_flat : Quadratic → Bool
is_flat q = eqb (q.square % 729) 0 && eqb (q.linear % 729) 0

pub flat_line : (q : Quadratic) → is_flat q ≡ false → Zero q.square → ¬ Zero q.linear
unfolding is_flat
flat_line q e z l = true≢false (sym (rw (eq-eqb (q.square % 729) 0 z, eq-eqb (q.linear % 729) 0 l)) ∙ e)

-- ITS ROOTS among the small symbols: two numbers
abbrev pub OneOf : (x y b : ℕ) → Type 0
OneOf x y b = (b ≡ x) ⊎ (b ≡ y)

abbrev pub Roots : Quadratic → (x y : ℕ) → Type 0
Roots q x y = (x < 27) × (y < 27) × ((b : ℕ) → b < 27 → quadratic_at q (small b) ≡ 0 → OneOf x y b)

number_of_root : (b a v : ℕ) → b < 27 → ¬ Zero a → times a (small b) ≡ v → b ≡ low (times (inverse a) v)
number_of_root b a v l n e = sym (low_small b ∙ mod-eq_of_lt l) ∙ ap low (sym (mod-eq_of_lt (small_linear.below b)) ∙ sym (divide a (small b) n) ∙ ap (times (inverse a)) e)

module _ (q : Quadratic) (b : ℕ) (l : b < 27) (z : quadratic_at q (small b) ≡ 0) where
  -- a line
  root_linear : Zero q.square → ¬ Zero q.linear → b ≡ low (times (inverse q.linear) (minus 0 q.constant))
  unfolding quadratic_at
  root_linear s n = number_of_root b q.linear _ l n (alone q.constant (times q.linear (small b)) (times_whole _ _) (
      sym (ap (λ (x : ℕ). add q.constant (add (times q.linear (small b)) x)) nothing) ∙ z))
    where
      nothing : times q.square (times (small b) (small b)) ≡ 0
      nothing = sym (rest_times q.square _) ∙ ap (λ (x : ℕ). times x (times (small b) (small b))) s ∙ zero_times _

      alone : (c x : ℕ) → x % 729 ≡ x → add c (add x 0) ≡ 0 → x ≡ minus 0 c
      alone c x w e = sym (split ∙ w) ∙ ap (λ (y : ℕ). minus y c) e
        where
          split : minus (add c (add x 0)) c ≡ x % 729
          split = simp ring

  -- two by the square completed: 4 is 1, and -2 is 1
  root_square : ¬ Zero q.square → let r = square_root (minus (times q.linear q.linear) (times q.square q.constant)) in
      OneOf (low (times (inverse q.square) (add q.linear r))) (low (times (inverse q.square) (minus q.linear r))) b
  unfolding quadratic_at
  root_square n = go (square_roots w e squared)
    where
      u : ℕ
      u = small b

      w : ℕ
      w = minus (times q.square u) q.linear

      e : ℕ
      e = minus (times q.linear q.linear) (times q.square q.constant)

      complete : (a b c u : ℕ) → times (minus (times a u) b) (minus (times a u) b) ≡ add (minus (times b b) (times a c)) (times a (add c (add (times b u) (times a (times u u)))))
      complete a b c u = simp ring

      squared : times w w ≡ e
      squared = complete q.square q.linear q.constant u ∙ ap (λ (x : ℕ). add e (times q.square x)) z ∙ left (times q.linear q.linear) _ q.square
        where
          left : (x y a : ℕ) → add (minus x y) (times a 0) ≡ minus x y
          left x y a = simp ring

      back : (a b u : ℕ) → times a u ≡ add b (minus (times a u) b % 729)
      back a b u = simp ring

      lost : (b r : ℕ) → add b (minus 0 r) ≡ minus b r
      lost b r = simp ring

      go : (w % 729 ≡ square_root e) ⊎ (w % 729 ≡ minus 0 (square_root e))
          → OneOf (low (times (inverse q.square) (add q.linear (square_root e)))) (low (times (inverse q.square) (minus q.linear (square_root e)))) b
      go (inl h) = inl (number_of_root b q.square _ l n (back q.square q.linear u ∙ ap (add q.linear) h))
      go (inr h) = inr (number_of_root b q.square _ l n (back q.square q.linear u ∙ ap (add q.linear) h ∙ lost q.linear (square_root e)))

-- as the code has them
pub roots_line : (q : Quadratic) (x u c : ℕ) → is_flat q ≡ false → Zero q.square → c ≡ minus 0 q.constant → u ≡ times (inverse q.linear) c → x ≡ low u → Roots q x x
roots_line q x u c f z ec eu ex = (low_is, low_is, λ b l e. inl (root_linear q b l e z (flat_line q f z) ∙ sym (ex ∙ ap low (eu ∙ ap (times (inverse q.linear)) ec))))
  where
    low_is : x < 27
    low_is = rw ex (low_below u)

pub roots_square : (q : Quadratic) (x y u v s t r e : ℕ) → ¬ Zero q.square → e ≡ minus (times q.linear q.linear) (times q.square q.constant) → r ≡ square_root e
    → s ≡ add q.linear r → u ≡ times (inverse q.square) s → t ≡ minus q.linear r → v ≡ times (inverse q.square) t → x ≡ low u → y ≡ low v → Roots q x y
roots_square q x y u v s t r e n ee er es eu et ev ex ey = (rw ex (low_below u), rw ey (low_below v), λ b l z. rw (ex, ey, eu, ev, es, et, er, ee) (root_square q b l z n))

-- TWO TRIES, all others give no answer
abbrev pub Only : (f : ℕ → Option (List ℕ)) → (n x y : ℕ) → Type 0
Only f n x y = (b : ℕ) → b < n → b ≢ x → b ≢ y → f b ≡ none

first_below : (f : ℕ → Option (List ℕ)) (n : ℕ) → ((b : ℕ) → b < n → f b ≡ none) → first_of n f ≡ none
unfolding first_of or_else
first_below f zero h = refl
first_below f (suc n) h = ap₂ or_else (first_below f n (λ b l. h b (omega arith))) (h n (omega arith))

module _ (f : ℕ → Option (List ℕ)) (n x y : ℕ) (l : x ≤ y) (k : y < n) (o : Only f n x y) where
  before_lower : first_of x f ≡ none
  before_lower = first_below f x (λ b h. o b (omega arith) (λ e. omega arith) (λ e. omega arith))

  pub lower_some : (m : List ℕ) → f x ≡ some m → first_of n f ≡ some m
  lower_some m e = first_at f m x n before_lower (omega arith) e

  pub lower_none : f x ≡ none → f y ≡ first_of n f
  lower_none e = go (f y) refl
    where
      others : (b : ℕ) → b < n → b ≢ y → f b ≡ none
      others b h d = elim (ℕ_discrete b x) [ yes i ↦ rw i e | no j ↦ o b h j d ]

      go : (a : Option (List ℕ)) → f y ≡ a → a ≡ first_of n f
      go none h = sym (first_below f n (λ b i. elim (ℕ_discrete b y) [ yes j ↦ rw j h | no d ↦ others b i d ]))
      go (some m) h = sym (first_at f m y n (first_below f y (λ b i. others b (omega arith) (λ j. omega arith))) k h)

-- the others have a first coefficient that is not small
module _ (n k ρ σ : ℕ) (c : List ℕ) (h : ℕ → ℕ) (g : ℕ) (t : Fraction) (q : Quadratic) (x y : ℕ) (z : n % 2 ≡ 0) (l : n ≤ 6) (eg : g ≡ risen (dead_lines ρ) gamma)
    (P : FirstShown n h (unstepped (steps ρ σ) (λ i. 1) 0) g t) (Q : Passes t q) (R : Roots q x y) where
  pub only_roots : Only (attempt_dead n k ρ σ c h) 27 x y
  only_roots b i d e = attempt_dead_none n k ρ σ c h b g t z l eg P _ refl (λ s. neither (R.2 b i (Q b s)))
    where
      neither : OneOf x y b → ⊥
      neither (inl j) = d j
      neither (inr j) = e j

  pub only_roots_turned : Only (attempt_dead n k ρ σ c h) 27 y x
  only_roots_turned b i d e = only_roots b i e d

  -- the lower one first
  pub only_roots_sorted : Only (attempt_dead n k ρ σ c h) 27 (min x y) (max x y)
  only_roots_sorted b i d e = elim (dec_le x y) [
    | yes p ↦ only_roots b i (λ f. d (omega arith)) (λ f. e (omega arith))
    | no p ↦ only_roots_turned b i (λ f. d (omega arith)) (λ f. e (omega arith))
  ]
