-- Interpolation, a point at a time, on cards: a card is the linear function that has its symbols as values at 1, z, .. z^5. A state is two
-- such functions G and M, with the lowest coefficients of their polynomials. If it knows a polynomial, as G + Q(M), then a step at a point
-- where M is not 0 divides Q by y³ - u² y, u being M's value there.
-- Main: State, step, Knows, knows_start, knows_step, Zeros, zeros_start, zeros_step.
use Rattle.std.specs.Prelude.{◌≡◌, refl, List, [], ◌∷◌, map, ℕ, suc, ◌%◌}
use Rattle.std.proofs.Math.Path.{sym, ap}
use Rattle.std.proofs.Common.{◌∙◌, mod-eq_of_lt, arith}
use Rattle.std.proofs.Math.ListN.{length, length-map}
use Rattle.algebra.specs.Field.{add, scale, minus, times, cube}
use Rattle.algebra.specs.Lists.{All}
use Rattle.algebra.specs.Digits.{digit}
use Rattle.algebra.specs.Sums.{Zero, sums, minus_add, zero_plus, add_whole}
use Rattle.algebra.specs.Combinations.{Span, span_zero, span_add, span_scale, span_like, span_trans}
use Rattle.algebra.specs.Linear.{at_zero, at_rest, at_scale, at_minus, at_combine, none_linear, combination, combination_linear, basis, in_basis, expand}
use Rattle.algebra.specs.Products.{ring, times_one}
use Rattle.algebra.specs.Inverses.{inverse}
use Rattle.algebra.proofs.Inverses.{divide}
use Rattle.algebra.specs.Squares.{Square}
use Rattle.algebra.proofs.Squares.{square_one, square_step}
use Rattle.coding.specs.Cards.{blend, blend_length, combine_blend}
use Rattle.algebra.specs.Polynomials.{ev, lower, rem, quo, last}
use Rattle.algebra.proofs.Polynomials.{ev_linear, lower_linear, lower_self, lower_zeros, division, quo_length, quo_last}

-- THE STATE: two cards, and the lowest coefficients of their polynomials
pub record State : Type 0 where
  pub G : List ℕ
  pub M : List ℕ
  pub g0 : ℕ
  pub m0 : ℕ

unfoldable pub start : State
start = record { G = 0 ∷ 0 ∷ 0 ∷ 0 ∷ 0 ∷ 0 ∷ []; M = basis; g0 = 0; m0 = 1 }

-- ONE STEP: G gets e times M, and M becomes M³ - u² M
unfoldable pub stepped : (u e : ℕ) → State → State
stepped u e s = record {
  G = blend e s.G s.M;
  M = map (lower (times u u)) s.M;
  g0 = add s.g0 (times e s.m0);
  m0 = minus 0 (times (times u u) s.m0);
}

-- at a point x: u is M's value, and e is such that G takes the card's value
unfoldable pub factor : (card : List ℕ) → (x : ℕ) → State → ℕ
factor c x s = times (inverse (combination s.M x)) (minus (combination c x) (combination s.G x))

unfoldable pub step : (card : List ℕ) → (x : ℕ) → State → State
step c x s = stepped (combination s.M x) (factor c x s) s

M_step : (c : List ℕ) (x : ℕ) (s : State) (v : ℕ)
    → combination (step c x s).M v ≡ lower (times (combination s.M x) (combination s.M x)) (combination s.M v)
unfolding step stepped combination
M_step c x s v = sym (at_combine (lower_linear _) (digit v) s.M)

-- WHAT A STATE KNOWS of the polynomial g ∷ gs: it is G + Q(M), where Q is q ∷ qs
pub record Left (g : ℕ) (gs : List ℕ) (s : State) (q : ℕ) (qs : List ℕ) : Type 0 where
  pub long_G : length s.G ≡ 6
  pub long_M : length s.M ≡ 6
  pub values : (v : ℕ) → ev (g ∷ gs) v ≡ add (combination s.G v) (ev (q ∷ qs) (combination s.M v))
  pub lowest : g % 729 ≡ add s.g0 (times q s.m0)
  pub top : last q qs % 729 ≡ last g gs % 729
  pub square : Square s.m0

-- with so many coefficients left, but one
pub record Knows (g : ℕ) (gs : List ℕ) (need : ℕ) (s : State) : Type 0 where
  pub q : ℕ
  pub qs : List ℕ
  pub count : length qs ≡ need
  pub left : Left g gs s q qs

module _ (g : ℕ) (gs : List ℕ) where
  pub knows_start : Knows g gs (length gs) start
  unfolding start
  knows_start = record {
    q = g;
    qs = gs;
    count = refl;
    left = record {
      long_G = refl;
      long_M = refl;
      values = λ v.
          sym (at_rest (ev_linear (g ∷ gs)) v)
          ∙ rw (← expand none_linear v, ← in_basis v, zero_plus) (sym (mod-eq_of_lt ((ev_linear (g ∷ gs)).below (v % 729))));
      lowest = sym (rw times_one (zero_plus (g % 729) ∙ omega arith));
      top = refl;
      square = square_one;
    };
  }

  -- A STEP at a point where the card has the polynomial's value, and M is not 0
  module _ (c : List ℕ) (x : ℕ) (agrees : ev (g ∷ gs) x ≡ combination c x) (s : State) (not_zero : ¬ Zero (combination s.M x)) where
    abbrev u : ℕ
    u = combination s.M x

    abbrev A : ℕ
    A = times u u

    -- it adds the remainder
    factor_is : (q : ℕ) (qs : List ℕ) → Left g gs s q qs → factor c x s ≡ rem A (q ∷ qs)
    unfolding factor rem
    factor_is q qs K =
        ap (λ (y : ℕ). times (inverse u) (minus y (combination s.G x)))
        (sym agrees ∙ K.values x ∙ ap (add _) (division A q u qs ∙ rw (lower_self u, at_zero (ev_linear (quo (cube A) qs)))))
        ∙ ap (times (inverse u)) (left_over (combination s.G x) (rem A (q ∷ qs)) u)
        ∙ divide u (rem A (q ∷ qs)) not_zero
        ∙ add_whole q _
      where
        left_over : (g r u : ℕ) → minus (add g (add 0 (times r u))) g ≡ times u r
        left_over g r u = simp ring

    -- and leaves the quotient
    left_step : (q h : ℕ) (qs : List ℕ) → Left g gs s q (h ∷ qs) → Left g gs (step c x s) (rem (cube A) (h ∷ qs)) (quo (cube (cube A)) qs)
    unfolding step stepped combination last quo rem
    left_step q h qs K = record {
      long_G = blend_length _ s.G s.M long ∙ K.long_G;
      long_M = length-map s.M _ ∙ K.long_M;
      values = λ v.
          K.values v ∙ ap (add _) (division A q _ (h ∷ qs)) ∙ rw (G_step v, M_step c x s v, factor_is q (h ∷ qs) K) (regroup _ _ _);
      lowest = K.lowest ∙ rw (factor_is q (h ∷ qs) K) (lower_lowest s.g0 s.m0 A (rem (cube A) (h ∷ qs)));
      top = ap (λ (n : ℕ). n % 729) (quo_last (cube A) h qs) ∙ omega (arith, K.top);
      square = square_step u s.m0 not_zero K.square;
    }
      where
        long : length s.G ≡ length s.M
        long = K.long_G ∙ sym K.long_M

        G_step : (v : ℕ) → combination (step c x s).G v ≡ add (combination s.G v) (times (factor c x s) (combination s.M v))
        G_step v = combine_blend (digit v) (factor c x s) s.G s.M long

        regroup : (a b d : ℕ) → add a (add b d) ≡ add (add a d) b
        regroup a b d = simp sums

        lower_lowest : (a m b r : ℕ) → add a (times q m) ≡ add (add a (times (add q (times b r)) m)) (times r (minus 0 (times b m)))
        lower_lowest a m b r = simp ring

    pub knows_step : (need : ℕ) → Knows g gs (suc need) s → Knows g gs need (step c x s)
    knows_step need K = go K.q K.qs K.count K.left
      where
        go : (q : ℕ) (qs : List ℕ) → length qs ≡ suc need → Left g gs s q qs → Knows g gs need (step c x s)
        go q [] e K = absurd (omega arith)
        go q (h ∷ qs) e K = record { q = _; qs = _; count = quo_length _ qs ∙ omega arith; left = left_step q h qs K }

-- THE ZEROS OF M lie in a span
abbrev pub Zeros : (seen : List ℕ) → State → Type 0
Zeros ps s = (v : ℕ) → combination s.M v ≡ 0 → Span ps v

pub zeros_start : Zeros [] start
unfolding start
zeros_start v z = span_zero (in_basis v ∙ z)

-- after a step at x, in that with x
pub zeros_step : (c ps qs : List ℕ) (s : State) (x : ℕ) → Zeros ps s → All (Span qs) ps → Span qs x → Zeros qs (step c x s)
zeros_step c ps qs s x Z h i v z =
    let l = combination_linear s.M in
    let (d, e) = lower_zeros (combination s.M x) (combination s.M v) (sym (M_step c x s v) ∙ z) in
    let gone : combination s.M (minus v (scale d x)) ≡ 0 =
    at_minus l v (scale d x) ∙ rw (at_scale l d x, ← e) (minus_whole (combination s.M v)) in
    span_like (ap (λ (n : ℕ). n % 729) (minus_add v (scale d x)) ∙ omega arith) (span_add (span_trans h (Z _ gone)) (span_scale d i))
  where
    minus_whole : (a : ℕ) → minus a (a % 729) ≡ 0
    minus_whole a = simp sums

-- and M is not 0 outside
pub zeros_not : (ps : List ℕ) (s : State) (x : ℕ) → Zeros ps s → ¬ Span ps x → ¬ Zero (combination s.M x)
zeros_not ps s x Z n z = n (Z x (sym (mod-eq_of_lt ((combination_linear s.M).below x)) ∙ z))
