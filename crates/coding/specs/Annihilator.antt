-- Errors of rank at most 2: the values of their polynomial are zeros of one polynomial y⁹ + L1 y³ + L0 y with L0 not 0, so its six
-- coefficients satisfy six equations.
-- Main: Annihilated, annihilated, near_annihilated.
use Rattle.std.specs.Prelude.{◌≡◌, refl, true, List, [], ◌∷◌, map, ℕ, suc, ◌+◌, ◌%◌, ◌≤◌, ◌<◌, length}
use Rattle.std.proofs.Common.{sym, ap, ◌∙◌, mod-eq_of_lt, arith, lit≤}
use Rattle.std.proofs.Math.Path.{fun_ext}
use Rattle.algebra.specs.Field.{add, minus, times, cube, risen}
use Rattle.algebra.specs.Lists.{All, table, length_table, at_table}
use Rattle.algebra.specs.Digits.{digit}
use Rattle.algebra.specs.Sums.{Zero, zero_plus, scale_none, scale_whole, add_whole}
use Rattle.algebra.specs.Combinations.{combine, combine_below, Span, span_combine, span_scale, span_zero, span_like, span_head, span_trans, Independent}
use Rattle.algebra.specs.Linear.{Linear, at_zero, at_rest, at_combine, composed, combination, images, expand}
use Rattle.algebra.specs.Products.{ring, cube_linear, cube_times, risen_six}
use Rattle.algebra.proofs.Inverses.{times_not_zero}
use Rattle.algebra.specs.Polynomials.{ev, lower}
use Rattle.algebra.proofs.Polynomials.{ev_linear, lower_linear, lower_self, lower_zeros}
use Rattle.rank.specs.Definitions.{at, is_card, rank}
use Rattle.rank.specs.Echelon.{rank_echelon}
use Rattle.coding.specs.Code.{radius, Near}
use Rattle.coding.specs.Spectrum.{spectrum, spectrum_images}
use Rattle.coding.specs.Errors.{errors, near_rank}

-- THE ANNIHILATOR y⁹ + L1 y³ + L0 y: two steps y³ - A y and y³ - B y
unfoldable annihilator : (L1 L0 y : ℕ) → ℕ
annihilator L1 L0 y = add (cube (cube y)) (add (times L1 (cube y)) (times L0 y))

pub cube_add : (a b : ℕ) → cube (add a b) ≡ add (cube a) (cube b)
cube_add = cube_linear.sum

factored : (A B y : ℕ) → lower B (lower A y) ≡ annihilator (minus 0 (add (cube A) B)) (times A B) y
unfolding lower annihilator
factored A B y = simp (cube_add, cube_times, ring)

-- what is 0 at some symbols is 0 on their span
pub on_span : {f : ℕ → ℕ} → Linear f → (ps : List ℕ) → All (λ p. f p ≡ 0) ps → (v : ℕ) → Span ps v → f v ≡ 0
unfolding combine
on_span {f} l ps h v s = sym (at_rest l v) ∙ ap f s.same ∙ at_combine l s.by ps ∙ go s.by ps h
  where
    go : (a : ℕ → ℕ) (ps : List ℕ) → All (λ p. f p ≡ 0) ps → combine a (map f ps) ≡ 0
    go a [] h = refl
    go a (p ∷ ps) h = rw (h.0, scale_none (a 0)) (zero_plus _ ∙ mod-eq_of_lt (combine_below (λ k. a (suc k)) (map f ps)) ∙ go (λ k. a (suc k)) ps h.1)

-- and so for up to two independent symbols there are steps A and B, not 0, to 0
record Steps (ps : List ℕ) : Type 0 where
  A : ℕ
  B : ℕ
  A_unit : ¬ Zero A
  B_unit : ¬ Zero B
  none : (v : ℕ) → Span ps v → lower B (lower A v) ≡ 0

both_linear : (A B : ℕ) → Linear (λ v. lower B (lower A v))
both_linear A B = composed (lower_linear B) (lower_linear A)

steps : (ps : List ℕ) → length ps ≤ 2 → Independent ps → Steps ps
steps [] h i = record { A = 1; B = 1; A_unit = λ e. omega arith; B_unit = λ e. omega arith; none = on_span (both_linear 1 1) [] tt }
steps (p ∷ []) h i =
    let n : ¬ Zero p = λ z. i.0 (span_zero z) in
    record {
      A = times p p;
      B = 1;
      A_unit = times_not_zero p p n n;
      B_unit = λ e. omega arith;
      none = on_span (both_linear (times p p) 1) (p ∷ []) (ap (lower 1) (lower_self p) ∙ at_zero (lower_linear 1), tt);
    }
steps (p ∷ q ∷ []) h i =
    let n : ¬ Zero q = λ z. i.1.0 (span_zero z) in
    let A = times q q in
    let u = lower A p in
    let m : ¬ Zero u = λ z. let (d, e) = lower_zeros q p (sym (mod-eq_of_lt ((lower_linear A).below p)) ∙ z) in
    i.0 (span_like (scale_whole d q ∙ sym e) (span_scale d (span_head q))) in
    record {
      A = A;
      B = times u u;
      A_unit = times_not_zero q q n n;
      B_unit = times_not_zero u u m m;
      none = on_span (both_linear A (times u u)) (p ∷ q ∷ [])
          (lower_self u, (ap (lower (times u u)) (lower_self q) ∙ at_zero (lower_linear (times u u)), tt));
    }
steps (p ∷ q ∷ r ∷ ps) h i = absurd (omega arith)

-- THE CUBE OF A POLYNOMIAL'S VALUE: its coefficients are cubed and move on by one, the last to the first place
pub cube_six : (y : ℕ) → cube (cube (cube (cube (cube (cube y))))) ≡ y % 729
unfolding risen
cube_six y = risen_six y

moved_on : (a b c d e f y : ℕ) → cube (ev (a ∷ b ∷ c ∷ d ∷ e ∷ f ∷ []) y) ≡ ev (cube f ∷ cube a ∷ cube b ∷ cube c ∷ cube d ∷ cube e ∷ []) y
unfolding ev
moved_on a b c d e f y = simp (cube_add, cube_times, cube_six, ring)

pub cubed : (e : ℕ → ℕ) (y : ℕ) → cube (ev (table 6 e) y) ≡ ev (table 6 (λ i. cube (e ((i + 5) % 6)))) y
unfolding table
cubed e y = moved_on (e 0) (e 1) (e 2) (e 3) (e 4) (e 5) y

collected : (L1 L0 y : ℕ) (a b e : ℕ → ℕ) → add (ev (table 6 a) y) (add (times L1 (ev (table 6 b) y)) (times L0 (ev (table 6 e) y)))
    ≡ ev (table 6 (λ i. add (a i) (add (times L1 (b i)) (times L0 (e i))))) y
unfolding ev table
collected L1 L0 y a b e = simp ring

-- the coefficients of the annihilator of a polynomial's values
abbrev pub left_side : (L1 L0 : ℕ) → (ℕ → ℕ) → ℕ → ℕ
left_side L1 L0 e i = add (cube (cube (e ((i + 4) % 6)))) (add (times L1 (cube (e ((i + 5) % 6)))) (times L0 (e i)))

annihilated_ev : (L1 L0 : ℕ) (e : ℕ → ℕ) (y : ℕ) → annihilator L1 L0 (ev (table 6 e) y) ≡ ev (table 6 (left_side L1 L0 e)) y
unfolding annihilator table
annihilated_ev L1 L0 e y =
    rw (cubed e y, cubed (λ i. cube (e ((i + 5) % 6))) y) (collected L1 L0 y (λ i. cube (cube (e ((i + 4) % 6)))) (λ i. cube (e ((i + 5) % 6))) e)

-- A POLYNOMIAL THAT IS 0 EVERYWHERE has no coefficients
pub none_everywhere : (e : ℕ → ℕ) → ((y : ℕ) → ev (table 6 e) y ≡ 0) → (i : ℕ) → i < 6 → Zero (e i)
unfolding ev at
none_everywhere e z i h =
    ap (λ (x : ℕ). x % 729) (sym (at_table 6 e i h))
    ∙ sym (spectrum_images (table 6 e) (omega (arith, length_table 6 e)) i h)
    ∙ ap (λ (f : ℕ → ℕ). spectrum (images f) i) (fun_ext z)
    ∙ spectrum_images [] (lit≤ tt) i h

-- A POLYNOMIAL'S VALUES lie in the span of as many symbols as their rank
pub value_spanned : (e : ℕ → ℕ) (y : ℕ) → Span (rank_echelon (images (ev (table 6 e)))).by (ev (table 6 e) y)
unfolding combination
value_spanned e y =
    rw (expand (ev_linear (table 6 e)) y) (span_trans (rank_echelon (images (ev (table 6 e)))).spans (span_combine (digit y) (images (ev (table 6 e)))))

-- THE SIX EQUATIONS
pub record Annihilated (e : ℕ → ℕ) : Type 0 where
  pub L1 : ℕ
  pub L0 : ℕ
  pub unit : ¬ Zero L0
  pub equation : (i : ℕ) → i < 6 → left_side L1 L0 e i ≡ 0

pub annihilated : (e : ℕ → ℕ) → rank (images (ev (table 6 e))) ≤ 2 → Annihilated e
annihilated e r =
    let t = rank_echelon (images (ev (table 6 e))) in
    let s = steps t.by (omega (arith, t.count)) t.free in
    record {
      L1 = minus 0 (add (cube s.A) s.B);
      L0 = times s.A s.B;
      unit = times_not_zero s.A s.B s.A_unit s.B_unit;
      equation = λ i h. sym (add_whole _ _) ∙ none_everywhere _
          (λ y. sym (annihilated_ev _ _ e y) ∙ sym (factored s.A s.B (ev (table 6 e) y)) ∙ s.none _ (value_spanned e y)) i h;
    }

-- they hold of the error of a card, if a message near it was meant
pub near_annihilated : (k : ℕ) → 1 ≤ k → k ≤ 5 → (c : List ℕ) → is_card c ≡ true → (m : List ℕ) → Near k c m → Annihilated (errors k c m)
unfolding radius
near_annihilated k p q c card m near = annihilated (errors k c m) (omega (arith, near_rank k p q c card m near))
