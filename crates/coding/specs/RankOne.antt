-- Errors of rank at most 1: each coefficient's cube is the same multiple of the next, so two coefficients in a row give all. An annihilated
-- error has rank at most 1 where the determinant of its last three coefficients is 0.
-- Main: next_error, chain, Ratio, ratio, ratio_of_determinant, chain_none, chained, near_ratio.
use Rattle.std.specs.Prelude.{◌≡◌, true, List, [], ◌∷◌, length}
use Rattle.std.proofs.Math.Path.{sym, ap}
use Rattle.std.proofs.Common.{ap₂, ◌∙◌, mod-eq_of_lt, lit<}
use Prim.Native.Nat.{ℕ, zero, suc, ◌+◌, ◌%◌, ◌≤◌, ◌<◌}
use Rattle.std.proofs.Math.Decide.{ℕ_discrete}
use native.Mathlib.Omega.{arith}
use Rattle.algebra.specs.Field.{add, minus, times, cube}
use Rattle.algebra.specs.Lists.{table}
use Rattle.algebra.specs.Tests.{below_six}
use Rattle.algebra.specs.Sums.{Zero, add_whole, minus_none}
use Rattle.algebra.specs.Combinations.{Span, span_zero, Independent}
use Rattle.algebra.specs.Linear.{at_rest, images}
use Rattle.algebra.specs.Products.{ring, products, cube_linear, none_cube, cube_times, times_comm, times_zero, zero_times, times_whole}
use Rattle.algebra.specs.Inverses.{inverse}
use Rattle.algebra.proofs.Inverses.{divide, no_divisors, times_not_zero}
use Rattle.algebra.specs.Polynomials.{ev, lower}
use Rattle.algebra.proofs.Polynomials.{lower_linear, lower_self}
use Rattle.rank.specs.Definitions.{is_card, rank}
use Rattle.rank.specs.Echelon.{rank_echelon}
use Rattle.coding.specs.Code.{Near}
use Rattle.coding.specs.Spectrum.{spectrum}
use Rattle.coding.specs.Errors.{errors, errors_beyond}
use Rattle.coding.specs.Annihilator.{Annihilated, value_spanned, on_span, cubed, none_everywhere, near_annihilated}
use Rattle.coding.specs.Window.{zero_factor, cube_none, cube_minus, determinant}

-- THE NEXT COEFFICIENT of an error of rank 1 after x, if v comes after u
unfoldable pub next_error : (u v x : ℕ) → ℕ
next_error u v x = times (times v (inverse (cube u))) (cube x)

-- its coefficients from the first on, if the last is v and the one before it u
unfoldable pub chain : (u v : ℕ) → (i : ℕ) → ℕ
chain u v zero = next_error u v v
chain u v (suc i) = next_error u v (chain u v i)

-- EACH CUBE is P times the next coefficient
pub record Ratio (e : ℕ → ℕ) : Type 0 where
  pub P : ℕ
  pub unit : ¬ Zero P
  pub equation : (i : ℕ) → i < 6 → cube (e ((i + 5) % 6)) ≡ times P (e i)

-- so for errors of rank at most 1, whose values are zeros of y³ - P y
record Step (ps : List ℕ) : Type 0 where
  P : ℕ
  unit : ¬ Zero P
  none : (v : ℕ) → Span ps v → lower P v ≡ 0

step : (ps : List ℕ) → length ps ≤ 1 → Independent ps → Step ps
step [] h i = record { P = 1; unit = λ e. omega arith; none = on_span (lower_linear 1) [] tt }
step (p ∷ []) h i =
    let n : ¬ Zero p = λ z. i.0 (span_zero z) in
    record { P = times p p; unit = times_not_zero p p n n; none = on_span (lower_linear (times p p)) (p ∷ []) (lower_self p, tt) }
step (p ∷ q ∷ ps) h i = absurd (omega arith)

collected : (P y : ℕ) (a e : ℕ → ℕ) → minus (ev (table 6 a) y) (times P (ev (table 6 e) y)) ≡ ev (table 6 (λ i. minus (a i) (times P (e i)))) y
unfolding ev table
collected P y a e = simp ring

pub lowered_ev : (P : ℕ) (e : ℕ → ℕ) (y : ℕ) → lower P (ev (table 6 e) y) ≡ ev (table 6 (λ i. minus (cube (e ((i + 5) % 6))) (times P (e i)))) y
unfolding lower
lowered_ev P e y = rw (cubed e y) (collected P y (λ i. cube (e ((i + 5) % 6))) e)

same_cube : (x a b : ℕ) → Zero (minus (cube x) (times a b)) → cube x ≡ times a b
same_cube x a b z = sym (mod-eq_of_lt (cube_linear.below x)) ∙ minus_none (cube x) (times a b) z ∙ times_whole a b

pub ratio : (e : ℕ → ℕ) → rank (images (ev (table 6 e))) ≤ 1 → Ratio e
ratio e r =
    let t = rank_echelon (images (ev (table 6 e))) in
    let s = step t.by (omega (arith, t.count)) t.free in
    record {
      P = s.P;
      unit = s.unit;
      equation = λ i h. same_cube _ _ _ (none_everywhere _ (λ y. sym (lowered_ev s.P e y) ∙ s.none _ (value_spanned e y)) i h);
    }

-- AND WHERE THE DETERMINANT OF THE LAST THREE IS 0: if E5 is 0, so are all, as an equation with two zeros has a third
third_none : (L1 L0 w x y : ℕ) → add (cube (cube w)) (add (times L1 (cube x)) (times L0 y)) ≡ 0 → Zero x → Zero y → Zero w
third_none L1 L0 w x y q u v = cube_none w (cube_none (cube w) (
    before (cube (cube w)) ∙ ap (add (cube (cube w))) (ap₂ add (sym (ap (times L1) (none_cube x u) ∙ times_zero L1)) (sym (times_comm L0 y ∙ zero_factor y L0 v))) ∙ q))
  where
    before : (b : ℕ) → b % 729 ≡ add b (add 0 0)
    before b = simp ring

-- else P is a root, not 0, which passes from two coefficients to those before them
module _ (P L1 L0 : ℕ) where
  root_is : (a b c : ℕ) → ¬ Zero c → add (cube (cube a)) (add (times L1 (cube b)) (times L0 c)) ≡ 0 → cube a ≡ times P b → cube b ≡ times P c
      → add (times P (cube P)) (add (times L1 P) L0) ≡ 0
  root_is a b c n q ha hb = sym (add_whole _ _) ∙ no_divisors c _ n (before (cube P) ∙ rw (ha, cube_times P b, hb) at q)
    where
      before : (p : ℕ) → times c (add (times P p) (add (times L1 P) L0)) ≡ add (times p (times P c)) (add (times L1 (times P c)) (times L0 c))
      before p = simp ring

  module _ (root : add (times P (cube P)) (add (times L1 P) L0) ≡ 0) where
    root_unit : ¬ Zero L0 → ¬ Zero P
    root_unit n z = n (plain ∙ rw (zero_factor P (cube P) z, times_comm L1 P, zero_factor P L1 z) at root)
      where
        plain : L0 % 729 ≡ add 0 (add 0 L0)
        plain = simp ring

    falls : (a b c : ℕ) → add (cube (cube a)) (add (times L1 (cube b)) (times L0 c)) ≡ 0 → cube b ≡ times P c → cube a ≡ times P b
    falls a b c q h = same_cube a P b (cube_none _ (ap (λ (x : ℕ). x % 729) none))
      where
        gathered : (u v : ℕ) → minus u (times v (times P c)) ≡ minus (add u (add (times L1 (times P c)) (times L0 c))) (times (add (times P v) (add (times L1 P) L0)) c)
        gathered u v = simp ring

        nothing : minus 0 (times 0 c) ≡ 0
        nothing = simp ring

        none : cube (minus (cube a) (times P b)) ≡ 0
        none = simp (cube_minus, cube_times, h) (gathered (cube (cube a)) (cube P) ∙ rw (root, ← h, q) nothing)

module _ (e : ℕ → ℕ) (A : Annihilated e) (none : determinant (e 3) (e 4) (e 5) ≡ 0) where
  same : times (e 5) (cube (e 3)) ≡ times (e 4) (cube (e 4))
  unfolding determinant
  same = sym (times_whole _ _) ∙ minus_none (times (e 5) (cube (e 3))) (times (e 4) (cube (e 4))) (ap (λ (x : ℕ). x % 729) none) ∙ times_whole _ _

  ratio_none : Zero (e 5) → Ratio e
  ratio_none z₅ =
      let z₄ = power_none (e 4) (sym same ∙ zero_factor (e 5) _ z₅) in
      let z₃ = third_none _ _ (e 3) _ _ (A.equation 5 (lit< tt)) z₄ z₅ in
      let z₂ = third_none _ _ (e 2) _ _ (A.equation 4 (lit< tt)) z₃ z₄ in
      let z₁ = third_none _ _ (e 1) _ _ (A.equation 3 (lit< tt)) z₂ z₃ in
      let z₀ = third_none _ _ (e 0) _ _ (A.equation 2 (lit< tt)) z₁ z₂ in
      record {
        P = 1;
        unit = λ u. omega arith;
        equation = below_six _ (both _ _ z₅ z₀) (both _ _ z₀ z₁) (both _ _ z₁ z₂) (both _ _ z₂ z₃) (both _ _ z₃ z₄) (both _ _ z₄ z₅);
      }
    where
      power_none : (x : ℕ) → times x (cube x) ≡ 0 → Zero x
      power_none x q = elim (ℕ_discrete (x % 729) 0) [ yes z ↦ z | no n ↦ cube_none x (no_divisors x (cube x) n q) ]

      both : (x y : ℕ) → Zero x → Zero y → cube x ≡ times 1 y
      both x y u v = none_cube x u ∙ sym (times_comm 1 y ∙ zero_factor y 1 v)

  ratio_some : ¬ Zero (e 5) → Ratio e
  ratio_some n₅ =
      let P = times (inverse (e 5)) (cube (e 4)) in
      let h₄ : cube (e 4) ≡ times P (e 5) = sym (over (cube (e 4)) (e 5) ∙ divide (e 5) (cube (e 4)) n₅ ∙ mod-eq_of_lt (cube_linear.below (e 4))) in
      let h₃ : cube (e 3) ≡ times P (e 4) =
      sym (over (cube (e 4)) (e 4) ∙ ap (times (inverse (e 5))) (sym same) ∙ divide (e 5) (cube (e 3)) n₅ ∙ mod-eq_of_lt (cube_linear.below (e 3))) in
      let root = root_is P A.L1 A.L0 (e 3) (e 4) (e 5) n₅ (A.equation 5 (lit< tt)) h₃ h₄ in
      let f = falls P A.L1 A.L0 root in
      let h₂ = f (e 2) (e 3) (e 4) (A.equation 4 (lit< tt)) h₃ in
      let h₁ = f (e 1) (e 2) (e 3) (A.equation 3 (lit< tt)) h₂ in
      let h₀ = f (e 0) (e 1) (e 2) (A.equation 2 (lit< tt)) h₁ in
      let h₅ = f (e 5) (e 0) (e 1) (A.equation 1 (lit< tt)) h₀ in
      record { P = P; unit = root_unit P A.L1 A.L0 root A.unit; equation = below_six _ h₅ h₀ h₁ h₂ h₃ h₄ }
    where
      over : (a b : ℕ) → times (times (inverse (e 5)) a) b ≡ times (inverse (e 5)) (times b a)
      over a b = simp products

  pub ratio_of_determinant : Ratio e
  ratio_of_determinant = elim (ℕ_discrete (e 5 % 729) 0) [ yes z ↦ ratio_none z | no n ↦ ratio_some n ]

-- THE COEFFICIENTS, THEN, are the chain's
next_rest : (u v x : ℕ) → next_error u v (x % 729) ≡ next_error u v x
unfolding next_error
next_rest u v x = ap (times _) (at_rest cube_linear x)

next_none : (u v x : ℕ) → Zero v → next_error u v x ≡ 0
unfolding next_error
next_none u v x z = ap (λ (t : ℕ). times t (cube x)) (zero_factor v (inverse (cube u)) z) ∙ zero_times (cube x)

pub chain_none : (u v : ℕ) → Zero v → (i : ℕ) → chain u v i ≡ 0
unfolding chain
chain_none u v z zero = next_none u v v z
chain_none u v z (suc i) = next_none u v (chain u v i) z

module _ (e : ℕ → ℕ) (R : Ratio e) where
  step_none : (i : ℕ) → i < 6 → Zero (e ((i + 5) % 6)) → Zero (e i)
  step_none i h z = no_divisors R.P (e i) R.unit (sym (R.equation i h) ∙ none_cube _ z)

  module _ (z₅ : Zero (e 5)) where
    all_none : (i : ℕ) → i < 6 → Zero (e i)
    all_none zero h = step_none 0 (lit< tt) z₅
    all_none (suc i) h = step_none (suc i) (omega arith) (let w : (suc i + 5) % 6 ≡ i = omega arith in rw w (all_none i (omega arith)))

    chained_none : (i : ℕ) → i < 6 → chain (e 4) (e 5) i ≡ e i % 729
    chained_none i h = chain_none (e 4) (e 5) z₅ i ∙ sym (all_none i h)

  module _ (n₅ : ¬ Zero (e 5)) where
    next_is : (x y : ℕ) → cube x ≡ times R.P y → next_error (e 4) (e 5) x ≡ y % 729
    unfolding next_error
    next_is x y k = rw k (before (e 5) (inverse (cube (e 4))) ∙ rw (← R.equation 5 (lit< tt)) (divide (cube (e 4)) y n₄))
      where
        n₄ : ¬ Zero (cube (e 4))
        n₄ z = times_not_zero R.P (e 5) R.unit n₅ (ap (λ (x : ℕ). x % 729) (sym (R.equation 5 (lit< tt))) ∙ z)

        before : (a b : ℕ) → times (times a b) (times R.P y) ≡ times b (times (times R.P a) y)
        before a b = simp products

    chained_some : (i : ℕ) → i < 6 → chain (e 4) (e 5) i ≡ e i % 729
    unfolding chain
    chained_some zero h = next_is (e 5) (e 0) (R.equation 0 (lit< tt))
    chained_some (suc i) h =
        ap (next_error (e 4) (e 5)) (chained_some i (omega arith))
        ∙ next_rest (e 4) (e 5) (e i)
        ∙ next_is (e i) (e (suc i)) (let w : (suc i + 5) % 6 ≡ i = omega arith in rw w at (R.equation (suc i) (omega arith)))

  pub chained : (i : ℕ) → i < 6 → chain (e 4) (e 5) i ≡ e i % 729
  chained i h = elim (ℕ_discrete (e 5 % 729) 0) [ yes z ↦ chained_none z i h | no n ↦ chained_some n i h ]

-- FOR k = 1 AND 2 the last three coefficients are the card's
pub near_ratio : (k : ℕ) → 1 ≤ k → k ≤ 2 → (c : List ℕ) → is_card c ≡ true → (m : List ℕ) → Near k c m → determinant (spectrum c 3) (spectrum c 4) (spectrum c 5) ≡ 0
    → Ratio (errors k c m)
near_ratio k p q c card m near none = ratio_of_determinant (errors k c m) (near_annihilated k p five c card m near) same_determinant
  where
    five : k ≤ 5
    five = omega arith

    beyond : (i : ℕ) → k < i → errors k c m i ≡ spectrum c i
    beyond = errors_beyond k p five c card m

    same_determinant : determinant (errors k c m 3) (errors k c m 4) (errors k c m 5) ≡ 0
    same_determinant = rw (beyond 3 (omega arith), beyond 4 (omega arith), beyond 5 (omega arith)) none
