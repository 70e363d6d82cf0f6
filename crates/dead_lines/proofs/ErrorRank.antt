-- The error of a card with dead lines, all steps made: its rank is at most that of what is left of it when the dead lines are struck out.
-- Main: stepped_rank.
use Rattle.std.specs.Prelude.{◌≡◌, refl, true, ℕ, ◌*◌, ◌%◌, ◌^◌, ◌≤◌, ◌<◌, length, get_or}
use Rattle.std.proofs.Math.Path.{sym, ap}
use Rattle.std.proofs.Common.{◌∙◌, mod-eq_of_lt}
use mathlib.Core.List.{List, [], map}
use Rattle.std.proofs.Math.Decide.{ℕ_discrete}
use native.Mathlib.Omega.{arith}
use Rattle.std.proofs.Math.ListN.{length-map}
use Rattle.algebra.specs.Field.{add, scale, minus}
use Rattle.algebra.specs.Lists.{all, over, table}
use Rattle.algebra.specs.Digits.{digit, add_zero}
use Rattle.algebra.specs.Tests.{passed, below_six}
use Rattle.algebra.specs.Sums.{sums}
use Rattle.algebra.specs.Combinations.{combine, Span, span_zero, span_scale}
use Rattle.algebra.specs.Linear.{Linear, composed, at_rest, at_scale, at_combine, combination, basis, images, expand}
use Rattle.algebra.specs.Polynomials.{ev}
use Rattle.algebra.proofs.Polynomials.{ev_linear}
use Rattle.rank.specs.Definitions.{is_card, rank, difference}
use Rattle.rank.specs.Echelon.{rank_echelon, rank_least}
use Rattle.coding.specs.Code.{word}
use Rattle.coding.specs.Coefficients.{word_long}
use Rattle.coding.specs.Errors.{errors, error_values}
use Rattle.dead_lines.specs.Struck.{bit, live_rank}
use Rattle.dead_lines.specs.Blanked.{kept, blanked, span_map, struck_rank}
use Rattle.dead_lines.specs.OneNear.{dropped, kept_dropped, span_each, difference_at, left_at}
use Rattle.dead_lines.specs.Steps.{line_stepped, after_lines, before_lines, after_linear, stepped_value}
use Rattle.dead_lines.specs.Multipliers.{steps}
use Rattle.dead_lines.proofs.Multipliers.{row_gone, column_avoided}

image_at : (f : ℕ → ℕ) (i : ℕ) → i < 6 → get_or (images f) i 0 ≡ f (3 ^ i)
image_at f = below_six _ refl refl refl refl refl refl

module _ (ρ σ : ℕ) (hρ : ρ < 64) (hσ : σ < 64) where
  -- WHAT COMES AFTER the error's polynomial takes digits in dead rows to 0
  abbrev L : ℕ → ℕ
  L = after_lines (steps ρ σ)

  L_linear : Linear L
  L_linear = after_linear (steps ρ σ)

  dropped_gone : (v : ℕ) → L (dropped ρ v) ≡ 0
  unfolding dropped combine
  dropped_gone v =
      sym (mod-eq_of_lt (L_linear.below (dropped ρ v))) ∙ ap (λ (x : ℕ). x % 729) (at_combine L_linear (λ i. bit ρ i * digit v i) basis)
      ∙ (span_each [] (λ i. bit ρ i * digit v i) (images L) (λ i l n.
      span_zero (ap (λ (x : ℕ). x % 729) (image_at L i l ∙ row_gone ρ σ hρ hσ i l (λ z. n (ap (λ (b : ℕ). b * digit v i % 3) z ∙ omega arith)))))).same

  kept_only : (v : ℕ) → L v ≡ L (kept ρ v)
  kept_only v = sym (at_rest L_linear v) ∙ ap L (kept_dropped ρ v) ∙ L_linear.sum (kept ρ v) (dropped ρ v) ∙ ap (add _) (dropped_gone v) ∙ add_zero _ ∙ mod-eq_of_lt (L_linear.below (kept ρ v))

  module _ (k : ℕ) (p : 1 ≤ k) (q : k ≤ 5) (c : List ℕ) (card : is_card c ≡ true) (m : List ℕ) where
    abbrev by : List ℕ
    by = (rank_echelon (blanked ρ σ (difference (word k m) c))).by

    long : length (word k m) ≡ length c
    unfolding is_card
    long = word_long k m ∙ sym (passed 6 728 c card).0

    abbrev f : ℕ → ℕ
    f v = L (ev (table 6 (errors k c m)) v)

    error_at : (i : ℕ) → i < 6 → ev (table 6 (errors k c m)) (3 ^ i) ≡ minus (get_or c i 0) (get_or (word k m) i 0)
    error_at i l = sym (image_at (ev (table 6 (errors k c m))) i l) ∙ ap (λ (ds : List ℕ). get_or ds i 0) (error_values k p q c card m) ∙ difference_at c (word k m) (sym long) i

    turned : (x y : ℕ) → minus x y % 729 ≡ scale 2 (minus y x) % 729
    turned x y = simp sums

    -- A LIVE COLUMN of the error, then, lies in the span of p symbols
    live : (i : ℕ) → i < 6 → bit σ i ≡ 0 → Span (map L by) (f (3 ^ i))
    live i l z =
        let x = get_or c i 0 in
        let w = get_or (word k m) i 0 in
        let s = span_map L_linear by _ (left_at ρ σ (word k m) c long i z) in
        rw (error_at i l, sym (at_rest L_linear (minus x w)) ∙ ap L (turned x w) ∙ at_rest L_linear (scale 2 (minus w x)) ∙ at_scale L_linear 2 (minus w x), kept_only (minus w x))
        (span_scale 2 s)

    -- and what comes before the polynomial uses live columns only
    value_inside : (y : ℕ) → Span (map L by) (ev (table 6 (line_stepped (steps ρ σ) (errors k c m))) y)
    unfolding combination
    value_inside y =
        rw (stepped_value (steps ρ σ) (errors k c m) y, expand (composed L_linear (ev_linear (table 6 (errors k c m)))) (before_lines (steps ρ σ) y)) (
        span_each (map L by) (digit (before_lines (steps ρ σ) y)) (images f) (λ i l n.
        rw (image_at f i l) (elim (ℕ_discrete (bit σ i) 0) [
          | yes z ↦ live i l z
          | no d ↦ absurd (n (ap (λ (x : ℕ). x % 3) (column_avoided ρ σ hρ hσ i l d y)))
        ])))

    -- ITS RANK
    pub stepped_rank : rank (images (ev (table 6 (line_stepped (steps ρ σ) (errors k c m))))) ≤ live_rank ρ σ (word k m) c
    unfolding live_rank
    stepped_rank =
        let e = ev (table 6 (line_stepped (steps ρ σ) (errors k c m))) in
        omega (
          arith,
          length-map by L,
          struck_rank ρ σ (difference (word k m) c),
          (rank_echelon (blanked ρ σ (difference (word k m) c))).count,
          rank_least (images e) (map L by) (over (Span (map L by)) e basis (all value_inside basis)),
        )
