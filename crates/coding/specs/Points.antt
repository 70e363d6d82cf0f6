-- Points without error: where a linear function of errors has few independent values on some columns, each column is free, or in a relation with
-- the free ones before it whose point has no error; and interpolation through those points comes to a state that knows them all.
-- Main: Fresh, reached, reached_start.
use Rattle.std.specs.Prelude.{◌≡◌, List, [], ◌∷◌, map, ℕ, zero, suc, ◌+◌, ◌%◌, ◌^◌, ◌≤◌, ◌<◌, length}
use Rattle.std.proofs.Common.{sym, ap, ◌∙◌, mod-eq_of_lt, arith}
use Rattle.std.proofs.lemmas.List.{length-map}
use Rattle.algebra.specs.Field.{minus}
use Rattle.rank.specs.Definitions.{rank}
use Rattle.algebra.specs.Lists.{All, all_map, under}
use Rattle.algebra.specs.Tests.{some_below}
use Rattle.algebra.specs.Digits.{digit}
use Rattle.algebra.specs.Sums.{Zero, minus_add, minus_self}
use Rattle.algebra.specs.Combinations.{Independent, Span, span_combine, span_add, span_scale, span_like, span_more, span_head, span_self, span_trans}
use Rattle.algebra.specs.Linear.{Linear, at_minus, at_combine, combination, combination_any}
use Rattle.rank.specs.Dimension.{at_most}
use Rattle.rank.specs.Echelon.{rank_echelon, at_most_six}
use Rattle.coding.specs.Interpolation.{State, start, step, Zeros, zeros_start, zeros_step, zeros_not}

-- A RELATION of a column with the free ones, in the values of a linear function; or its value is independent of theirs
related : {E : ℕ → ℕ} → Linear E → (y : ℕ) (fs : List ℕ) → length fs ≤ 6
    → ¬ ((i : ℕ) × (i < 3 ^ length fs) × (E (minus y (combination fs i)) ≡ 0)) → ¬ Span (map E fs) (E y)
related {E} l y fs h n s =
    let (i, b, e) = combination_any s.by fs h in
    let same : E (combination fs i) ≡ E y = ap E e ∙ at_combine l s.by fs ∙ sym s.same ∙ mod-eq_of_lt (l.below y) in
    n (i, b, at_minus l y (combination fs i) ∙ ap (minus (E y)) same ∙ minus_self (E y))

-- A POINT of a relation lies in the span of the column and those before it, and outside theirs
module _ (y : ℕ) (ps fs : List ℕ) (before : All (Span ps) fs) (i : ℕ) where
  free_inside : Span ps (combination fs i)
  unfolding combination
  free_inside = span_trans before (span_combine (digit i) fs)

  point_inside : Span (y ∷ ps) (minus y (combination fs i))
  unfolding minus
  point_inside = span_add (span_head y) (span_scale 2 (span_more y free_inside))

  point_outside : ¬ Span ps y → ¬ Span ps (minus y (combination fs i))
  point_outside n s = n (span_like (ap (λ (m : ℕ). m % 729) (minus_add y (combination fs i)) ∙ omega arith) (span_add s free_inside))

-- COLUMNS none of which lies in the span of those before it
abbrev pub Fresh : (seen columns : List ℕ) → Type 0
Fresh seen [] = Unit {0}
Fresh seen (p ∷ ps) = (¬ Span seen p) × Fresh (p ∷ seen) ps

-- A STATE IS REACHED that keeps what the points without error keep
module _ (c : List ℕ) {E : ℕ → ℕ} (linear : Linear E) (P : (need : ℕ) → State → Type 0)
    (keep : (x : ℕ) → E x ≡ 0 → (need : ℕ) (s : State) → ¬ Zero (combination s.M x) → P (suc need) s → P need (step c x s)) where
  abbrev Reached : Type 0
  Reached = (e : State) × P 0 e

  module _ (errors : List ℕ) where
    -- what holds of the free columns and of the state, after some columns
    record Holds (seen fs : List ℕ) (s : State) : Type 0 where
      independent : Independent (map E fs)
      inside : All (Span errors) (map E fs)
      before : All (Span seen) fs
      zeros : Zeros seen s

    few : {seen fs : List ℕ} {s : State} → Holds seen fs s → (length fs ≤ length errors) × (length fs ≤ 6)
    few {fs} H =
        let l = length-map fs E in
        (omega (arith, at_most errors (map E fs) H.independent H.inside, l), omega (arith, at_most_six (map E fs) H.independent, l))

    reached : (ps : List ℕ) (need : ℕ) (fs seen : List ℕ) (s : State) → need + length errors ≤ length fs + length ps
        → Fresh seen ps → All (λ p. Span errors (E p)) ps → Holds seen fs s → P need s → Reached
    reached [] zero fs seen s h f v H p = (s, p)
    reached [] (suc need) fs seen s h f v H p = absurd (omega (arith, (few H).0))
    reached (y ∷ ps) zero fs seen s h f v H p = (s, p)
    reached (y ∷ ps) (suc need) fs seen s h f v H p =
        let wider = all_map (λ w. span_more y) seen (span_self seen) in
        let before = all_map (λ w. span_more y) fs H.before in
        elim (some_below (3 ^ length fs) (λ i. E (minus y (combination fs i)))) [
          | yes t ↦
              let (i, b, z) = t in
              let x = minus y (combination fs i) in
              let outside = point_outside y seen fs H.before i f.0 in
              let Z = zeros_step c seen (y ∷ seen) s x H.zeros wider (point_inside y seen fs H.before i) in
              reached ps need fs (y ∷ seen) (step c x s) (omega arith) f.1 v.1
              (record { independent = H.independent; inside = H.inside; before = before; zeros = Z })
              (keep x z need s (zeros_not seen s x H.zeros outside) p)
          | no n ↦
              reached ps (suc need) (y ∷ fs) (y ∷ seen) s (omega arith) f.1 v.1
              (record {
                independent = (related linear y fs (few H).1 n, H.independent);
                inside = (v.0, H.inside);
                before = (span_head y, before);
                zeros = λ w z. span_more y (H.zeros w z);
              })
              p
        ]

  -- from the start, if the errors in the columns are few
  pub reached_start : (ps : List ℕ) (need : ℕ) → Fresh [] ps → rank (map E ps) + need ≤ length ps → P need start → Reached
  reached_start ps need f h p =
      let t = rank_echelon (map E ps) in
      reached t.by ps need [] [] start (omega (arith, t.count)) f (under (Span t.by) E ps t.spans)
      (record { independent = tt; inside = tt; before = tt; zeros = zeros_start }) p
