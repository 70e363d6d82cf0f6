-- The rank that elimination counts: it leaves as many independent symbols, with the span of the card's symbols. So the rank is the least
-- number of symbols that span them: a card of rank t lies in the span of t independent symbols, and of no fewer.
-- Main: rank_echelon, rank_least, rank_is_least, least_is_rank, rank_zero, zero_rank, rank_at_most, at_most_six.
use Rattle.std.specs.Prelude.{◌≡◌, refl, ◌≢◌, Bool, true, false, cond, List, [], ◌∷◌, map, ℕ, zero, suc, ◌+◌, ◌≤◌, eqb, length}
use Rattle.std.proofs.Common.{ap, ◌∙◌, arith, eqb-true}
use Rattle.std.proofs.Math.Option.{Option, none, some}
use Rattle.std.proofs.lemmas.Bool.{eqb-false}
use Rattle.algebra.specs.Field.{digits}
use Rattle.algebra.specs.Lists.{All, all, all_map, all_zip, over, under}
use Rattle.algebra.specs.Digits.{digit}
use Rattle.algebra.specs.Sums.{Zero}
use Rattle.algebra.specs.Combinations.{combine, Span, span_zero, span_self, span_trans, Independent, outside}
use Rattle.algebra.specs.Linear.{combination, basis, in_basis}
use Rattle.rank.specs.Definitions.{columns, pivot, rank_with, rank_from, rank}
use Rattle.rank.specs.Dimension.{at_most}
use Rattle.rank.specs.Clearing.{clear, columns_clear, span_clear, span_unclear}
use Rattle.rank.specs.Clearing.{ZeroBefore, zero_before_next, zero_before_clear, zero_before_all}

-- THE PIVOT at a digit, among symbols with a property P
data Pivot (P : ℕ → Type 0) (i : ℕ) (cs : List ℕ) : Option (List ℕ) → Type 0 where
  absent : All (λ c. digit c i ≡ 0) cs → Pivot P i cs none
  found : (p : ℕ) → P p → digit p i ≢ 0 → Pivot P i cs (some (digits p))

pivot_is : (P : ℕ → Type 0) (i : ℕ) (cs : List ℕ) → All P cs → Pivot P i cs (pivot i (columns cs))
unfolding pivot columns
pivot_is P i [] h = absent tt
pivot_is P i (c ∷ cs) h = go (eqb (digit c i) 0) refl (pivot_is P i cs h.1)
  where
    on : {o : Option (List ℕ)} → digit c i ≡ 0 → Pivot P i cs o → Pivot P i (c ∷ cs) o
    on e (absent z) = absent (e, z)
    on e (found p k n) = found p k n

    go : (b : Bool) → eqb (digit c i) 0 ≡ b → Pivot P i cs (pivot i (columns cs))
        → Pivot P i (c ∷ cs) (cond b (pivot i (columns cs)) (some (digits c)))
    go true e r = on (eqb-true (digit c i) 0 e) r
    go false e r = found c h.0 (eqb-false (digit c i) 0 e)

-- ONE DIGIT of the elimination: what holds with and without a pivot holds
rank_step : (P : ℕ → Type 0) (G : ℕ → Type 0) (n i : ℕ) (cs : List ℕ) → All P cs
    → (All (λ c. digit c i ≡ 0) cs → G (rank_from n (suc i) (columns cs)))
    → ((p : ℕ) → P p → digit p i ≢ 0 → G (suc (rank_from n (suc i) (columns (map (clear i p) cs)))))
    → G (rank_from (suc n) i (columns cs))
unfolding rank_from rank_with
rank_step P G n i cs h without-pivot with-pivot = go (pivot_is P i cs h)
  where
    go : {o : Option (List ℕ)} → Pivot P i cs o → G (rank_with o (λ ds. rank_from n (suc i) ds) i (columns cs))
    go (absent z) = without-pivot z
    go (found p u nz) = rw (columns_clear i p cs) (with-pivot p u nz)

-- ELIMINATION: as many independent symbols as the rank, with the same span
pub record Echelon (cs : List ℕ) (t : ℕ) : Type 0 where
  pub by : List ℕ
  pub count : length by ≡ t
  pub free : Independent by
  pub inside : All (Span cs) by
  pub spans : All (Span by) cs

echelon_step : (i p : ℕ) (cs : List ℕ) {t : ℕ} → digit p i ≢ 0 → Span cs p → All (ZeroBefore (suc i)) (map (clear i p) cs)
    → Echelon (map (clear i p) cs) t → Echelon cs (suc t)
echelon_step i p cs nz s d t =
    let lacking = all_map (λ c k. k i (omega arith)) (map (clear i p) cs) d in
    let within = over (Span cs) (clear i p) cs (all_map (λ c. span_clear i p c s) cs (span_self cs)) in
    record {
      by = p ∷ t.by;
      count = ap suc t.count;
      free = (λ r. outside i p (map (clear i p) cs) nz lacking (span_trans t.inside r), t.free);
      inside = (s, all_map (λ b. span_trans within) t.by t.inside);
      spans = all_map (λ c. span_unclear i p c) cs (under (Span t.by) (clear i p) cs t.spans);
    }

echelon : (n i : ℕ) (cs : List ℕ) → i + n ≡ 6 → All (ZeroBefore i) cs → Echelon cs (rank_from n i (columns cs))
unfolding rank_from
echelon zero i cs e h = record {
  by = [];
  count = refl;
  free = tt;
  inside = tt;
  spans = all_map (λ c k. span_zero (zero_before_all c (λ j l. k j (omega arith)))) cs h;
}
echelon (suc n) i cs e h =
    rank_step (λ c. ZeroBefore i c × Span cs c) (Echelon cs) n i cs (all_zip (λ c u s. (u, s)) cs h (span_self cs))
    (λ z. echelon n (suc i) cs (omega arith) (all_zip (zero_before_next i) cs h z))
    (λ p u nz.
    let d = over (ZeroBefore (suc i)) (clear i p) cs (all_map (λ c. zero_before_clear i p c nz u.0) cs h) in
    echelon_step i p cs nz u.1 d (echelon n (suc i) (map (clear i p) cs) (omega arith) d))

-- THE RANK
pub rank_echelon : (c : List ℕ) → Echelon c (rank c)
unfolding rank
rank_echelon c = echelon 6 0 c refl (all (λ s j l. absurd (omega arith)) c)

pub rank_least : (c ps : List ℕ) → All (Span ps) c → rank c ≤ length ps
rank_least c ps h =
    let t = rank_echelon c in
    omega (arith, t.count, at_most ps t.by t.free (all_map (λ b. span_trans h) t.by t.inside))

-- t symbols span those of c, and no fewer do
pub record LeastSpan (c : List ℕ) (t : ℕ) : Type 0 where
  pub by : List ℕ
  pub count : length by ≡ t
  pub spans : All (Span by) c
  pub least : (ps : List ℕ) → All (Span ps) c → t ≤ length ps

pub rank_is_least : (c : List ℕ) → LeastSpan c (rank c)
rank_is_least c = let t = rank_echelon c in record { by = t.by; count = t.count; spans = t.spans; least = rank_least c }

pub least_is_rank : (c : List ℕ) (t : ℕ) → LeastSpan c t → rank c ≡ t
least_is_rank c t s =
    let r = rank_is_least c in
    omega (arith, s.count, r.least s.by s.spans, r.count, s.least r.by r.spans)

-- RANK 0: every symbol is 0, and only then
pub rank_zero : (c : List ℕ) → rank c ≡ 0 → All Zero c
unfolding combine
rank_zero c z = let t = rank_echelon c in go t.by (t.count ∙ z) t.spans
  where
    go : (ps : List ℕ) → length ps ≡ 0 → All (Span ps) c → All Zero c
    go [] e h = all_map (λ v s. s.same) c h
    go (p ∷ ps) e h = absurd (omega arith)

pub zero_rank : (c : List ℕ) → All Zero c → rank c ≡ 0
zero_rank c z = omega (arith, rank_least c [] (all_map (λ v. span_zero) c z))

-- AT MOST SIX
basis_spans : (c : List ℕ) → All (Span basis) c
unfolding combination
basis_spans c = all (λ s. record { by = digit s; same = in_basis s }) c

pub rank_at_most : (c : List ℕ) → rank c ≤ 6
rank_at_most c = rank_least c basis (basis_spans c)

pub at_most_six : (xs : List ℕ) → Independent xs → length xs ≤ 6
at_most_six xs i = at_most basis xs i (basis_spans xs)
