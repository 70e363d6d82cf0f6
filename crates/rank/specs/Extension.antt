-- The rank of a list of symbols and one more: it grows by 1 exactly if the new symbol lies outside the span of the others, which is decided.
--
-- Main: rank_grows, rank_grows_little, rank_inside, rank_outside, decide_span.
use Rattle.std.specs.Prelude.{◌≡◌, List, [], ◌∷◌, ◌++◌, ℕ, zero, suc, ◌*◌, ◌%◌, ◌≤◌, ◌<◌}
use Rattle.std.proofs.Math.Path.{sym, ap}
use Rattle.std.proofs.Common.{◌∙◌, arith}
use Rattle.std.proofs.Math.Decide.{ℕ_discrete}
use Rattle.std.proofs.Math.Nat.{mod-eq_of_lt}
use Rattle.algebra.specs.Field.{add, scale}
use Rattle.algebra.specs.Lists.{All, all_map}
use Rattle.algebra.specs.Digits.{add_comm, add_assoc, scale_zero, scale_plus, scale_same}
use Rattle.algebra.specs.Sums.{add_whole, zero_plus, rest_add}
use Rattle.algebra.specs.Combinations.{combine, combine_below, Span, span_zero, span_more, span_head, span_trans}
use Rattle.rank.specs.Definitions.{rank}
use Rattle.rank.specs.Dimension.{span_less, at_most}
use Rattle.rank.specs.Echelon.{rank_echelon, rank_least}

module _ (P : ℕ → Type 0) (v : ℕ) where
  all_one_more : (xs : List ℕ) → All P xs → P v → All P (xs ++ (v ∷ []))
  all_one_more [] h p = (p, tt)
  all_one_more (x ∷ xs) h p = (h.0, all_one_more xs h.1 p)

  all_but_last : (xs : List ℕ) → All P (xs ++ (v ∷ [])) → All P xs × P v
  all_but_last [] h = (tt, h.0)
  all_but_last (x ∷ xs) h = let t = all_but_last xs h.1 in ((h.0, t.0), t.1)

module _ (xs : List ℕ) (v : ℕ) where
  pub rank_grows : rank xs ≤ rank (xs ++ (v ∷ []))
  rank_grows =
      let t = rank_echelon (xs ++ (v ∷ [])) in
      omega (arith, t.count, rank_least xs t.by (all_but_last (Span t.by) v xs t.spans).0)

  pub rank_inside : Span xs v → rank (xs ++ (v ∷ [])) ≡ rank xs
  rank_inside s =
      let t = rank_echelon xs in
      let spans = all_one_more (Span t.by) v xs t.spans (span_trans t.spans s) in
      omega (arith, t.count, rank_grows, rank_least (xs ++ (v ∷ [])) t.by spans)

  pub rank_grows_little : rank (xs ++ (v ∷ [])) ≤ suc (rank xs)
  rank_grows_little =
      let t = rank_echelon xs in
      let spans = all_one_more (Span (v ∷ t.by)) v xs (all_map (λ x. span_more v) xs t.spans) (span_head v) in
      omega (arith, t.count, rank_least (xs ++ (v ∷ [])) (v ∷ t.by) spans)

  pub rank_outside : ¬ Span xs v → rank (xs ++ (v ∷ [])) ≡ suc (rank xs)
  rank_outside n =
      let t = rank_echelon xs in
      let u = rank_echelon (xs ++ (v ∷ [])) in
      let old = all_but_last (Span u.by) v xs u.spans in
      let many = at_most u.by (v ∷ t.by) (λ s. n (span_trans t.inside s), t.free)
      (old.1, all_map (λ b. span_trans old.0) t.by t.inside) in
      omega (arith, t.count, u.count, rank_grows_little, many)

-- DECIDED: whether a symbol lies in a span, by the three multiples of the first symbol
module _ (p : ℕ) (ps : List ℕ) (v : ℕ) where
  with_multiple : (d : ℕ) → Span ps (add v (scale d p)) → Span (p ∷ ps) v
  with_multiple d s = span_less d (span_head p) (span_more p s)

  without_multiple : (s : Span (p ∷ ps) v) → Span ps (add v (scale (2 * s.by 0 % 3) p))
  unfolding combine
  without_multiple s = record {
    by = λ k. s.by (suc k);
    same =
        add_whole v _ ∙ sym (rest_add v _) ∙ ap (λ (x : ℕ). add x (scale (2 * s.by 0 % 3) p)) s.same ∙ gone _ _ _ none
        ∙ mod-eq_of_lt (combine_below _ ps);
  }
    where
      none : add (scale (s.by 0) p) (scale (2 * s.by 0 % 3) p) ≡ 0
      none = sym (scale_plus (s.by 0) (2 * s.by 0 % 3) p) ∙ scale_same _ 0 p (omega arith) ∙ scale_zero p

      gone : (x y c : ℕ) → add x y ≡ 0 → add (add x c) y ≡ c % 729
      gone x y c e = rw (add_assoc x c y, add_comm c y, ← add_assoc x y c, e) (zero_plus c)

  decide_more : Dec (Span ps (add v (scale 0 p))) → Dec (Span ps (add v (scale 1 p))) → Dec (Span ps (add v (scale 2 p)))
      → Dec (Span (p ∷ ps) v)
  decide_more (yes s) b c = yes (with_multiple 0 s)
  decide_more (no x) (yes s) c = yes (with_multiple 1 s)
  decide_more (no x) (no y) (yes s) = yes (with_multiple 2 s)
  decide_more (no x) (no y) (no z) = no (λ s. none (2 * s.by 0 % 3) (omega arith) (without_multiple s))
    where
      none : (d : ℕ) → d < 3 → ¬ Span ps (add v (scale d p))
      none zero h = x
      none (suc zero) h = y
      none (suc (suc zero)) h = z
      none (suc (suc (suc d))) h = absurd (omega arith)

pub decide_span : (ps : List ℕ) (v : ℕ) → Dec (Span ps v)
unfolding combine
decide_span [] v = elim (ℕ_discrete (v % 729) 0) [ yes e ↦ yes (span_zero e) | no n ↦ no (λ s. n s.same) ]
decide_span (p ∷ ps) v =
    decide_more p ps v (decide_span ps (add v (scale 0 p))) (decide_span ps (add v (scale 1 p))) (decide_span ps (add v (scale 2 p)))
