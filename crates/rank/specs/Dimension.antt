-- Dimension: independent symbols are at most as many as symbols that span them.
-- Main: span_less, at_most.
use Rattle.std.specs.Prelude.{◌≡◌, refl, List, [], ◌∷◌, ℕ, suc, ◌+◌, ◌*◌, ◌%◌, ◌≤◌, length}
use Rattle.std.proofs.Common.{ap, arith}
use Rattle.std.proofs.Math.Decide.{ℕ_discrete}
use Rattle.algebra.specs.Field.{add, scale}
use Rattle.algebra.specs.Lists.{All, all_map}
use Rattle.algebra.specs.Mod3.{◌≈◌, clears}
use Rattle.algebra.specs.Digits.{add_assoc, add_zero, scale_zero, scale_plus, scale_same}
use Rattle.algebra.specs.Sums.{add_whole}
use Rattle.algebra.specs.Combinations.{combine, Span, span_zero, span_add, span_scale, span_like, span_more, span_head, span_tail, span_cancel}
use Rattle.algebra.specs.Combinations.{span_self, span_trans, Independent, exchange}

-- a symbol lies in a span if it does with a multiple of a symbol of the span added
pub span_less : {ps : List ℕ} (d : ℕ) {p c : ℕ} → Span ps p → Span ps (add c (scale d p)) → Span ps c
span_less d {p} {c} t s = span_like back (span_add s (span_scale (2 * d) t))
  where
    back : add (add c (scale d p)) (scale (2 * d) p) % 729 ≡ c % 729
    back = rw (add_whole, add_assoc, ← scale_plus d (2 * d) p, scale_same (d + 2 * d) 0 p (omega arith), scale_zero) (add_zero c)

-- MOVED: each symbol of the second list is that of the first plus a multiple of x
data Moved (x : ℕ) : List ℕ → List ℕ → Type 0 where
  none : Moved x [] []
  more : {y : ℕ} {ys zs : List ℕ} (m : ℕ) → Moved x ys zs → Moved x (y ∷ ys) (add y (scale m x) ∷ zs)

length_moved : {x : ℕ} {ys zs : List ℕ} → Moved x ys zs → length zs ≡ length ys
length_moved none = refl
length_moved (more m t) = ap suc (length_moved t)

moved_inside : {x : ℕ} {ys zs : List ℕ} (ps : List ℕ) → Moved x ys zs → Span ps x → All (Span ps) ys → All (Span ps) zs
moved_inside ps none s h = tt
moved_inside ps (more m t) s h = (span_add h.0 (span_scale m s), moved_inside ps t s h.1)

moved_free : {x : ℕ} {ys zs : List ℕ} → Moved x ys zs → ¬ Span ys x → Independent ys → Independent zs
moved_free none n i = tt
moved_free {x} (more {y} {ys} {zs} m t) n i = (λ s. n (exchange (near s) i.0), moved_free t (λ s. n (span_more y s)) i.1)
  where
    near : Span zs (add y (scale m x)) → Span (x ∷ ys) y
    near s =
        let inside = moved_inside (x ∷ ys) t (span_head x) (all_map (λ v. span_more x) ys (span_self ys)) in
        span_less m (span_head x) (span_trans inside s)

-- symbols in the span of ys, independent in the span of xs, and at most one fewer
record Kept (ys xs : List ℕ) : Type 0 where
  left : List ℕ
  count : length xs ≤ suc (length left)
  inside : All (Span xs) left
  free : Independent left
  each : All (Span ys) left

-- x uses y: with it, clear y from the others
others : (y : ℕ) (ys : List ℕ) (x : ℕ) (s : Span (y ∷ ys) x) → ¬ (s.by 0 ≈ 0)
    → (xs : List ℕ) → All (Span (y ∷ ys)) xs → (us : List ℕ) × Moved x xs us × All (Span ys) us
others y ys x s h [] v = ([], none, tt)
others y ys x s h (z ∷ xs) v =
    let m = 2 * (v.0.by 0 * s.by 0 % 3) in
    let r = others y ys x s h xs v.1 in
    (add z (scale m x) ∷ r.0, more m r.1, (span_cancel y m v.0 s (clears (v.0.by 0) (s.by 0) h), r.2))

one_less : (y : ℕ) (ys xs : List ℕ) → Independent xs → All (Span (y ∷ ys)) xs → Kept ys xs
one_less y ys [] i v = record { left = []; count = omega arith; inside = tt; free = tt; each = tt }
one_less y ys (x ∷ xs) i v = go (ℕ_discrete (v.0.by 0 % 3) 0) (one_less y ys xs i.1 v.1)
  where
    go : Dec (v.0.by 0 ≈ 0) → Kept ys xs → Kept ys (x ∷ xs)
    go (yes e) t = record {
      left = x ∷ t.left;
      count = omega (arith, t.count);
      inside = (span_head x, all_map (λ u. span_more x) t.left t.inside);
      free = (λ s. i.0 (span_trans t.inside s), t.free);
      each = (span_tail y v.0 e, t.each);
    }
    go (no n) t =
        let (us, moved, each) = others y ys x v.0 n xs v.1 in
        let self = span_self (x ∷ xs) in
        record {
          left = us;
          count = omega (arith, length_moved moved);
          inside = moved_inside (x ∷ xs) moved self.0 self.1;
          free = moved_free moved i.0 i.1;
          each = each;
        }

-- INDEPENDENT SYMBOLS are at most as many as symbols that span them
pub at_most : (ys xs : List ℕ) → Independent xs → All (Span ys) xs → length xs ≤ length ys
unfolding combine
at_most [] [] i v = omega arith
at_most [] (x ∷ xs) i v = absurd (i.0 (span_zero v.0.same))
at_most (y ∷ ys) xs i v =
    let s = one_less y ys xs i v in
    omega (arith, s.count, at_most ys s.left s.free s.each)
