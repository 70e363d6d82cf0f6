-- Combinations of symbols with digits as coefficients, the span of a list of symbols, and independence.
-- Main: span_add, span_scale, span_trans, outside, exchange.
use Rattle.std.specs.Prelude.{◌≡◌, refl, ◌≢◌, List, [], ◌∷◌, ◌++◌, ℕ, zero, suc, ◌+◌, ◌*◌, ◌%◌, ◌<◌}
use Rattle.std.proofs.Math.Path.{sym}
use Rattle.std.proofs.Common.{ap, ap₂, ◌∙◌, mod-eq_of_lt, arith, lit<}
use Rattle.std.proofs.Math.Decide.{ℕ_discrete}
use Rattle.algebra.specs.Field.{add, scale}
use Rattle.algebra.specs.Lists.{All, all_map}
use Rattle.algebra.specs.Mod3.{◌≈◌, unit}
use Rattle.algebra.specs.Digits.{digit, digit_add, digit_scale, digit_zero, digit_rest}
use Rattle.algebra.specs.Digits.{add_zero, add_below, scale_zero, scale_plus, scale_scale, scale_add, scale_same}
use Rattle.algebra.specs.Sums.{Zero, sums, add_swap, zero_plus, rest_add, scale_whole, scale_none, scale_rest, scale_one}

-- a₀x₀ + a₁x₁ + ..
unfoldable pub combine : (a : ℕ → ℕ) → List ℕ → ℕ
combine a [] = 0
combine a (x ∷ xs) = add (scale (a 0) x) (combine (λ k. a (suc k)) xs)

-- a coefficient in front of others
abbrev first : ℕ → (ℕ → ℕ) → ℕ → ℕ
first b a zero = b
first b a (suc k) = a k

pub combine_below : (a : ℕ → ℕ) (xs : List ℕ) → combine a xs < 729
unfolding combine
combine_below a [] = lit< tt
combine_below a (x ∷ xs) = add_below _ _

pub combine_none : (xs : List ℕ) → combine (λ k. 0) xs ≡ 0
unfolding combine
combine_none [] = refl
combine_none (x ∷ xs) = rw (scale_zero x, combine_none xs) (add_zero 0)

pub combine_same : (a b : ℕ → ℕ) (xs : List ℕ) → ((k : ℕ) → a k ≈ b k) → combine a xs ≡ combine b xs
unfolding combine
combine_same a b [] h = refl
combine_same a b (x ∷ xs) h = ap₂ add (scale_same _ _ x (h 0)) (combine_same _ _ xs (λ k. h (suc k)))

pub combine_add : (a b : ℕ → ℕ) (xs : List ℕ) → combine (λ k. a k + b k) xs ≡ add (combine a xs) (combine b xs)
unfolding combine
combine_add a b [] = sym (add_zero 0)
combine_add a b (x ∷ xs) = ap₂ add (scale_plus (a 0) (b 0) x) (combine_add _ _ xs) ∙ add_swap _ _ _ _

pub combine_scale : (m : ℕ) (a : ℕ → ℕ) (xs : List ℕ) → combine (λ k. m * a k) xs ≡ scale m (combine a xs)
unfolding combine
combine_scale m a [] = sym (scale_none m)
combine_scale m a (x ∷ xs) = ap₂ add (sym (scale_scale m (a 0) x)) (combine_scale m _ xs) ∙ sym (scale_add m _ _)

-- a coefficient 0
pub combine_skip : (d x : ℕ) (a : ℕ → ℕ) (xs : List ℕ) → d ≈ 0 → add (scale d x) (combine a xs) ≡ combine a xs
combine_skip d x a xs h =
    ap (λ (y : ℕ). add y (combine a xs)) (scale_same d 0 x h ∙ scale_zero x) ∙ zero_plus _ ∙ mod-eq_of_lt (combine_below a xs)

-- a digit that all symbols lack, a combination lacks
pub combine_digit : (i : ℕ) (a : ℕ → ℕ) (xs : List ℕ) → All (λ x. digit x i ≡ 0) xs → digit (combine a xs) i ≡ 0
unfolding combine
combine_digit i a [] h = digit_zero i
combine_digit i a (x ∷ xs) h =
    omega (
      arith,
      digit_add (scale (a 0) x) (combine (λ k. a (suc k)) xs) i,
      digit_scale (a 0) x i,
      ap (λ (y : ℕ). a 0 * y) h.0,
      combine_digit i (λ k. a (suc k)) xs h.1,
    )

-- THE SPAN of a list of symbols
pub record Span (ps : List ℕ) (v : ℕ) : Type 0 where
  pub by : ℕ → ℕ
  pub same : v % 729 ≡ combine by ps

pub span_combine : (a : ℕ → ℕ) (ps : List ℕ) → Span ps (combine a ps)
span_combine a ps = record { by = a; same = mod-eq_of_lt (combine_below a ps) }

module _ {ps : List ℕ} where
  pub span_add : {v w : ℕ} → Span ps v → Span ps w → Span ps (add v w)
  span_add {v} {w} s t = record {
    by = λ k. s.by k + t.by k;
    same = rests v w ∙ ap₂ add s.same t.same ∙ sym (combine_add s.by t.by ps);
  }
    where
      rests : (v w : ℕ) → add v w % 729 ≡ add (v % 729) (w % 729)
      rests v w = simp sums

  pub span_scale : (m : ℕ) {v : ℕ} → Span ps v → Span ps (scale m v)
  span_scale m {v} s = record {
    by = λ k. m * s.by k;
    same = scale_whole m v ∙ sym (scale_rest m v) ∙ ap (scale m) s.same ∙ sym (combine_scale m s.by ps);
  }

  pub span_zero : {v : ℕ} → Zero v → Span ps v
  span_zero z = record { by = λ k. 0; same = z ∙ sym (combine_none ps) }

  pub span_like : {v w : ℕ} → v % 729 ≡ w % 729 → Span ps v → Span ps w
  span_like e s = record { by = s.by; same = sym e ∙ s.same }

  -- more symbols span more
  pub span_more : (p : ℕ) {v : ℕ} → Span ps v → Span (p ∷ ps) v
  unfolding combine
  span_more p s = record { by = first 0 s.by; same = s.same ∙ sym (combine_skip 0 p s.by ps refl) }

  pub span_head : (p : ℕ) → Span (p ∷ ps) p
  unfolding combine
  span_head p = record { by = first 1 (λ k. 0); same = sym (rw (scale_one p, combine_none ps) (simp sums)) }

  -- a combination that does not use the first symbol
  pub span_tail : (p : ℕ) {v : ℕ} (s : Span (p ∷ ps) v) → s.by 0 ≈ 0 → Span ps v
  unfolding combine
  span_tail p s z = record { by = λ k. s.by (suc k); same = s.same ∙ combine_skip (s.by 0) p _ ps z }

pub span_cancel : (p : ℕ) {ps : List ℕ} {v w : ℕ} (m : ℕ) (s : Span (p ∷ ps) v) (t : Span (p ∷ ps) w)
    → s.by 0 + m * t.by 0 ≈ 0 → Span ps (add v (scale m w))
unfolding span_add span_scale
span_cancel p m s t z = span_tail p (span_add s (span_scale m t)) z

pub span_self : (ps : List ℕ) → All (Span ps) ps
span_self [] = tt
span_self (p ∷ ps) = (span_head p, all_map (λ v. span_more p) ps (span_self ps))

-- what spans the symbols that span v spans v
pub span_trans : {ps qs : List ℕ} {v : ℕ} → All (Span ps) qs → Span qs v → Span ps v
unfolding combine
span_trans {ps} {qs} {v} h s = span_like (ap (λ (x : ℕ). x % 729) (sym s.same) ∙ omega arith) (go s.by qs h)
  where
    go : (a : ℕ → ℕ) (qs : List ℕ) → All (Span ps) qs → Span ps (combine a qs)
    go a [] h = span_zero refl
    go a (q ∷ qs) h = span_add (span_scale (a 0) h.0) (go _ qs h.1)

pub span_left : {ps : List ℕ} (qs : List ℕ) {v : ℕ} → Span ps v → Span (ps ++ qs) v
span_left {ps} qs s = span_trans (go ps) s
  where
    go : (ps : List ℕ) → All (Span (ps ++ qs)) ps
    go [] = tt
    go (p ∷ ps) = (span_head p, all_map (λ v. span_more p) ps (go ps))

pub span_right : (ps : List ℕ) {qs : List ℕ} {v : ℕ} → Span qs v → Span (ps ++ qs) v
span_right [] s = s
span_right (p ∷ ps) s = span_more p (span_right ps s)

-- INDEPENDENT: no symbol lies in the span of those after it
abbrev pub Independent : List ℕ → Type 0
Independent [] = Unit {0}
Independent (x ∷ xs) = (¬ Span xs x) × Independent xs

-- a symbol with a digit that all others lack lies outside their span
pub outside : (i x : ℕ) (xs : List ℕ) → digit x i ≢ 0 → All (λ x. digit x i ≡ 0) xs → ¬ Span xs x
outside i x xs n h s = n (sym (digit_rest x i) ∙ ap (λ (v : ℕ). digit v i) s.same ∙ combine_digit i s.by xs h)

-- EXCHANGE: if u helps to span v, then v helps to span u
pub exchange : {vs : List ℕ} {u v : ℕ} → Span (u ∷ vs) v → ¬ Span vs v → Span (v ∷ vs) u
unfolding combine
exchange {vs} {u} {v} s n = go (ℕ_discrete (d % 3) 0)
  where
    d : ℕ
    d = s.by 0

    c : ℕ
    c = combine (λ k. s.by (suc k)) vs

    rest : (x : ℕ) → v % 729 ≡ add x c → add v (scale 2 c) ≡ x % 729
    rest x e = sym (rest_add v (scale 2 c)) ∙ rw e (simp sums)

    back : ¬ (d ≈ 0) → scale d (add v (scale 2 c)) % 729 ≡ u % 729
    back e =
        scale_whole d _ ∙ ap (scale d) (rest (scale d u) s.same ∙ scale_whole d u)
        ∙ scale_scale d d u ∙ scale_same (d * d) 1 u (unit d e) ∙ scale_one u

    go : Dec (d ≈ 0) → Span (v ∷ vs) u
    go (yes e) = absurd (n (span_tail u s e))
    go (no e) = span_like (back e) (span_scale d (span_add (span_head v) (span_scale 2 (span_more v (span_combine _ vs)))))
