-- Clearing: a symbol less the multiple of another that leaves digit i zero, on symbols and on their columns of digits. Cleared digit by
-- digit a symbol becomes zero, and clearing keeps what lies in a span.
-- Main: clear, subtract_digits, columns_clear, zero_before_clear, zero_before_all, span_clear, span_unclear.
use Rattle.std.specs.Prelude.{◌≡◌, refl, ◌≢◌, List, [], ◌∷◌, map, ℕ, suc, ◌+◌, ◌*◌, ◌%◌, ◌≤◌, ◌<◌}
use Rattle.std.proofs.Common.{sym, ap, ◌∙◌, mod-lt, arith, lit<}
use Rattle.std.proofs.Math.Decide.{dec_lt}
use Rattle.std.proofs.Math.ListN.{get_or-eq_default}
use Rattle.algebra.specs.Field.{digits, digits_of, add, added, scale, scaled}
use Rattle.algebra.specs.Lists.{cons}
use Rattle.algebra.specs.Mod3.{clears}
use Rattle.algebra.specs.Digits.{digits_add, digits_scale, digit, digit_add, digit_scale, digit_rest, digit_zero, digit_below, by_digits}
use Rattle.algebra.specs.Sums.{Zero}
use Rattle.algebra.specs.Combinations.{Span, span_add, span_scale, span_more, span_head}
use Rattle.rank.specs.Definitions.{columns, subtract, cleared}
use Rattle.rank.specs.Dimension.{span_less}

-- digit i of c is cleared by p
unfoldable pub clear : (i p c : ℕ) → ℕ
clear i p c = add c (scale (2 * (digit c i * digit p i % 3)) p)

-- IN COLUMNS of digits
subtract_is : (d : ℕ) (xs ys : List ℕ) → subtract d xs ys ≡ added xs (scaled (2 * d) ys)
unfolding subtract added scaled
subtract_is d [] ys = refl
subtract_is d (x ∷ xs) [] = refl
subtract_is d (x ∷ xs) (y ∷ ys) = cons (omega arith) (subtract_is d xs ys)

pub subtract_digits : (d c p : ℕ) → subtract d (digits c) (digits p) ≡ digits (add c (scale (2 * d) p))
subtract_digits d c p =
    subtract_is d (digits c) (digits p) ∙ sym (digits_add c (scale (2 * d) p) ∙ ap (added (digits c)) (digits_scale (2 * d) p))

pub columns_clear : (i p : ℕ) (cs : List ℕ) → cleared i (digits p) (columns cs) ≡ columns (map (clear i p) cs)
unfolding cleared columns clear
columns_clear i p [] = refl
columns_clear i p (c ∷ cs) = cons (subtract_digits _ c p) (columns_clear i p cs)

-- past the sixth a symbol has no digit
pub digit_past : (v j : ℕ) → 6 ≤ j → digit v j ≡ 0
unfolding digits digits_of
digit_past v j h = get_or-eq_default (digits v) 0 {n = j} h

-- ZERO IN ALL DIGITS BEFORE i
abbrev pub ZeroBefore : (i c : ℕ) → Type 0
ZeroBefore i c = (j : ℕ) → j < i → digit c j ≡ 0

pub zero_before_next : (i c : ℕ) → ZeroBefore i c → digit c i ≡ 0 → ZeroBefore (suc i) c
zero_before_next i c h z j l = go (dec_lt j i)
  where
    go : Dec (j < i) → digit c j ≡ 0
    go (yes b) = h j b
    go (no n) = let e : j ≡ i = omega arith in rw e z

pub zero_before_all : (c : ℕ) → ZeroBefore 6 c → Zero c
zero_before_all c h = by_digits (mod-lt c (lit< tt)) (lit< tt) (λ j. digit_rest c j ∙ go j (dec_lt j 6) ∙ sym (digit_zero j))
  where
    go : (j : ℕ) → Dec (j < 6) → digit c j ≡ 0
    go j (yes b) = h j b
    go j (no n) = digit_past c j (omega arith)

pub zero_before_clear : (i p c : ℕ) → digit p i ≢ 0 → ZeroBefore i p → ZeroBefore i c → ZeroBefore (suc i) (clear i p c)
unfolding clear
zero_before_clear i p c nz u h = zero_before_next i _
    (λ j l. omega (arith, at j, h j l, ap (λ (x : ℕ). 2 * (digit c i * digit p i % 3) * x) (u j l)))
    (omega (arith, at i, clears (digit c i) (digit p i) (omega (arith, digit_below p i))))
  where
    at : (j : ℕ) → digit (clear i p c) j ≡ (digit c j + 2 * (digit c i * digit p i % 3) * digit p j) % 3
    at j = omega (arith, digit_add c (scale (2 * (digit c i * digit p i % 3)) p) j, digit_scale (2 * (digit c i * digit p i % 3)) p j)

-- IN SPANS
pub span_clear : (i p c : ℕ) {ps : List ℕ} → Span ps p → Span ps c → Span ps (clear i p c)
unfolding clear
span_clear i p c s t = span_add t (span_scale _ s)

pub span_unclear : (i p c : ℕ) {ps : List ℕ} → Span ps (clear i p c) → Span (p ∷ ps) c
unfolding clear
span_unclear i p c s = span_less (2 * (digit c i * digit p i % 3)) (span_head p) (span_more p s)
