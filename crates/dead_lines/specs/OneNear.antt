-- At most one message is near a card with dead lines: two words differ by what is left of their differences to the card, and by as many symbols
-- more as there are dead lines.
-- Main: dropped, kept_dropped, span_each, picked, picked_length, picked_span, dropped_span, difference_at, blanked_live, left_at, apart_struck,
-- one_near_dead.
use Rattle.std.specs.Prelude.{◌≡◌, refl, ◌≢◌, Bool, true, false, cond, List, [], ◌∷◌, ◌++◌, map, ℕ, zero, suc, ◌+◌, ◌*◌, ◌-◌, ◌%◌, ◌≤◌, ◌<◌, eqb, length, get_or}
use Rattle.std.proofs.Math.Path.{sym}
use Rattle.std.proofs.Common.{ap, ◌∙◌, zero-add, add-zero, eqb-true, ne_eqb}
use Rattle.std.proofs.Math.Decide.{ℕ_discrete}
use native.Mathlib.Omega.{arith}
use Rattle.std.proofs.Math.ListN.{length-append, get_or-map}
use Rattle.std.proofs.lemmas.Bool.{eqb-false}
use Rattle.algebra.specs.Field.{add, scale, minus}
use Rattle.algebra.specs.Lists.{All, all_each}
use Rattle.algebra.specs.Mod3.{◌≈◌}
use Rattle.algebra.specs.Digits.{digit, digit_zero, scale_same, scale_zero}
use Rattle.algebra.specs.Tests.{passed}
use Rattle.algebra.specs.Sums.{sums, rest_rest, minus_self}
use Rattle.algebra.specs.Combinations.{combine, combine_add, combine_same, combine_none}
use Rattle.algebra.specs.Combinations.{Span, span_zero, span_add, span_scale, span_like, span_left, span_right, span_head, span_more}
use Rattle.algebra.specs.Linear.{combination, basis, in_basis}
use Rattle.rank.specs.Definitions.{is_card, difference, apart}
use Rattle.rank.specs.Echelon.{rank_echelon, rank_least}
use Rattle.rank.specs.Mask.{ones}
use Rattle.coding.specs.Code.{word}
use Rattle.coding.specs.Coefficients.{word_long}
use Rattle.coding.specs.Apart.{same_message}
use Rattle.dead_lines.specs.Struck.{bit, dead_lines, live_rank, OneNearDead}
use Rattle.dead_lines.specs.Blanked.{kept, blanked, blanked_at, kept_combine, struck_rank}

-- THE DIGITS IN DEAD ROWS: a symbol is those that are kept, and these
unfoldable pub dropped : (rows v : ℕ) → ℕ
dropped ρ v = combine (λ i. bit ρ i * digit v i) basis

pub kept_dropped : (ρ v : ℕ) → v % 729 ≡ add (kept ρ v) (dropped ρ v)
unfolding dropped combination bit
kept_dropped ρ v = rw (kept_combine ρ v) (in_basis v ∙ combine_same _ _ basis (λ i. go (bit ρ i) (digit v i) (omega arith)) ∙ combine_add _ _ basis)
  where
    go : (b d : ℕ) → b ≤ 1 → d ≈ ((1 - b) * d + b * d)
    go zero d h = omega arith
    go (suc zero) d h = omega arith
    go (suc (suc b)) d h = absurd (omega arith)

-- A COMBINATION lies in a span if each symbol that it uses does
pub span_each : (ps : List ℕ) (a : ℕ → ℕ) (xs : List ℕ) → ((i : ℕ) → i < length xs → ¬ (a i ≈ 0) → Span ps (get_or xs i 0)) → Span ps (combine a xs)
unfolding combine
span_each ps a [] h = span_zero refl
span_each ps a (x ∷ xs) h =
    span_add (go (ℕ_discrete (a 0 % 3) 0)) (span_each ps (λ i. a (suc i)) xs (λ i l. h (suc i) (omega arith)))
  where
    go : Dec (a 0 ≈ 0) → Span ps (scale (a 0) x)
    go (yes z) = span_zero (ap (λ (y : ℕ). y % 729) (scale_same (a 0) 0 x z ∙ scale_zero x))
    go (no n) = span_scale (a 0) (h 0 (omega arith) n)

-- THE ENTRIES OF DEAD LINES of a list; its first entry is that of line i
unfoldable pub picked : (i mask : ℕ) → List ℕ → List ℕ
picked i mask [] = []
picked i mask (x ∷ xs) = cond (eqb (bit mask i) 0) (picked (suc i) mask xs) (x ∷ picked (suc i) mask xs)

pub picked_length : (i mask : ℕ) (xs : List ℕ) → length (picked i mask xs) ≡ ones (length xs) i mask
unfolding picked ones bit
picked_length i mask [] = refl
picked_length i mask (x ∷ xs) = go (eqb (bit mask i) 0) refl (picked_length (suc i) mask xs)
  where
    go : (b : Bool) → eqb (bit mask i) 0 ≡ b → length (picked (suc i) mask xs) ≡ ones (length xs) (suc i) mask
        → length (cond b (picked (suc i) mask xs) (x ∷ picked (suc i) mask xs)) ≡ bit mask i + ones (length xs) (suc i) mask
    go true e h = omega (arith, eqb-true (bit mask i) 0 e)
    go false e h = omega (arith, eqb-false (bit mask i) 0 e)

pub picked_span : (mask : ℕ) (xs : List ℕ) (j : ℕ) → bit mask j ≢ 0 → Span (picked 0 mask xs) (get_or xs j 0)
unfolding picked
picked_span mask xs j n = go 0 xs j (rw (zero-add j) n)
  where
    go : (i : ℕ) (xs : List ℕ) (j : ℕ) → bit mask (i + j) ≢ 0 → Span (picked i mask xs) (get_or xs j 0)
    go i [] j n = span_zero refl
    go i (x ∷ xs) zero n = rw (ne_eqb (bit mask i) 0 (rw (add-zero i) at n)) (span_head x)
    go i (x ∷ xs) (suc j) n = let e : i + suc j ≡ suc i + j = omega arith in more (eqb (bit mask i) 0) (go (suc i) xs j (rw e at n))
      where
        more : (b : Bool) → Span (picked (suc i) mask xs) (get_or xs j 0) → Span (cond b (picked (suc i) mask xs) (x ∷ picked (suc i) mask xs)) (get_or xs j 0)
        more true s = s
        more false s = span_more x s

pub dropped_span : (ρ v : ℕ) → Span (picked 0 ρ basis) (dropped ρ v)
unfolding dropped
dropped_span ρ v =
    span_each (picked 0 ρ basis) _ basis (λ i l n. picked_span ρ basis i (λ z. n (ap (λ (b : ℕ). b * digit v i % 3) z ∙ omega arith)))

-- PLACES of a difference, and of what is left of it
pub difference_at : (c d : List ℕ) → length c ≡ length d → (i : ℕ) → get_or (difference c d) i 0 ≡ minus (get_or c i 0) (get_or d i 0)
unfolding difference
difference_at [] [] e i = sym (minus_self 0)
difference_at [] (y ∷ d) e i = absurd (omega arith)
difference_at (x ∷ c) [] e i = absurd (omega arith)
difference_at (x ∷ c) (y ∷ d) e zero = refl
difference_at (x ∷ c) (y ∷ d) e (suc i) = difference_at c d (omega arith) i

pub difference_length : (c d : List ℕ) → length c ≡ length d → length (difference c d) ≡ length c
unfolding difference
difference_length [] d e = refl
difference_length (x ∷ c) [] e = absurd (omega arith)
difference_length (x ∷ c) (y ∷ d) e = ap suc (difference_length c d (omega arith))

kept_none : (ρ : ℕ) → kept ρ 0 ≡ 0
kept_none ρ = kept_combine ρ 0 ∙ combine_same _ (λ i. 0) basis (λ i. ap (λ (d : ℕ). (1 - bit ρ i) * d % 3) (digit_zero i) ∙ omega arith) ∙ combine_none basis

pub blanked_live : (ρ σ : ℕ) (xs : List ℕ) (i : ℕ) → bit σ i ≡ 0 → get_or (blanked ρ σ xs) i 0 ≡ kept ρ (get_or xs i 0)
unfolding blanked
blanked_live ρ σ xs i z =
    blanked_at σ (map (kept ρ) xs) i ∙ rw z (omega arith)
    ∙ ap (get_or (map (kept ρ) xs) i) (sym (kept_none ρ)) ∙ get_or-map (kept ρ) xs i 0

-- a live column of a difference lies, kept, in the span of what is left of it
pub left_at : (ρ σ : ℕ) (a b : List ℕ) → length a ≡ length b → (i : ℕ) → bit σ i ≡ 0
    → Span (rank_echelon (blanked ρ σ (difference a b))).by (kept ρ (minus (get_or a i 0) (get_or b i 0)))
left_at ρ σ a b e i z =
    let t = rank_echelon (blanked ρ σ (difference a b)) in
    rw (blanked_live ρ σ (difference a b) i z, difference_at a b e i) at (anywhere t.by (blanked ρ σ (difference a b)) t.spans i)
  where
    anywhere : (ps xs : List ℕ) → All (Span ps) xs → (i : ℕ) → Span ps (get_or xs i 0)
    anywhere ps [] h i = span_zero refl
    anywhere ps (x ∷ xs) h zero = h.0
    anywhere ps (x ∷ xs) h (suc i) = anywhere ps xs h.1 i

-- TWO CARDS AND A THIRD: they are as far apart as what is left of their differences to it, and the dead lines, allow
module _ (ρ σ : ℕ) (c d e : List ℕ) (lc : length c ≡ 6) (ld : length d ≡ 6) (le : length e ≡ 6) where
  abbrev ps : List ℕ
  ps = (rank_echelon (blanked ρ σ (difference c e))).by

  abbrev qs : List ℕ
  qs = (rank_echelon (blanked ρ σ (difference d e))).by

  abbrev rs : List ℕ
  rs = picked 0 ρ basis

  abbrev ss : List ℕ
  ss = picked 0 σ (difference c d)

  abbrev every_part : List ℕ
  every_part = (ps ++ qs) ++ (rs ++ ss)

  -- a symbol is what is kept of it, and its digits in dead rows
  whole : {v : ℕ} → Span (ps ++ qs) (kept ρ v) → Span every_part v
  whole {v} s =
      span_like (ap (λ (w : ℕ). w % 729) (sym (kept_dropped ρ v)) ∙ rest_rest v)
      (span_add (span_left (rs ++ ss) s) (span_right (ps ++ qs) (span_left ss (dropped_span ρ v))))

  column : (i : ℕ) → Span every_part (get_or (difference c d) i 0)
  column i = elim (ℕ_discrete (bit σ i) 0) [
    | yes z ↦ rw (difference_at c d (lc ∙ sym ld) i) (span_like (through (get_or c i 0) (get_or d i 0) (get_or e i 0)) (span_add
        (whole (span_left qs (left_at ρ σ c e (lc ∙ sym le) i z)))
        (span_scale 2 (whole (span_right ps (left_at ρ σ d e (ld ∙ sym le) i z))))))
    | no n ↦ span_right (ps ++ qs) (span_right rs (picked_span σ (difference c d) i n))
  ]
    where
      through : (x y z : ℕ) → add (minus x z) (scale 2 (minus y z)) % 729 ≡ minus x y % 729
      through x y z = simp sums

  pub apart_struck : apart c d ≤ live_rank ρ σ c e + live_rank ρ σ d e + dead_lines ρ + dead_lines σ
  unfolding apart live_rank dead_lines
  apart_struck =
      omega (
        arith,
        rank_least (difference c d) every_part (all_each (Span every_part) 0 (difference c d) (λ i l. column i)),
        length-append (ps ++ qs) (rs ++ ss),
        length-append ps qs,
        length-append rs ss,
        picked_length 0 ρ basis,
        (rw (difference_length c d (lc ∙ sym ld), lc) at (picked_length 0 σ (difference c d))),
        (rank_echelon (blanked ρ σ (difference c e))).count,
        (rank_echelon (blanked ρ σ (difference d e))).count,
        struck_rank ρ σ (difference c e),
        struck_rank ρ σ (difference d e),
      )

-- AT MOST ONE MESSAGE IS NEAR
pub one_near_dead : OneNearDead
unfolding OneNearDead is_card
one_near_dead k ρ σ c m n p q card a b =
    same_message k p q m n a.message b.message
    (omega (arith, a.within, b.within, apart_struck ρ σ (word k m) (word k n) c (word_long k m) (word_long k n) (passed 6 728 c card).0))
