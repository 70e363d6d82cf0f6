-- The transpose of a card has the card's rank: what spans the symbols of the one gives as many symbols that span the other.
--
-- Main: transpose_is, transposed_spans, transposed_rank, transpose_card, transpose_twice, rank_transpose.
use Rattle.std.specs.Prelude.{◌≡◌, true, length, get_or}
use Rattle.std.proofs.Math.Path.{refl}
use Rattle.std.proofs.Common.{sym, ap, ap₂, ◌∙◌, le_antisymm, arith, ext_get_or}
use mathlib.Core.List.{List, [], ◌∷◌}
use Prim.Native.Nat.{ℕ, zero, suc, ◌+◌, ◌*◌, ◌%◌, ◌≤◌, ◌<◌}
use Rattle.std.proofs.Math.Decide.{dec_lt}
use Rattle.std.proofs.Math.ListN.{get_or-eq_default}
use Rattle.algebra.specs.Field.{number_of, add, scale}
use Rattle.algebra.specs.Lists.{table, length_table, at_table, All, all_at, all_each, all_table}
use Rattle.algebra.specs.Tests.{passed, passes}
use Rattle.algebra.specs.Digits.{digit, number_below, digit_number, digit_add, digit_scale, digit_zero, digit_rest, digit_below, by_digits}
use Rattle.algebra.specs.Combinations.{combine, combine_none, combine_same, combine_add, combine_scale, Span, span_zero}
use Rattle.algebra.specs.Linear.{combination, basis, in_basis}
use Rattle.rank.specs.Definitions.{at, rank, is_card}
use Rattle.rank.specs.Clearing.{digit_past}
use Rattle.rank.specs.Echelon.{rank_echelon, rank_least}

-- TRANSPOSED: digit j of symbol i is digit i of symbol j
abbrev pub Transposed : (c d : List ℕ) → Type 0
Transposed c d = (i j : ℕ) → digit (at d i) j ≡ digit (at c j) i

-- digit i of each symbol, as a symbol
unfoldable pub digit_row : (c : List ℕ) → (i : ℕ) → ℕ
digit_row c i = number_of (table 6 (λ j. digit (at c j) i))

unfoldable pub transpose : List ℕ → List ℕ
transpose c = table 6 (digit_row c)

row_below : (c : List ℕ) (i : ℕ) → digit_row c i < 729
unfolding digit_row
row_below c i = number_below (λ j. digit (at c j) i)

pub transpose_is : (c : List ℕ) → length c ≡ 6 → Transposed c (transpose c)
unfolding transpose digit_row at
transpose_is c e i j = go (dec_lt i 6) (dec_lt j 6)
  where
    go : Dec (i < 6) → Dec (j < 6) → digit (get_or (table 6 (digit_row c)) i 0) j ≡ digit (get_or c j 0) i
    go (no n) q =
        ap (λ (v : ℕ). digit v j) (get_or-eq_default (table 6 (digit_row c)) 0 {n = i} (omega (arith, length_table 6 (digit_row c))))
        ∙ digit_zero j ∙ sym (digit_past _ i (omega arith))
    go (yes p) (no n) =
        digit_past _ j (omega arith) ∙ sym (ap (λ (v : ℕ). digit v i) (get_or-eq_default c 0 {n = j} (omega arith)) ∙ digit_zero i)
    go (yes p) (yes q) =
        ap (λ (v : ℕ). digit v j) (at_table 6 (digit_row c) i p)
        ∙ digit_number (λ k. digit (at c k) i) (λ k. digit_below (at c k) i) j q

-- SPANNED: if the symbols of d are combinations of t symbols, those of c are too
swap : (C : ℕ → ℕ → ℕ) (j : ℕ) (ws qs : List ℕ)
    → combine (λ i. digit (combine (C i) qs) j) ws ≡ combine (λ k. digit (get_or qs k 0) j) (table (length qs) (λ k. combine (λ i. C i k) ws))
unfolding combine table
swap C j ws [] = combine_same _ (λ i. 0) ws (λ i. omega (arith, digit_zero j)) ∙ combine_none ws
swap C j ws (q ∷ qs) =
    combine_same _ (λ i. digit q j * C i 0 + digit (combine (λ k. C i (suc k)) qs) j) ws
    (λ i. omega (arith, digit_add (scale (C i 0) q) (combine (λ k. C i (suc k)) qs) j, digit_scale (C i 0) q j))
    ∙ combine_add (λ i. digit q j * C i 0) _ ws ∙ ap₂ add (combine_scale (digit q j) (λ i. C i 0) ws) (swap (λ i k. C i (suc k)) j ws qs)

module _ (c d : List ℕ) (transposed : Transposed c d) where
  pub transposed_spans : (qs : List ℕ) → All (Span qs) d → (ps : List ℕ) × (length ps ≡ length qs) × All (Span ps) c
  unfolding at combination
  transposed_spans qs h = (ps, length_table (length qs) _, all_each (Span ps) 0 c (λ j l. one j))
    where
      some : (d : List ℕ) → All (Span qs) d → (i : ℕ) → Span qs (get_or d i 0)
      some [] h i = span_zero refl
      some (x ∷ d) h zero = h.0
      some (x ∷ d) h (suc i) = some d h.1 i

      C : ℕ → ℕ → ℕ
      C i = (some d h i).by

      ps : List ℕ
      ps = table (length qs) (λ k. combine (λ i. C i k) basis)

      one : (j : ℕ) → Span ps (get_or c j 0)
      one j = record {
        by = λ k. digit (get_or qs k 0) j;
        same =
            in_basis (get_or c j 0)
            ∙ combine_same _ _ basis (λ i. ap (λ (x : ℕ). x % 3)
            (sym (transposed i j) ∙ sym (digit_rest (get_or d i 0) j) ∙ ap (λ (v : ℕ). digit v j) (some d h i).same))
            ∙ swap C j basis qs;
      }

  transposed_le : rank c ≤ rank d
  transposed_le =
      let t = rank_echelon d in
      let s = transposed_spans t.by t.spans in
      omega (arith, t.count, s.1, rank_least c s.0 s.2)

-- THE RANK of the transpose
pub transposed_rank : (c d : List ℕ) → Transposed c d → rank d ≡ rank c
transposed_rank c d t = le_antisymm (transposed_le d c (λ i j. sym (t j i))) (transposed_le c d t)

-- THE TRANSPOSE is a card, and its transpose is the card
pub transpose_card : (c : List ℕ) → is_card (transpose c) ≡ true
unfolding is_card transpose
transpose_card c = passes 6 728 (transpose c) (length_table 6 _) (all_table (λ x. x < 729) 6 (digit_row c) (row_below c))

pub transpose_twice : (c : List ℕ) → is_card c ≡ true → transpose (transpose c) ≡ c
unfolding is_card at
transpose_twice c u =
    let (e, h) = passed 6 728 c u in
    let (f, k) = passed 6 728 (transpose (transpose c)) (transpose_card (transpose c)) in
    let t = (passed 6 728 (transpose c) (transpose_card c)).0 in
    ext_get_or 0 _ _ (f ∙ sym e) (λ i l.
    let v = all_at (λ x. x < 729) 0 (transpose (transpose c)) k i l in
    let w = all_at (λ x. x < 729) 0 c h i (omega arith) in
    by_digits v w (λ j. transpose_is (transpose c) t i j ∙ transpose_is c e j i))

pub rank_transpose : (c : List ℕ) → length c ≡ 6 → rank (transpose c) ≡ rank c
rank_transpose c e = transposed_rank c (transpose c) (transpose_is c e)
