-- A combination of the symbols of a card's transpose tells that a symbol of the card lies outside the span of those before it: it is a linear
-- function of the card's symbols that is 0 for them, and not for it.
-- Main: digit_linear, separates.
use Rattle.std.specs.Prelude.{◌≡◌, ◌≢◌, length, get_or, take}
use Rattle.std.proofs.Math.Path.{refl, sym, ap}
use Rattle.std.proofs.Common.{◌∙◌, arith}
use mathlib.Core.List.{List, [], ◌∷◌, map}
use Prim.Native.Nat.{ℕ, zero, suc, ◌+◌, ◌%◌, ◌<◌}
use Rattle.algebra.specs.Field.{add}
use Rattle.algebra.specs.Lists.{table, table_same, map_is_table}
use Rattle.algebra.specs.Tests.{tested_2}
use Rattle.algebra.specs.Digits.{digit, digit_add, digit_rest, digit_below, add_zero}
use Rattle.algebra.specs.Sums.{scale_none}
use Rattle.algebra.specs.Combinations.{combine, Span}
use Rattle.algebra.specs.Linear.{Linear, at_rest, at_combine, composed, summed, none_linear, scale_linear, computing}
use Rattle.rank.specs.Definitions.{at}
use Rattle.rank.specs.Transpose.{Transposed}

-- THE DIGITS of a symbol, and their combinations, are linear
pub digit_linear : (i : ℕ) → Linear (λ v. digit v i)
unfolding computing
digit_linear i = record {
  below = λ v. omega (arith, digit_below v i);
  sum = λ a b. digit_add a b i ∙ sym (small_add (digit a i) (digit b i) (digit_below a i) (digit_below b i));
}
  where
    small_add : (x y : ℕ) → x < 3 → y < 3 → add x y ≡ (x + y) % 3
    small_add x y p q = tested_2 3 3 add (λ a b. (a + b) % 3) refl x y p q

weighed_linear : (b s : ℕ → ℕ) (n : ℕ) → Linear (λ v. combine b (table n (λ i. digit v (s i))))
unfolding combine table
weighed_linear b s zero = none_linear
weighed_linear b s (suc n) =
    summed (composed (scale_linear (b 0)) (digit_linear (s 0))) (weighed_linear (λ k. b (suc k)) (λ i. s (suc i)) n)

-- SEPARATED: the digits of a combination w of the symbols of d are the values of c's symbols under a linear function
module _ (c d : List ℕ) (transposed : Transposed c d) (six : length d ≡ 6) (w : ℕ) (s : Span d w) where
  value : ℕ → ℕ
  value v = combine s.by (table 6 (digit v))

  digit_value : (k : ℕ) → digit w k ≡ value (at c k)
  unfolding value at
  digit_value k =
      sym (digit_rest w k) ∙ ap (λ (v : ℕ). digit v k) s.same ∙ at_combine (digit_linear k) s.by d
      ∙ ap (combine s.by) (map_is_table (λ x. digit x k) d ∙ rw six (table_same 6 _ _ (λ i l. transposed i k)))

  -- zero before digit j, and not at digit j: symbol j is outside the span of those before it
  pub separates : (j : ℕ) → ((k : ℕ) → k < j → digit w k ≡ 0) → digit w j ≢ 0 → ¬ Span (take j c) (at c j)
  unfolding value at combine
  separates j z n t =
      let l = weighed_linear s.by (λ i. i) 6 in
      n (digit_value j ∙ sym (at_rest l (at c j)) ∙ ap value t.same ∙ at_combine l t.by (take j c)
      ∙ none t.by j c (λ k h. sym (digit_value k) ∙ z k h))
    where
      none : (a : ℕ → ℕ) (j : ℕ) (c : List ℕ) → ((k : ℕ) → k < j → value (get_or c k 0) ≡ 0) → combine a (map value (take j c)) ≡ 0
      none a zero c h = refl
      none a (suc j) [] h = refl
      none a (suc j) (x ∷ c) h =
          rw (h 0 (omega arith), none (λ k. a (suc k)) j c (λ k l. h (suc k) (omega arith)))
          (ap (λ (y : ℕ). add y 0) (scale_none (a 0)) ∙ add_zero 0)
