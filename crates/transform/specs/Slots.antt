-- The test values by packed digits: two to a number, a slot, which is linear in the card's symbols. Slot j for k has the values at places
-- 8 - 2j and 9 - 2j of ten, the first of k's values being at place 2k - 2.
-- Main: slot_map, slot_mapped, places, places_are.
use Rattle.std.specs.Prelude.{◌≡◌, Bool, true, false, cond, List, [], ◌∷◌, ◌++◌, ltb, eqb, get_or, drop}
use Rattle.std.proofs.Math.Path.{refl, ap}
use Rattle.std.proofs.Common.{sym, ap₂, ◌∙◌, mod-eq_of_lt, lit<, le-ltb, eq-eqb, ne_eqb}
use Prim.Native.Nat.{ℕ, zero, suc, ◌+◌, ◌*◌, ◌-◌, ◌/◌, ◌%◌, ◌≤◌, ◌<◌}
use native.Mathlib.Omega.{arith}
use Rattle.algebra.specs.Field.{add, times, risen, small_of, gamma}
use Rattle.algebra.specs.Lists.{cons, table, table_same, at_table}
use Rattle.algebra.specs.Tests.{every, tested_2, one_to_five}
use Rattle.algebra.specs.Digits.{add_zero}
use Rattle.algebra.specs.Sums.{add_swap}
use Rattle.algebra.specs.Linear.{Linear, at_zero, composed, summed, none_linear, combination, combination_linear, computing, agree}
use Rattle.algebra.specs.Products.{left, right, times_assoc, risen_linear}
use Rattle.algebra.specs.SmallField.{low}
use Rattle.algebra.proofs.SmallField.{low_linear, low_below, fixed_small, small_back}
use Rattle.algebra.specs.Totals.{total, total_same, total_none}
use Rattle.rank.specs.Definitions.{at}
use Rattle.coding.specs.Code.{trace, P, pairs_from, test_values}
use Rattle.coding.specs.Spectrum.{delta, risen_delta, spectrum}
use Rattle.coding.specs.Mu.{mu, P_mu}
use Rattle.coding.specs.Traces.{trace_linear}
use Rattle.transform.specs.Packed.{bounded, symbols_of}
use Rattle.transform.specs.Counts.{coefficient_sums, counts, computing_rows, mapped}

-- TRACES as small numbers are linear
trace_fixed : (v : ℕ) → risen 3 (trace v) ≡ trace v
unfolding computing trace
trace_fixed = agree (composed (risen_linear 2) trace_linear) trace_linear refl

small_trace : (v : ℕ) → small_of (trace v) ≡ low (trace v)
small_trace v =
    let f = fixed_small (trace v) (trace_fixed v) ∙ mod-eq_of_lt (trace_linear.below v) in
    ap small_of (sym f) ∙ small_back (low (trace v)) (low_below (trace v))

unfoldable pub trace_number : (v : ℕ) → ℕ
trace_number = combination (2 ∷ 5 ∷ 16 ∷ 4 ∷ 21 ∷ 10 ∷ [])

trace_number_linear : Linear trace_number
unfolding trace_number
trace_number_linear = combination_linear (2 ∷ 5 ∷ 16 ∷ 4 ∷ 21 ∷ 10 ∷ [])

trace_number_low : (v : ℕ) → trace_number v ≡ low (trace v)
unfolding computing low trace trace_number
trace_number_low = agree trace_number_linear (composed low_linear trace_linear) refl

trace_number_is : (v : ℕ) → trace_number v ≡ small_of (trace v)
trace_number_is v = trace_number_low v ∙ sym (small_trace v)

trace_number_below : (v : ℕ) → trace_number v < 27
trace_number_below v = omega (arith, trace_number_low v, low_below (trace v))

-- TWO SMALL NUMBERS as one: the second in the upper digits
unfoldable pub upper : (q : ℕ) → ℕ
upper = combination (27 ∷ 81 ∷ 243 ∷ [])

upper_linear : Linear upper
unfolding upper
upper_linear = combination_linear (27 ∷ 81 ∷ 243 ∷ [])

joined_test : every 27 (λ p. every 27 (λ q. eqb (add p (upper q)) (p + 27 * q))) ≡ true
unfolding computing upper
joined_test = refl

joined : (p q : ℕ) → p < 27 → q < 27 → add p (upper q) ≡ p + 27 * q
joined = tested_2 27 27 (λ p q. add p (upper q)) (λ p q. p + 27 * q) joined_test

-- THE FACTORS: xi and its 3^j-th powers, which come round after six
unfoldable pub xi : (j : ℕ) → ℕ
xi j = get_or (377 ∷ 398 ∷ 410 ∷ 174 ∷ 307 ∷ 519 ∷ []) (j % 6) 0

xi_table : (k : ℕ) → 1 ≤ k → k ≤ 5 → table 6 (λ i. risen i (risen (6 - k) 377)) ≡ table 6 (λ i. xi (6 - k + i))
unfolding computing table xi
xi_table = one_to_five _ refl refl refl refl refl

xi_is : (k : ℕ) → 1 ≤ k → k ≤ 5 → (i : ℕ) → i < 6 → xi (6 - k + i) ≡ risen i (risen (6 - k) 377)
xi_is k p q i h = sym (at_table 6 _ i h) ∙ ap (λ (l : List ℕ). get_or l i 0) (sym (xi_table k p q)) ∙ at_table 6 _ i h

-- gamma and its 3^j-th powers, and those of delta
unfoldable pub gamma_power : (j : ℕ) → ℕ
gamma_power j = get_or (3 ∷ 27 ∷ 93 ∷ 655 ∷ 702 ∷ 593 ∷ []) j 0

gamma_is : (k : ℕ) → 1 ≤ k → k ≤ 5 → gamma_power (6 - k) ≡ risen (6 - k) gamma
unfolding computing gamma_power
gamma_is = one_to_five _ refl refl refl refl refl

unfoldable pub delta_power : (s i : ℕ) → ℕ
delta_power s i = get_or (
    396 ∷ 420 ∷ 500 ∷ 677 ∷ 61 ∷ 319
    ∷ 408 ∷ 35 ∷ 332 ∷ 499 ∷ 241 ∷ 640
    ∷ 175 ∷ 149 ∷ 378 ∷ 331 ∷ 261 ∷ 209
    ∷ 308 ∷ 588 ∷ 268 ∷ 380 ∷ 678 ∷ 448
    ∷ 520 ∷ 58 ∷ 652 ∷ 267 ∷ 527 ∷ 117
    ∷ 375 ∷ 214 ∷ 675 ∷ 651 ∷ 416 ∷ 550
    ∷ []) (6 * i + s) 0

delta_test : every 6 (λ i. every 6 (λ s. eqb (delta_power s i) (risen_delta s i))) ≡ true
unfolding computing delta_power risen_delta delta at
delta_test = refl

spectrum_is : (c : List ℕ) (i : ℕ) → i < 6 → total 6 0 (λ s. times (get_or c s 0) (delta_power s i)) ≡ spectrum c i
unfolding spectrum at
spectrum_is c i h = total_same 6 0 _ _ (λ s p q. ap (times (get_or c s 0)) (tested_2 6 6 (λ i s. delta_power s i) (λ i s. risen_delta s i) delta_test i s h (omega arith)))

-- a slot's two coefficients of the spectrum, and the factor of the first
unfoldable pub low_index : (k j : ℕ) → ℕ
low_index k j = cond (eqb (j + k) 5) 0 (5 - j)

unfoldable pub low_factor : (k j : ℕ) → ℕ
low_factor k j = times (cond (eqb (j + k) 5) (gamma_power (6 - k)) gamma) (xi (6 - k + low_index k j))

unfoldable pub high_index : (k j : ℕ) → ℕ
high_index k j = cond (eqb j 0) k (6 - j)

unfoldable pub two_traces : (f a g b : ℕ) → ℕ
two_traces f a g b = add (trace_number (times f a)) (upper (trace_number (times g b)))

unfoldable pub slot_map : (k s j x : ℕ) → ℕ
slot_map k s j x = cond (ltb 5 (j + k)) 0
    (two_traces (low_factor k j) (times x (delta_power s (low_index k j))) (xi (6 - k + high_index k j)) (times x (delta_power s (high_index k j))))

unfoldable pub slot : (k : ℕ) → (card : List ℕ) → (j : ℕ) → ℕ
slot k c j = cond (ltb 5 (j + k)) 0
    (two_traces (low_factor k j) (spectrum c (low_index k j)) (xi (6 - k + high_index k j)) (spectrum c (high_index k j)))

chosen : {f : ℕ → ℕ} (b : Bool) → Linear f → Linear (λ x. cond b 0 (f x))
chosen true l = none_linear
chosen false l = l

low_part : (f : ℕ) → Linear (λ a. trace_number (times f a))
low_part f = composed trace_number_linear (right f)

high_part : (g : ℕ) → Linear (λ b. upper (trace_number (times g b)))
high_part g = composed upper_linear (low_part g)

slot_linear : (k s j : ℕ) → Linear (slot_map k s j)
unfolding slot_map two_traces
slot_linear k s j = chosen (ltb 5 (j + k))
    (summed (composed (low_part (low_factor k j)) (left (delta_power s (low_index k j)))) (composed (high_part (xi (6 - k + high_index k j))) (left (delta_power s (high_index k j)))))

-- all that a computed test of slots opens
unfoldable pub computing_slots : ℕ
unfolding computing_rows slot_map two_traces low_factor low_index high_index xi gamma_power delta_power upper trace_number
computing_slots = 0

fits : (k : ℕ) → 1 ≤ k → k ≤ 5 → bounded 63 (coefficient_sums (slot_map k) 6 0) ≡ true
unfolding computing_slots
fits = one_to_five _ refl refl refl refl refl

-- SUMS of slots are slots of sums
two_total : (f g : ℕ) (a b : ℕ → ℕ) (n s : ℕ) → total n s (λ i. two_traces f (a i) g (b i)) ≡ two_traces f (total n s a) g (total n s b)
unfolding total two_traces
two_total f g a b zero s = sym (ap₂ add (at_zero (low_part f)) (at_zero (high_part g)) ∙ add_zero 0)
two_total f g a b (suc n) s =
    ap (add _) (two_total f g a b n (suc s)) ∙ add_swap _ _ _ _
    ∙ ap₂ add (sym ((low_part f).sum (a s) (total n (suc s) a))) (sym ((high_part g).sum (b s) (total n (suc s) b)))

low_index_below : (k j : ℕ) → low_index k j < 6
unfolding low_index
low_index_below k j = go (eqb (j + k) 5)
  where
    go : (b : Bool) → cond b 0 (5 - j) < 6
    go true = lit< tt
    go false = omega arith

high_index_below : (k j : ℕ) → k ≤ 5 → high_index k j < 6
unfolding high_index
high_index_below k zero h = omega arith
high_index_below k (suc j) h = rw (ne_eqb (suc j) 0 (λ e. omega arith)) (omega arith)

slot_total : (k : ℕ) → k ≤ 5 → (c : List ℕ) (j : ℕ) → total 6 0 (λ s. slot_map k s j (get_or c s 0)) ≡ slot k c j
unfolding slot_map slot
slot_total k h c j = go (ltb 5 (j + k))
  where
    f : ℕ
    f = low_factor k j

    g : ℕ
    g = xi (6 - k + high_index k j)

    at_low : ℕ → ℕ
    at_low s = times (get_or c s 0) (delta_power s (low_index k j))

    at_high : ℕ → ℕ
    at_high s = times (get_or c s 0) (delta_power s (high_index k j))

    go : (b : Bool) → total 6 0 (λ s. cond b 0 (two_traces f (at_low s) g (at_high s))) ≡ cond b 0 (two_traces f (spectrum c (low_index k j)) g (spectrum c (high_index k j)))
    go true = total_none 6 0 _ (λ i p q. refl)
    go false = two_total f g at_low at_high 6 0
        ∙ ap₂ (λ (a b : ℕ). two_traces f a g b) (spectrum_is c (low_index k j) (low_index_below k j)) (spectrum_is c (high_index k j) (high_index_below k j h))

pub slot_mapped : (k : ℕ) → 1 ≤ k → k ≤ 5 → (c : List ℕ) → symbols_of (counts (slot_map k) c 6) ≡ table 6 (slot k c)
slot_mapped k p q c = mapped (slot_map k) c (slot_linear k) 6 (fits k p q) ∙ table_same 6 _ _ (λ j h. slot_total k q c j)

-- THE TWO VALUES of a slot
two_is : (f a g b : ℕ) → two_traces f a g b ≡ small_of (trace (times f a)) + 27 * small_of (trace (times g b))
unfolding two_traces
two_is f a g b =
    joined _ _ (trace_number_below (times f a)) (trace_number_below (times g b))
    ∙ ap₂ (λ (p q : ℕ). p + 27 * q) (trace_number_is (times f a)) (trace_number_is (times g b))

two_low : (f a g b : ℕ) → two_traces f a g b % 27 ≡ small_of (trace (times f a))
two_low f a g b = omega (arith, two_is f a g b, trace_number_is (times f a), trace_number_below (times f a))

two_high : (f a g b : ℕ) → two_traces f a g b / 27 ≡ small_of (trace (times g b))
two_high f a g b = omega (arith, two_is f a g b, trace_number_is (times f a), trace_number_below (times f a))

module _ (k : ℕ) (p : 1 ≤ k) (q : k ≤ 5) (c : List ℕ) where
  weighted_is : (i : ℕ) → i < 6 → times (xi (6 - k + i)) (spectrum c i) ≡ P i (mu k) c
  weighted_is i h = ap (λ (x : ℕ). times x (spectrum c i)) (xi_is k p q i h) ∙ sym (P_mu k i c)

  slot_is : (j : ℕ) → j + k ≤ 5 → slot k c j ≡ two_traces (low_factor k j) (spectrum c (low_index k j)) (xi (6 - k + high_index k j)) (spectrum c (high_index k j))
  unfolding slot
  slot_is j h = rw (le-ltb 5 (j + k) h)

  low_first : (j : ℕ) → j + k ≡ 5 → slot k c j % 27 ≡ small_of (trace (times (risen (6 - k) gamma) (P 0 (mu k) c)))
  unfolding low_factor low_index
  low_first j h =
      ap (λ (n : ℕ). n % 27) (slot_is j (omega arith)) ∙ two_low _ _ _ _
      ∙ rw (eq-eqb (j + k) 5 h, gamma_is k p q) (ap (λ (x : ℕ). small_of (trace x)) (times_assoc _ _ _ ∙ ap (times (risen (6 - k) gamma)) (weighted_is 0 (omega arith))))

  low_pair : (j : ℕ) → j + k < 5 → slot k c j % 27 ≡ small_of (trace (times gamma (P (5 - j) (mu k) c)))
  unfolding low_factor low_index
  low_pair j h =
      ap (λ (n : ℕ). n % 27) (slot_is j (omega arith)) ∙ two_low _ _ _ _
      ∙ rw (ne_eqb (j + k) 5 (λ e. omega arith)) (ap (λ (x : ℕ). small_of (trace x)) (times_assoc _ _ _ ∙ ap (times gamma) (weighted_is (5 - j) (omega arith))))

  high_pair : (j : ℕ) → 1 ≤ j → j + k ≤ 5 → slot k c j / 27 ≡ small_of (trace (P (6 - j) (mu k) c))
  unfolding high_index
  high_pair j l h =
      ap (λ (n : ℕ). n / 27) (slot_is j h) ∙ two_high _ _ _ _
      ∙ rw (ne_eqb j 0 (λ e. omega arith)) (ap (λ (x : ℕ). small_of (trace x)) (weighted_is (6 - j) (omega arith)))

  high_last : slot k c 0 / 27 ≡ small_of (trace (P k (mu k) c))
  unfolding high_index
  high_last = ap (λ (n : ℕ). n / 27) (slot_is 0 (omega arith)) ∙ two_high _ _ _ _ ∙ ap (λ (x : ℕ). small_of (trace x)) (weighted_is k (omega arith))

-- THE TEST VALUES for k stand from place 2k - 2 on
unfoldable pub places : List ℕ → List ℕ
places r =
    get_or r 4 0 % 27 ∷ (get_or r 4 0 / 27) ∷ get_or r 3 0 % 27 ∷ (get_or r 3 0 / 27) ∷ get_or r 2 0 % 27 ∷ (get_or r 2 0 / 27) ∷ get_or r 1 0 % 27 ∷ (get_or r 1 0 / 27)
    ∷ get_or r 0 0 % 27 ∷ (get_or r 0 0 / 27) ∷ []

-- they are the low value of slot 5 - k, and those from its high value on
from_high : (k : ℕ) → (card : List ℕ) → (j : ℕ) → List ℕ
from_high k c zero = (slot k c 0 / 27) ∷ []
from_high k c (suc j) = (slot k c (suc j) / 27) ∷ slot k c j % 27 ∷ from_high k c j

dropped : (k : ℕ) → 1 ≤ k → k ≤ 5 → (c : List ℕ) → drop (2 * k - 2) (places (table 6 (slot k c))) ≡ slot k c (5 - k) % 27 ∷ from_high k c (5 - k)
unfolding places table from_high
dropped = one_to_five _ (λ c. refl) (λ c. refl) (λ c. refl) (λ c. refl) (λ c. refl)

module _ (k : ℕ) (p : 1 ≤ k) (q : k ≤ 5) (c : List ℕ) where
  pairs_are : (j : ℕ) → j + k ≤ 5 → from_high k c j ≡ pairs_from j (6 - j) (mu k) c ++ (small_of (trace (P k (mu k) c)) ∷ [])
  unfolding from_high pairs_from
  pairs_are zero h = cons (high_last k p q c) refl
  pairs_are (suc j) h =
      let same : 5 - j ≡ 6 - suc j = omega arith in
      let next : 6 - j ≡ suc (6 - suc j) = omega arith in
      cons (high_pair k p q c (suc j) (omega arith) h) (cons (rw same at (low_pair k p q c j (omega arith))) (rw next at (pairs_are j (omega arith))))

  pub places_are : drop (2 * k - 2) (places (table 6 (slot k c))) ≡ test_values k (mu k) c
  unfolding test_values
  places_are =
      let start : 6 - (5 - k) ≡ suc k = omega arith in
      dropped k p q c ∙ cons (low_first k p q c (5 - k) (omega arith)) (rw start at (pairs_are (5 - k) (omega arith)))
