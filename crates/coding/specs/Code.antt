-- The code (SPECIFICATION 2 to 4): messages, their polynomials and words, the radius, what lies near a card, the test values.
use Rattle.std.specs.Prelude.{◌≡◌, Bool, true, ◌&&◌, not, List, [], ◌∷◌, ◌++◌, ℕ, zero, suc, ◌*◌, ◌-◌, ◌/◌, ◌≤◌, eqb, length}
use Rattle.algebra.specs.Field.{add, times, power, risen, small, small_of, gamma}
use Rattle.algebra.specs.Tests.{any_above}
use Rattle.rank.specs.Definitions.{at, is_card, apart}

-- THE POLYNOMIAL of a message of 2k small numbers, at a symbol: f(i) = m(2i-1) + gamma m(2i), their sum, and both ends
unfoldable pub inner : (m : List ℕ) → (i : ℕ) → ℕ
inner m i = add (small (at m (2 * i - 1))) (times gamma (small (at m (2 * i))))

unfoldable pub inner_sum : (left i : ℕ) → (m : List ℕ) → (y : ℕ) → ℕ
inner_sum zero i m y = 0
inner_sum (suc n) i m y = add (times (inner m i) (risen i y)) (inner_sum n (suc i) m y)

unfoldable pub value : (k : ℕ) → (m : List ℕ) → (y : ℕ) → ℕ
value k m y =
    add (times (small (at m 0)) y) (add (inner_sum (k - 1) 1 m y) (times (times gamma (small (at m (2 * k - 1)))) (risen k y)))

-- THE WORD of a message: its polynomial at 1, z, .. z^5
unfoldable pub word_from : (left j : ℕ) → (k : ℕ) → (m : List ℕ) → List ℕ
word_from zero j k m = []
word_from (suc n) j k m = value k m (power 3 j) ∷ word_from n (suc j) k m

unfoldable pub word : (k : ℕ) → (m : List ℕ) → List ℕ
word k m = word_from 6 0 k m

-- a message for k: 2k numbers, none above 26
unfoldable pub is_message : (k : ℕ) → List ℕ → Bool
is_message k m = eqb (length m) (2 * k) && not (any_above 26 m)

-- (6 - k)/2 rounded down
unfoldable pub radius : (k : ℕ) → ℕ
radius k = (6 - k) / 2

-- A MESSAGE NEAR A CARD: its word differs from the card by a rank of at most the radius
pub record Near (k : ℕ) (card m : List ℕ) : Type 0 where
  pub message : is_message k m ≡ true
  pub within : apart (word k m) card ≤ radius k

-- THE TEST: the six symbols mu, by their weighted sums
unfoldable pub weighted : (left s : ℕ) → (i : ℕ) → (mu : List ℕ) → ℕ
weighted zero s i mu = 0
weighted (suc n) s i mu = add (times (risen i (power 3 s)) (at mu s)) (weighted n (suc s) i mu)

unfoldable pub zeros_from : (left i : ℕ) → (mu : List ℕ) → Bool
zeros_from zero i mu = true
zeros_from (suc n) i mu = eqb (weighted 6 0 i mu) 0 && zeros_from n (suc i) mu

unfoldable pub is_mu : (k : ℕ) → List ℕ → Bool
is_mu k mu = is_card mu && (eqb (weighted 6 0 0 mu) (risen (6 - k) 377) && zeros_from 5 1 mu)

-- P(i): the sum of r(s) mu(s)^(3^i)
unfoldable pub P_from : (left s : ℕ) → (i : ℕ) → (mu r : List ℕ) → ℕ
P_from zero s i mu r = 0
P_from (suc n) s i mu r = add (times (at r s) (risen i (at mu s))) (P_from n (suc s) i mu r)

unfoldable pub P : (i : ℕ) → (mu r : List ℕ) → ℕ
P i mu r = P_from 6 0 i mu r

unfoldable pub trace : ℕ → ℕ
trace v = add v (risen 3 v)

-- the test values: traces as small numbers, in the order of SPECIFICATION 4.3
unfoldable pub pairs_from : (left i : ℕ) → (mu r : List ℕ) → List ℕ
pairs_from zero i mu r = []
pairs_from (suc n) i mu r =
    small_of (trace (P i mu r)) ∷ small_of (trace (times gamma (P i mu r))) ∷ pairs_from n (suc i) mu r

unfoldable pub test_values : (k : ℕ) → (mu r : List ℕ) → List ℕ
test_values k mu r =
    small_of (trace (times (risen (6 - k) gamma) (P 0 mu r))) ∷ pairs_from (5 - k) (suc k) mu r ++ (small_of (trace (P k mu r)) ∷ [])
