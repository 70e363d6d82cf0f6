-- What is promised of the code. Each is a type, proved under its name in small letters in Proved.
use Rattle.std.specs.Prelude.{◌≡◌, Bool, true, ◌&&◌, List, [], ◌∷◌, ℕ, ◌+◌, ◌≤◌, eqb}
use Rattle.rank.specs.Definitions.{is_card, apart}
use Rattle.coding.specs.Code.{word, is_message, Near, is_mu, test_values}

-- OF THE THIRD DEMAND, what the code must have: at most one word lies within the radius of a card. That decoding finds it, or refuses exactly
-- if there is none, is said of the operation in crate demands
unfoldable pub OneNear : Type 0
OneNear =
    (k : ℕ) (c m n : List ℕ) → 1 ≤ k → k ≤ 5 → is_card c ≡ true → Near k c m → Near k c n → (m ≡ n) × (word k m ≡ word k n)

-- words of two messages differ by 7 - k at least
unfoldable pub FarApart : Type 0
FarApart =
    (k : ℕ) (m n : List ℕ) → 1 ≤ k → k ≤ 5 → is_message k m ≡ true → is_message k n ≡ true → (m ≡ n → ⊥) → 7 ≤ apart (word k m) (word k n) + k

-- OF THE SECOND: words are cards; there is one list mu; the test values are all 0 exactly for words
unfoldable pub WordsCards : Type 0
WordsCards = (k : ℕ) (m : List ℕ) → 1 ≤ k → k ≤ 5 → is_message k m ≡ true → is_card (word k m) ≡ true

unfoldable pub all_zero : List ℕ → Bool
all_zero [] = true
all_zero (x ∷ xs) = eqb x 0 && all_zero xs

pub record Mu (k : ℕ) (mu : List ℕ) : Type 0 where
  pub is : is_mu k mu ≡ true
  pub alone : (nu : List ℕ) → is_mu k nu ≡ true → nu ≡ mu

unfoldable pub MuThere : Type 0
MuThere = (k : ℕ) → 1 ≤ k → k ≤ 5 → (mu : List ℕ) × Mu k mu

unfoldable pub TestTells : Type 0
TestTells =
    (k : ℕ) (mu c : List ℕ) → 1 ≤ k → k ≤ 5 → is_mu k mu ≡ true → is_card c ≡ true →
    ((m : List ℕ) → is_message k m ≡ true → word k m ≡ c → all_zero (test_values k mu c) ≡ true)
    × (all_zero (test_values k mu c) ≡ true → (m : List ℕ) × (is_message k m ≡ true) × (word k m ≡ c))
