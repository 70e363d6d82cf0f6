-- What encode and syndrome answer and leave in the lists lent to them (SPECIFICATION 8.1 and 8.3). A refusal leaves every list as it was.
use Rattle.std.specs.Prelude.{◌≡◌, Bool, ◌&&◌, not, cond, List, ℕ, ◌*◌, ◌-◌, leb, eqb, length, Result}
use Rattle.algebra.specs.Tests.{any_above}
use Rattle.refusal.specs.declared.Refusal.{Refusal}
use Rattle.refusal.specs.declared.Refusal.TheVariants.{Dimension, Length, Range}
use Rattle.refusal.specs.Replies.{number, outcome, unless}
use Rattle.coding.specs.Code.{word, test_values}
use Rattle.coding.specs.Mu.{mu}

-- k is not 1 to 5
unfoldable pub k_bad : (k : ℕ) → Bool
k_bad k = not (leb 1 k && leb k 5)

-- the tests of every operation on cards, in their order: 1 for k, 2 for a length, 3 for a number out of range, or 0
unfoldable pub tests : (dimension lengths range : Bool) → ℕ
tests d l r = cond d (number Dimension) (cond l (number Length) (cond r (number Range) 0))

-- ENCODE (document 01: Press): a message, and room for a word
unfoldable pub encode_refusal : (k : ℕ) → (message : List ℕ) → (room : ℕ) → ℕ
encode_refusal k m w = tests (k_bad k) (not (eqb (length m) (2 * k) && eqb w 6)) (any_above 26 m)

pub record Encoded (k : ℕ) (m w : List ℕ) (r : Result Unit Refusal) (w-now : List ℕ) : Type 0 where
  pub answers : outcome r ≡ encode_refusal k m (length w)
  pub word_is : w-now ≡ unless (encode_refusal k m (length w)) (word k m) w

-- SYNDROME (document 01: Test): a card, and room for its test values
unfoldable pub syndrome_refusal : (k : ℕ) → (card : List ℕ) → (room : ℕ) → ℕ
syndrome_refusal k c v = tests (k_bad k) (not (eqb (length c) 6 && eqb v (12 - 2 * k))) (any_above 728 c)

pub record Tested (k : ℕ) (c v : List ℕ) (r : Result Unit Refusal) (v-now : List ℕ) : Type 0 where
  pub answers : outcome r ≡ syndrome_refusal k c (length v)
  pub values_are : v-now ≡ unless (syndrome_refusal k c (length v)) (test_values k (mu k) c) v
