-- The message of a polynomial's coefficients in an array of ten, with one branch-free rule for the last number; and the test of six coefficients.
-- Main: leading_numbers, message_is, entry_is, read_is, shaped_is, none_written.
use Rattle.std.specs.Prelude.{◌≡◌, refl, Bool, true, false, ◌&&◌, ◌||◌, List, [], ◌∷◌, ℕ, zero, suc, ◌+◌, ◌*◌, ◌-◌, ◌≤◌, ◌<◌, ltb, eqb, get_or, set, take}
use Rattle.std.proofs.Common.{ap, arith}
use Rattle.algebra.specs.Lists.{table, table_same, at_table}
use Rattle.algebra.specs.Tests.{one_to_five}
use Rattle.algebra.specs.SmallField.{low, high}
use Rattle.rank.specs.Definitions.{at}
use Rattle.coding.specs.Coefficients.{read, read_higher}
use Rattle.coding.specs.Clean.{none_from, shaped}

-- THE NUMBERS of coefficients f in their places but for the last
unfoldable pub leading_numbers : (f : List ℕ) → List ℕ
leading_numbers f =
    low (get_or f 0 0) ∷ low (get_or f 1 0) ∷ high (get_or f 1 0) ∷ low (get_or f 2 0) ∷ high (get_or f 2 0) ∷ low (get_or f 3 0) ∷ high (get_or f 3 0)
    ∷ low (get_or f 4 0) ∷ high (get_or f 4 0) ∷ 0 ∷ []

-- THE MESSAGE with its last number
pub message_is : (k : ℕ) → 1 ≤ k → k ≤ 5 → (f : List ℕ) → take (2 * k) (set (leading_numbers f) (2 * k - 1) (high (get_or f k 0))) ≡ read (table (suc k) (at f))
unfolding leading_numbers table read read_higher at
message_is = one_to_five _ (λ f. refl) (λ f. refl) (λ f. refl) (λ f. refl) (λ f. refl)

none_same : (n i : ℕ) (f g : ℕ → ℕ) → ((j : ℕ) → j < i + n → f j ≡ g j) → none_from n i f ≡ none_from n i g
unfolding none_from
none_same zero i f g h = refl
none_same (suc n) i f g h = rw (h i (omega arith), none_same n (suc i) f g (λ j l. h j (omega arith)))

-- SIX NUMBERS in an array: the message read off them, and whether they are a word's spectrum
module _ (g : ℕ → ℕ) (r : List ℕ) (e : r ≡ table 6 g) where
  pub entry_is : (i : ℕ) → i < 6 → at r i ≡ g i
  unfolding at
  entry_is i h = rw e (at_table 6 g i h)

  pub read_is : (k : ℕ) → k ≤ 5 → read (table (suc k) (at r)) ≡ read (table (suc k) g)
  read_is k q = ap read (table_same (suc k) (at r) g (λ i h. entry_is i (omega arith)))

  pub shaped_is : (k : ℕ) → k ≤ 5 → shaped k (at r) ≡ shaped k g
  unfolding shaped
  shaped_is k q = rw (entry_is 0 (omega arith), entry_is k (omega arith), none_same (5 - k) (suc k) (at r) g (λ j l. entry_is j (omega arith)))

-- THE TEST of the coefficients beyond number k, written out
four_tests : (a b c d : Bool) → (((a && b) && c) && d) ≡ (a && (b && (c && (d && true))))
four_tests false b c d = refl
four_tests true false c d = refl
four_tests true true false d = refl
four_tests true true true false = refl
four_tests true true true true = refl

pub none_written : (k : ℕ) → 1 ≤ k → k ≤ 5 → (f : ℕ → ℕ)
    → ((((ltb 1 k || eqb (f 2) 0) && (ltb 2 k || eqb (f 3) 0)) && (ltb 3 k || eqb (f 4) 0)) && (ltb 4 k || eqb (f 5) 0)) ≡ none_from (5 - k) (suc k) f
unfolding none_from
none_written = one_to_five _ (λ f. four_tests (eqb (f 2) 0) (eqb (f 3) 0) (eqb (f 4) 0) (eqb (f 5) 0)) (λ f. four_tests true (eqb (f 3) 0) (eqb (f 4) 0) (eqb (f 5) 0))
    (λ f. four_tests true true (eqb (f 4) 0) (eqb (f 5) 0)) (λ f. four_tests true true true (eqb (f 5) 0)) (λ f. refl)
