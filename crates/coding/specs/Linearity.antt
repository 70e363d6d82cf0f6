-- The code is linear over the small field: sums of words are words of sums, and small multiples of words are words of small multiples. So are
-- the messages: small numbers are added digit by digit, and multiplied as the small symbols that they stand for.
-- Main: word_sum, word_multiple.
use Rattle.std.specs.Prelude.{◌≡◌, length, get_or}
use Rattle.std.proofs.Math.Path.{refl, sym, ap, ap₂}
use Rattle.std.proofs.Common.{◌∙◌, arith}
use mathlib.Core.List.{List, [], ◌∷◌, map}
use Prim.Native.Nat.{ℕ, zero, suc, ◌*◌, ◌-◌}
use Rattle.std.proofs.Math.ListN.{get_or-map}
use Rattle.algebra.specs.Field.{add, times, power, risen, small}
use Rattle.algebra.specs.Lists.{cons}
use Rattle.algebra.specs.Digits.{add_zero}
use Rattle.algebra.specs.Linear.{at_zero}
use Rattle.algebra.specs.Products.{ring, times_zero}
use Rattle.algebra.specs.SmallField.{low}
use Rattle.algebra.proofs.SmallField.{small_linear, low_linear, small_times}
use Rattle.rank.specs.Definitions.{at}
use Rattle.coding.specs.Code.{inner, inner_sum, value, word_from, word}

-- THE SUM of two lists, entry by entry
unfoldable pub sum : List ℕ → List ℕ → List ℕ
sum [] ys = []
sum (x ∷ xs) [] = []
sum (x ∷ xs) (y ∷ ys) = add x y ∷ sum xs ys

at_sum : (m n : List ℕ) → length m ≡ length n → (i : ℕ) → at (sum m n) i ≡ add (at m i) (at n i)
unfolding sum at
at_sum [] [] e i = sym (add_zero 0)
at_sum [] (y ∷ n) e i = absurd (omega arith)
at_sum (x ∷ m) [] e i = absurd (omega arith)
at_sum (x ∷ m) (y ∷ n) e zero = refl
at_sum (x ∷ m) (y ∷ n) e (suc i) = at_sum m n (omega arith) i

regroup : (a b r p q : ℕ) → add (times (add a b) r) (add p q) ≡ add (add (times a r) p) (add (times b r) q)
regroup a b r p q = simp ring

module _ (m n : List ℕ) (same : length m ≡ length n) where
  small_sum : (i : ℕ) → small (at (sum m n) i) ≡ add (small (at m i)) (small (at n i))
  small_sum i = ap small (at_sum m n same i) ∙ small_linear.sum (at m i) (at n i)

  inner_plus : (i : ℕ) → inner (sum m n) i ≡ add (inner m i) (inner n i)
  unfolding inner
  inner_plus i = simp (small_sum, ring)

  inner_sum_plus : (l i y : ℕ) → inner_sum l i (sum m n) y ≡ add (inner_sum l i m y) (inner_sum l i n y)
  unfolding inner_sum
  inner_sum_plus zero i y = sym (add_zero 0)
  inner_sum_plus (suc l) i y =
      ap₂ add (ap (λ (x : ℕ). times x (risen i y)) (inner_plus i)) (inner_sum_plus l (suc i) y) ∙ regroup (inner m i) (inner n i) (risen i y) _ _

  value_plus : (k y : ℕ) → value k (sum m n) y ≡ add (value k m y) (value k n y)
  unfolding value
  value_plus k y = rw (small_sum 0, small_sum (2 * k - 1), inner_sum_plus (k - 1) 1 y) (simp ring)

  -- the word of a sum
  pub word_sum : (k : ℕ) → word k (sum m n) ≡ sum (word k m) (word k n)
  unfolding word word_from sum
  word_sum k = go 6 0
    where
      go : (l j : ℕ) → word_from l j k (sum m n) ≡ sum (word_from l j k m) (word_from l j k n)
      go zero j = refl
      go (suc l) j = cons (value_plus k (power 3 j)) (go l (suc j))

-- A SMALL MULTIPLE of a message: each number times the small number a
unfoldable pub small_product : (a c : ℕ) → ℕ
small_product a c = low (times (small a) (small c))

small_product_is : (a c : ℕ) → small (small_product a c) ≡ times (small a) (small c)
unfolding small_product
small_product_is a c = sym (small_times a c)

take_out : (s a r p : ℕ) → add (times (times s a) r) (times s p) ≡ times s (add (times a r) p)
take_out s a r p = simp ring

small_product_none : (a : ℕ) → small_product a 0 ≡ 0
unfolding small_product
small_product_none a = ap (λ (x : ℕ). low (times (small a) x)) (at_zero small_linear) ∙ ap low (times_zero (small a)) ∙ at_zero low_linear

module _ (a : ℕ) (m : List ℕ) where
  small_multiple : (i : ℕ) → small (at (map (small_product a) m) i) ≡ times (small a) (small (at m i))
  unfolding at
  small_multiple i =
      ap small (ap (get_or (map (small_product a) m) i) (sym (small_product_none a)) ∙ get_or-map (small_product a) m i 0) ∙ small_product_is a (get_or m i 0)

  inner_multiple : (i : ℕ) → inner (map (small_product a) m) i ≡ times (small a) (inner m i)
  unfolding inner
  inner_multiple i = simp (small_multiple, ring)

  inner_sum_multiple : (l i y : ℕ) → inner_sum l i (map (small_product a) m) y ≡ times (small a) (inner_sum l i m y)
  unfolding inner_sum
  inner_sum_multiple zero i y = sym (times_zero (small a))
  inner_sum_multiple (suc l) i y =
      ap₂ add (ap (λ (x : ℕ). times x (risen i y)) (inner_multiple i)) (inner_sum_multiple l (suc i) y) ∙ take_out (small a) (inner m i) (risen i y) _

  value_multiple : (k y : ℕ) → value k (map (small_product a) m) y ≡ times (small a) (value k m y)
  unfolding value
  value_multiple k y = rw (small_multiple 0, small_multiple (2 * k - 1), inner_sum_multiple (k - 1) 1 y) (simp ring)

  -- the word of a small multiple
  pub word_multiple : (k : ℕ) → word k (map (small_product a) m) ≡ map (times (small a)) (word k m)
  unfolding word word_from
  word_multiple k = go 6 0
    where
      go : (l j : ℕ) → word_from l j k (map (small_product a) m) ≡ map (times (small a)) (word_from l j k m)
      go zero j = refl
      go (suc l) j = cons (value_multiple k (power 3 j)) (go l (suc j))
