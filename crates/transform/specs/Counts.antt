-- A linear function of some numbers to six symbols, by packed digits: each digit of a number adds that many times a row, the packed digits of the
-- function's values at that place. What is added up stands for the function's values, if no count can pass 127.
-- Main: rows, counts, coefficient_sums, computing_rows, mapped, counts_next, added, added_next, six_tables, added_six.
use Rattle.std.specs.Prelude.{◌≡◌, refl, true, List, [], ◌∷◌, ◌++◌, map, length}
use Rattle.std.proofs.Math.Path.{sym, ap, fun_ext}
use Rattle.std.proofs.Common.{◌∙◌, add-one, mod-eq_of_lt, mul-le-mul_right, lit<}
use Prim.Native.Nat.{ℕ, zero, suc, ◌+◌, ◌*◌, ◌%◌, ◌≤◌, ◌<◌}
use native.Mathlib.Omega.{arith}
use Rattle.std.proofs.Math.ListN.{get_or}
use Rattle.algebra.specs.Field.{digits_of, number_of, digits, scale}
use Rattle.algebra.specs.Lists.{table, table_same}
use Rattle.algebra.specs.Tests.{below_six}
use Rattle.algebra.specs.Digits.{digit, digit_add, digit_scale, digit_zero, digit_below, add_below, number_digits}
use Rattle.algebra.specs.Combinations.{combine}
use Rattle.algebra.specs.Linear.{Linear, combination, basis, computing, images, expand}
use Rattle.algebra.specs.Totals.{total}
use Rattle.transform.specs.Packed.{bounded, bounded_at, packed, packed_36, no_counts, none_packed, add_row_packed, add_three_rows, add_rows, length_rows, symbols_of, symbols_packed}

-- THE ROWS of a linear function to six symbols: the 36 digits of its values at each of the basis
unfoldable pub flat : (v : ℕ → ℕ) → List ℕ
flat v = digits (v 0) ++ (digits (v 1) ++ (digits (v 2) ++ (digits (v 3) ++ (digits (v 4) ++ digits (v 5)))))

flat_at : (v : ℕ → ℕ) (j u : ℕ) → j < 6 → u < 6 → get_or (flat v) (6 * j + u) 0 ≡ digit (v j) u
unfolding flat digits digits_of
flat_at v j u p = below_six (λ i. (n : ℕ) → n < 6 → get_or (flat v) (6 * i + n) 0 ≡ digit (v i) n)
    (below_six _ refl refl refl refl refl refl) (below_six _ refl refl refl refl refl refl) (below_six _ refl refl refl refl refl refl)
    (below_six _ refl refl refl refl refl refl) (below_six _ refl refl refl refl refl refl) (below_six _ refl refl refl refl refl refl) j p u

unfoldable pub row : (v : ℕ → ℕ) → List ℕ
row v = packed_36 (λ i. get_or (flat v) i 0)

unfoldable pub rows : (f : ℕ → ℕ → ℕ) → List (List ℕ)
rows f = map (λ e. row (λ j. f j e)) basis

-- what a digit adds to count i, at a basis symbol e
coefficient : (f : ℕ → ℕ → ℕ) → (i e : ℕ) → ℕ
coefficient f i e = get_or (flat (λ j. f j e)) i 0

-- a sum of products
dot : (a : ℕ → ℕ) → List ℕ → ℕ
dot a [] = 0
dot a (r ∷ rs) = a 0 * r + dot (λ k. a (suc k)) rs

add_rows_packed : (c : ℕ → ℕ) (x : ℕ) (f : ℕ → ℕ → ℕ)
    → add_rows (packed_36 c) (digits x) (rows f) ≡ packed_36 (λ i. c i + dot (digit x) (map (coefficient f i) basis))
unfolding add_rows add_three_rows rows row dot coefficient
add_rows_packed c x f = simp add_row_packed (ap packed_36 (fun_ext (λ i. omega arith)))

-- THE DIGITS of a linear function's value
digit_combine : (a : ℕ → ℕ) (ws : List ℕ) (u : ℕ) → digit (combine a ws) u ≡ dot a (map (λ w. digit w u) ws) % 3
unfolding combine dot
digit_combine a [] u = digit_zero u
digit_combine a (w ∷ ws) u = digit_add (scale (a 0) w) (combine (λ k. a (suc k)) ws) u
    ∙ omega (arith, digit_scale (a 0) w u, digit_combine (λ k. a (suc k)) ws u)

digit_linear : {f : ℕ → ℕ} → Linear f → (x u : ℕ) → digit (f x) u ≡ dot (digit x) (map (λ e. digit (f e) u) basis) % 3
unfolding combination
digit_linear {f} l x u = ap (λ (v : ℕ). digit v u) (expand l x) ∙ digit_combine (digit x) (images f) u

-- SYMBOLS of counts that have their digits as remainders
number_same : (n : ℕ) (c g : ℕ → ℕ) → ((u : ℕ) → u < n → c u % 3 ≡ g u % 3) → number_of (table n c) ≡ number_of (table n g)
unfolding number_of table
number_same zero c g e = refl
number_same (suc n) c g e = omega (arith, e 0 (omega arith), number_same n (λ u. c (suc u)) (λ u. g (suc u)) (λ u h. e (suc u) (omega arith)))

table_digits : (v : ℕ) → table 6 (digit v) ≡ digits v
unfolding table digits digits_of
table_digits v = refl

number_is : (v : ℕ) → v < 729 → (c : ℕ → ℕ) → ((u : ℕ) → u < 6 → digit v u ≡ c u % 3) → number_of (table 6 c) ≡ v
number_is v b c e =
    number_same 6 c (digit v) (λ u h. omega (arith, e u h))
    ∙ ap number_of (table_digits v) ∙ number_digits v ∙ mod-eq_of_lt b

total_below : (n s : ℕ) (g : ℕ → ℕ) → total n s g < 729
unfolding total
total_below zero s g = lit< tt
total_below (suc n) s g = add_below _ _

-- SUMS of lists, entry by entry
unfoldable pub add_lists : List ℕ → List ℕ → List ℕ
add_lists [] ys = ys
add_lists (x ∷ xs) [] = x ∷ xs
add_lists (x ∷ xs) (y ∷ ys) = (x + y) ∷ add_lists xs ys

add_lists_at : (xs ys : List ℕ) (i : ℕ) → get_or (add_lists xs ys) i 0 ≡ get_or xs i 0 + get_or ys i 0
unfolding add_lists
add_lists_at [] ys i = omega arith
add_lists_at (x ∷ xs) [] i = omega arith
add_lists_at (x ∷ xs) (y ∷ ys) zero = refl
add_lists_at (x ∷ xs) (y ∷ ys) (suc i) = add_lists_at xs ys i

unfoldable pub column_sums : (ℕ → List ℕ) → List ℕ → List ℕ
column_sums h [] = []
column_sums h (e ∷ es) = add_lists (h e) (column_sums h es)

-- of digits, the products are at most twice the column
dot_bound : (a : ℕ → ℕ) → ((k : ℕ) → a k < 3) → (h : ℕ → List ℕ) (es : List ℕ) (i : ℕ)
    → dot a (map (λ e. get_or (h e) i 0) es) ≤ 2 * get_or (column_sums h es) i 0
unfolding dot column_sums
dot_bound a b h [] i = omega arith
dot_bound a b h (e ∷ es) i =
    omega (arith, twice, add_lists_at (h e) (column_sums h es) i, dot_bound (λ k. a (suc k)) (λ k. b (suc k)) h es i)
  where
    twice : a 0 * get_or (h e) i 0 ≤ 2 * get_or (h e) i 0
    twice = mul-le-mul_right (get_or (h e) i 0) (omega (arith, b 0))

-- THE COUNTS that n numbers from number s on add to those in a: symbol j is the sum of f s j at number s
unfoldable pub counts_from : (f : (s j : ℕ) → ℕ → ℕ) → (xs : List ℕ) → (left s : ℕ) → List ℕ → List ℕ
counts_from f xs zero s a = a
counts_from f xs (suc n) s a = counts_from f xs n (suc s) (add_rows a (digits (get_or xs s 0)) (rows (f s)))

unfoldable pub counts : (f : (s j : ℕ) → ℕ → ℕ) → (xs : List ℕ) → (n : ℕ) → List ℕ
counts f xs n = counts_from f xs n 0 no_counts

-- how large they can be is twice this
unfoldable pub coefficient_sums : (f : (s j : ℕ) → ℕ → ℕ) → (left s : ℕ) → List ℕ
coefficient_sums f zero s = []
coefficient_sums f (suc n) s = add_lists (column_sums (λ e. flat (λ j. f s j e)) basis) (coefficient_sums f n (suc s))

-- all that a computed test of rows and of these sums opens
unfoldable pub computing_rows : ℕ
unfolding computing packed packed_36 table flat row rows add_lists column_sums coefficient_sums
computing_rows = 0

module _ (f : (s j : ℕ) → ℕ → ℕ) (xs : List ℕ) where
  -- count i of them
  count : (left s i : ℕ) → ℕ
  count zero s i = 0
  count (suc n) s i = dot (digit (get_or xs s 0)) (map (coefficient (f s) i) basis) + count n (suc s) i

  counted : (n s : ℕ) (c : ℕ → ℕ) → counts_from f xs n s (packed_36 c) ≡ packed_36 (λ i. c i + count n s i)
  unfolding counts_from count
  counted zero s c = ap packed_36 (fun_ext (λ i. omega arith))
  counted (suc n) s c =
      ap (counts_from f xs n (suc s)) (add_rows_packed c (get_or xs s 0) (f s))
      ∙ counted n (suc s) _ ∙ ap packed_36 (fun_ext (λ i. omega arith))

  count_bound : (n s i : ℕ) → count n s i ≤ 2 * get_or (coefficient_sums f n s) i 0
  unfolding count coefficient_sums coefficient
  count_bound zero s i = omega arith
  count_bound (suc n) s i =
      omega (
        arith,
        add_lists_at (column_sums (λ e. flat (λ j. f s j e)) basis) (coefficient_sums f n (suc s)) i,
        dot_bound (digit (get_or xs s 0)) (digit_below (get_or xs s 0)) (λ e. flat (λ j. f s j e)) basis i,
        count_bound n (suc s) i,
      )

  module _ (l : (s j : ℕ) → Linear (f s j)) where
    digit_total : (n s j u : ℕ) → j < 6 → u < 6 → digit (total n s (λ t. f t j (get_or xs t 0))) u ≡ count n s (6 * j + u) % 3
    unfolding total count coefficient
    digit_total zero s j u p q = digit_zero u
    digit_total (suc n) s j u p q =
        digit_add (f s j (get_or xs s 0)) (total n (suc s) (λ t. f t j (get_or xs t 0))) u ∙ omega (arith, first, digit_total n (suc s) j u p q)
      where
        first : digit (f s j (get_or xs s 0)) u ≡ dot (digit (get_or xs s 0)) (map (λ e. get_or (flat (λ i. f s i e)) (6 * j + u) 0) basis) % 3
        first = digit_linear (l s j) (get_or xs s 0) u
            ∙ ap (λ (g : ℕ → ℕ). dot (digit (get_or xs s 0)) (map g basis) % 3) (fun_ext (λ e. sym (flat_at (λ i. f s i e) j u p q)))

    pub mapped : (n : ℕ) → bounded 63 (coefficient_sums f n 0) ≡ true → symbols_of (counts f xs n) ≡ table 6 (λ j. total n 0 (λ s. f s j (get_or xs s 0)))
    unfolding counts
    mapped n t =
        ap symbols_of (ap (counts_from f xs n 0) none_packed ∙ counted n 0 (λ i. 0) ∙ ap packed_36 (fun_ext (λ i. omega arith)))
        ∙ symbols_packed (count n 0) (λ i h. omega (arith, bounded_at 63 (coefficient_sums f n 0) t i, count_bound n 0 i))
        ∙ table_same 6 _ _ (λ j h. number_is _ (total_below n 0 _) _ (λ u q. digit_total n 0 j u h q))

  -- one number more
  next_from : (n s p : ℕ) (a : List ℕ) → p ≡ n + s → counts_from f xs (suc n) s a ≡ add_rows (counts_from f xs n s a) (digits (get_or xs p 0)) (rows (f p))
  unfolding counts_from
  next_from zero s p a e = let q : p ≡ s = omega arith in rw q refl
  next_from (suc n) s p a e = next_from n (suc s) p _ (omega arith)

  pub counts_next : (n : ℕ) → counts f xs (suc n) ≡ add_rows (counts f xs n) (digits (get_or xs n 0)) (rows (f n))
  unfolding counts
  counts_next n = next_from n 0 n no_counts (omega arith)

  pub length_counts : (n : ℕ) → length (counts f xs n) ≡ 4
  unfolding counts counts_from
  length_counts zero = refl
  length_counts (suc n) = rw (counts_next n) (length_rows _ _ _)

-- THE SAME BY TABLES of rows: what n numbers add, each by the rows of its own table
unfoldable pub added : (tables : List (List (List ℕ))) → (xs : List ℕ) → (n : ℕ) → List ℕ
added ts xs zero = no_counts
added ts xs (suc n) = add_rows (added ts xs n) (digits (get_or xs n 0)) (get_or ts n [])

pub added_next : (ts : List (List (List ℕ))) (xs : List ℕ) (n : ℕ) → added ts xs (n + 1) ≡ add_rows (added ts xs n) (digits (get_or xs n 0)) (get_or ts n [])
unfolding added
added_next ts xs n = rw (add-one n) refl

-- the tables of a function of six numbers
abbrev pub six_tables : (f : (s j : ℕ) → ℕ → ℕ) → List (List (List ℕ))
six_tables f = rows (f 0) ∷ rows (f 1) ∷ rows (f 2) ∷ rows (f 3) ∷ rows (f 4) ∷ rows (f 5) ∷ []

pub added_six : (f : (s j : ℕ) → ℕ → ℕ) (ts : List (List (List ℕ))) (xs : List ℕ) → ts ≡ six_tables f → added ts xs 6 ≡ counts f xs 6
unfolding added counts counts_from
added_six f ts xs e = rw e refl
