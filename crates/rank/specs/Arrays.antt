-- Arrays of six: a list of six is its entries, as the code writes them out. And arrays of digits.
-- Main: six, subtract_six, zeros_rank, product_of_digits, product_with_digit, subtract_settles, set_settles, swap_settles, taken_set,
-- taken_swap.
use Rattle.std.specs.Prelude.{◌≡◌, refl, List, [], ◌∷◌, ℕ, zero, suc, ◌+◌, ◌*◌, ◌≤◌, ◌<◌, length, get_or, set}
use Rattle.std.proofs.Common.{sym, ap, ap₂, ◌∙◌, mul-le-mul, mod-lt, arith, lit<, get_or-set_other}
use Rattle.std.proofs.Math.Decide.{ℕ_discrete}
use Rattle.algebra.specs.Field.{digits, digits_of}
use Rattle.algebra.specs.Lists.{cons, table, table_at}
use Rattle.rank.specs.Definitions.{columns, subtract, pivot, rank_with, rank_from, rank}
use Rattle.rank.specs.Elimination.{entry, Digits, DigitRows, zeros, swap_rows, Taken}

abbrev pub entries : List ℕ → List ℕ
entries l = get_or l 0 0 ∷ get_or l 1 0 ∷ get_or l 2 0 ∷ get_or l 3 0 ∷ get_or l 4 0 ∷ get_or l 5 0 ∷ []

pub six : (l : List ℕ) → length l ≡ 6 → entries l ≡ l
unfolding table
six l h = ap (λ (n : ℕ). table n (λ i. get_or l i 0)) (sym h) ∙ table_at l

pub subtract_six : (d : ℕ) (a b : List ℕ) → length a ≡ 6 → length b ≡ 6 → subtract d (entries a) (entries b) ≡ subtract d a b
subtract_six d a b h k = ap₂ (subtract d) (six a h) (six b k)

-- six numbers with the sum 0 are zeros, and zeros have rank 0
pub zeros_rank : (c : List ℕ) → length c ≡ 6 → get_or c 0 0 + get_or c 1 0 + get_or c 2 0 + get_or c 3 0 + get_or c 4 0 + get_or c 5 0 ≡ 0 → rank c ≡ 0
unfolding rank rank_from rank_with pivot columns digits digits_of
zeros_rank c h e =
    let z : entries c ≡ 0 ∷ 0 ∷ 0 ∷ 0 ∷ 0 ∷ 0 ∷ [] =
    cons (omega arith) (cons (omega arith) (cons (omega arith) (cons (omega arith) (cons (omega arith) (cons (omega arith) refl))))) in
    ap rank (sym (six c h) ∙ z)

-- DIGITS: the product of two, and of 4 at most and one
pub product_of_digits : (x y : ℕ) → x < 3 → y < 3 → x * y ≤ 4
product_of_digits x y h k =
    let p : x ≤ 2 = omega arith in
    let q : y ≤ 2 = omega arith in
    mul-le-mul p q

pub product_with_digit : (x y : ℕ) → x ≤ 4 → y < 3 → x * y ≤ 8
product_with_digit x y p k =
    let q : y ≤ 2 = omega arith in
    mul-le-mul p q

-- what is subtracted leaves digits
pub subtract_settles : (d : ℕ) (a b : List ℕ) → Digits (subtract d a b)
unfolding Digits subtract
subtract_settles d [] b k = lit< tt
subtract_settles d (x ∷ a) [] k = lit< tt
subtract_settles d (x ∷ a) (y ∷ b) zero = mod-lt (x + 2 * d * y) (lit< tt)
subtract_settles d (x ∷ a) (y ∷ b) (suc k) = subtract_settles d a b k

-- a row of digits laid into a square of digits
pub set_settles : (m : List (List ℕ)) (i : ℕ) (x : List ℕ) → DigitRows m → Digits x → DigitRows (set m i x)
unfolding DigitRows
set_settles [] i x h e k = h k
set_settles (y ∷ m) zero x h e zero = e
set_settles (y ∷ m) zero x h e (suc k) = h (suc k)
set_settles (y ∷ m) (suc i) x h e zero = h zero
set_settles (y ∷ m) (suc i) x h e (suc k) = set_settles m i x (λ n. h (suc n)) e k

zeros_at : (k : ℕ) → get_or zeros k 0 ≡ 0
unfolding zeros
zeros_at zero = refl
zeros_at (suc zero) = refl
zeros_at (suc (suc zero)) = refl
zeros_at (suc (suc (suc zero))) = refl
zeros_at (suc (suc (suc (suc zero)))) = refl
zeros_at (suc (suc (suc (suc (suc zero))))) = refl
zeros_at (suc (suc (suc (suc (suc (suc k)))))) = refl

pub swap_settles : (r f : ℕ) (m : List (List ℕ)) → DigitRows m → DigitRows (swap_rows r f m)
unfolding DigitRows Digits swap_rows
swap_settles r f m h =
    set_settles (set m f (get_or m r [])) r zeros (set_settles m f (get_or m r []) h (h r)) (λ k. rw (zeros_at k) (lit< tt))

-- ROWS TAKEN OUT: one more by the exchange, and still after a row further on is set
set_zeros : (m : List (List ℕ)) (i k : ℕ) → entry (set m i zeros) i k ≡ 0
set_zeros [] i k = refl
set_zeros (y ∷ m) zero k = zeros_at k
set_zeros (y ∷ m) (suc i) k = set_zeros m i k

pub taken_set : (r i : ℕ) (m : List (List ℕ)) (x : List ℕ) → r ≤ i → Taken r m → Taken r (set m i x)
unfolding Taken
taken_set r i m x h t k l j = rw (get_or-set_other m i k x [] (λ e. omega arith)) (t k l j)

pub taken_swap : (r f : ℕ) (m : List (List ℕ)) → r ≤ f → Taken r m → Taken (r + 1) (swap_rows r f m)
unfolding Taken swap_rows
taken_swap r f m h t k l j = elim (ℕ_discrete k r) [
  | yes e ↦ rw e (set_zeros (set m f (get_or m r [])) r j)
  | no n ↦ taken_set r r (set m f (get_or m r [])) zeros (omega arith) (taken_set r f m (get_or m r []) h t) k (omega arith) j
]
