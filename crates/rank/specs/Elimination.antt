-- Row elimination on the square of digits of a card (SPECIFICATION 3.1), as the code
-- does it: columns go from 0 to 5; of the rows not yet chosen the one in the lowest place with a digit not 0 is chosen and exchanged into
-- the next place, and from each row below that has a digit not 0 there the multiple of it that clears that digit is subtracted. A column
-- without such a row is passed over. The pivot log says what was chosen and how many subtractions that took.
use Rattle.std.specs.Prelude.{◌≡◌, Bool, true, false, cond, List, [], ◌∷◌, map, ℕ, zero, suc, ◌+◌, ◌*◌, ◌-◌, ◌/◌, ◌%◌, ◌^◌, ◌<◌, ltb, eqb, get_or, set}
use Rattle.rank.specs.Definitions.{subtract}

-- THE SQUARE of a card: row i, column j is digit i of symbol j
abbrev pub low_digits : List ℕ → List ℕ
low_digits c = map (λ s. s % 3) c

abbrev pub other_digits : List ℕ → List ℕ
other_digits c = map (λ s. s / 3) c

unfoldable pub square_from : (left : ℕ) → List ℕ → List (List ℕ)
square_from zero c = []
square_from (suc n) c = low_digits c ∷ square_from n (other_digits c)

unfoldable pub square : List ℕ → List (List ℕ)
square c = square_from 6 c

abbrev pub entry : List (List ℕ) → (i j : ℕ) → ℕ
entry m i j = get_or (get_or m i []) j 0

-- digits, and rows of them
unfoldable pub Digits : List ℕ → Type 0
Digits x = (k : ℕ) → get_or x k 0 < 3

unfoldable pub DigitRows : List (List ℕ) → Type 0
DigitRows m = (i : ℕ) → Digits (get_or m i [])

-- the first of the n places from place i on where a column is not 0; the place after them if there is none
unfoldable pub nonzero_from : (left i : ℕ) → List ℕ → ℕ
nonzero_from zero i c = i
nonzero_from (suc n) i c = cond (eqb (get_or c i 0) 0) (nonzero_from n (suc i) c) i

unfoldable pub first_nonzero : (i : ℕ) → List ℕ → ℕ
first_nonzero i c = nonzero_from (6 - i) i c

-- THE PIVOT: the first of the n rows from row i on that is not 0 in column j; the row after them if there is none
unfoldable pub pivot_from : (left i j : ℕ) → List (List ℕ) → ℕ
pivot_from zero i j m = i
pivot_from (suc n) i j m = cond (eqb (entry m i j) 0) (pivot_from n (suc i) j m) i

unfoldable pub pivot_row : (r j : ℕ) → List (List ℕ) → ℕ
pivot_row r j m = pivot_from (6 - r) r j m

unfoldable pub zeros : List ℕ
zeros = 0 ∷ 0 ∷ 0 ∷ 0 ∷ 0 ∷ 0 ∷ []

-- the chosen row f is exchanged with the one in place r and taken out there, where no later column looks: zeros stand in its place
unfoldable pub swap_rows : (r f : ℕ) → List (List ℕ) → List (List ℕ)
swap_rows r f m = set (set m f (get_or m r [])) r zeros

-- the rows before place r are taken out
unfoldable pub Taken : (r : ℕ) → List (List ℕ) → Type 0
Taken r m = (i : ℕ) → i < r → (k : ℕ) → entry m i k ≡ 0

-- a row x less the multiple of the chosen row p that clears column j
unfoldable pub clear_row : (j : ℕ) → (p x : List ℕ) → List ℕ
clear_row j p x = subtract (get_or x j 0 * get_or p j 0) x p

-- the n rows from row i on, cleared in column j by p
unfoldable pub clear_from : (left i j : ℕ) → (p : List ℕ) → List (List ℕ) → List (List ℕ)
clear_from zero i j p m = m
clear_from (suc n) i j p m = clear_from n (suc i) j p (set m i (clear_row j p (get_or m i [])))

unfoldable pub clear_on : (i j : ℕ) → (p : List ℕ) → List (List ℕ) → List (List ℕ)
clear_on i j p m = clear_from (6 - i) i j p m

-- row f is taken out at place r, and clears the rows below
unfoldable pub clear_step : (r f j : ℕ) → List (List ℕ) → List (List ℕ)
clear_step r f j m = clear_on (suc r) j (get_or m f []) (swap_rows r f m)

-- how many of the n rows from row i on are not 0 in column j
unfoldable pub count_from : (left i j : ℕ) → List (List ℕ) → ℕ
count_from zero i j m = 0
count_from (suc n) i j m = cond (eqb (entry m i j) 0) 0 1 + count_from n (suc i) j m

unfoldable pub count_on : (i j : ℕ) → List (List ℕ) → ℕ
count_on i j m = count_from (6 - i) i j m

-- THE TRACE: for each chosen row its column, and the number of rows that it was subtracted from
pub record Chosen : Type 0 where
  pub column : ℕ
  pub subtractions : ℕ

unfoldable pub choice : (r f j : ℕ) → List (List ℕ) → Chosen
choice r f j m = record { column = j; subtractions = count_on (suc r) j (swap_rows r f m) }

unfoldable pub pivot_log_with : Bool → (on : ℕ → List (List ℕ) → List Chosen) → (r f j : ℕ) → List (List ℕ) → List Chosen
pivot_log_with true on r f j m = choice r f j m ∷ on (suc r) (clear_step r f j m)
pivot_log_with false on r f j m = on r m

-- n columns from column j on, with r rows chosen before
unfoldable pub pivot_log_from : (left j r : ℕ) → List (List ℕ) → List Chosen
pivot_log_from zero j r m = []
pivot_log_from (suc n) j r m = pivot_log_with (ltb (pivot_row r j m) 6) (λ s k. pivot_log_from n (suc j) s k) r (pivot_row r j m) j m

-- the columns from column j on
unfoldable pub pivot_log_on : (j r : ℕ) → List (List ℕ) → List Chosen
pivot_log_on j r m = pivot_log_from (6 - j) j r m

unfoldable pub pivot_log : List (List ℕ) → List Chosen
pivot_log m = pivot_log_on 0 0 m

-- READINGS of it: the chosen columns as bits, and the subtractions
unfoldable pub mask_of : List Chosen → ℕ
mask_of [] = 0
mask_of (x ∷ xs) = 2 ^ x.column + mask_of xs

unfoldable pub subtractions_of : List Chosen → ℕ
subtractions_of [] = 0
subtractions_of (x ∷ xs) = x.subtractions + subtractions_of xs
