-- The field of 729 elements (SPECIFICATION 1): a symbol is a number by its six base-3 digits, lowest first. The operations
-- read six digits of any number, so a number stands for its remainder by 729.
use Rattle.std.specs.Prelude.{cond, List, [], ◌∷◌, ℕ, zero, suc, ◌+◌, ◌*◌, ◌/◌, ◌%◌, eqb, get_or, take}

-- the digits of a number, as many as are left to take
unfoldable pub digits_of : (left v : ℕ) → List ℕ
digits_of zero v = []
digits_of (suc k) v = (v % 3) ∷ digits_of k (v / 3)

-- the number with these digits
unfoldable pub number_of : List ℕ → ℕ
number_of [] = 0
number_of (d ∷ ds) = d % 3 + 3 * number_of ds

-- the six digits of a symbol
unfoldable pub digits : ℕ → List ℕ
digits v = digits_of 6 v

-- the sum of two symbols, digit by digit
unfoldable pub added : List ℕ → List ℕ → List ℕ
added [] ys = []
added (x ∷ xs) [] = []
added (x ∷ xs) (y ∷ ys) = ((x + y) % 3) ∷ added xs ys

unfoldable pub add : (a b : ℕ) → ℕ
add a b = number_of (added (digits a) (digits b))

-- a digit times a symbol
unfoldable pub scaled : (d : ℕ) → List ℕ → List ℕ
scaled d [] = []
scaled d (x ∷ xs) = (d * x % 3) ∷ scaled d xs

unfoldable pub scale : (d a : ℕ) → ℕ
scale d a = number_of (scaled d (digits a))

-- a symbol less another
unfoldable pub minus : (a b : ℕ) → ℕ
minus a b = add a (scale 2 b)

-- z times a symbol: z^6 is -(2z^4 + z^2 + 2z + 2), which is 1 + z + 2z^2 + z^4
unfoldable pub reduced : (top : ℕ) → List ℕ
reduced t = (t % 3) ∷ (t % 3) ∷ (2 * t % 3) ∷ 0 ∷ (t % 3) ∷ 0 ∷ []

unfoldable pub shifted : (a : ℕ) → ℕ
shifted a = number_of (added (0 ∷ take 5 (digits a)) (reduced (get_or (digits a) 5 0)))

-- a product: the first symbol by the second's digits, z times further at each
unfoldable pub times_from : (digits : List ℕ) → (a : ℕ) → ℕ
times_from [] a = 0
times_from (d ∷ ds) a = add (scale d a) (times_from ds (shifted a))

unfoldable pub times : (a b : ℕ) → ℕ
times a b = times_from (digits b) a

-- a to the n
unfoldable pub power : (a n : ℕ) → ℕ
power a zero = 1
power a (suc n) = times a (power a n)

-- a to the third
unfoldable pub cube : ℕ → ℕ
cube a = times a (times a a)

-- a to the 3^i
unfoldable pub risen : (i a : ℕ) → ℕ
risen zero a = a
risen (suc i) a = cube (risen i a)

-- small numbers 0 to 26: c0 + c1 h + c2 h^2, h being 650 and its square 137
unfoldable pub small : (c : ℕ) → ℕ
small c = add (c % 3) (add (scale (c / 3 % 3) 650) (scale (c / 9 % 3) 137))

-- the small number that a symbol of the small field is; 27 for any other
unfoldable pub small_from : (left c : ℕ) → (v : ℕ) → ℕ
small_from zero c v = 27
small_from (suc n) c v = cond (eqb (small c) v) c (small_from n (suc c) v)

unfoldable pub small_of : ℕ → ℕ
small_of v = small_from 27 0 v

-- gamma is symbol 3
abbrev pub gamma : ℕ
gamma = 3
