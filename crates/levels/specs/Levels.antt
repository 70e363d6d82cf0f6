-- Levels on the cable (SPECIFICATION 3.6; document 02, P6): the signed number of a symbol, and back, and the card of 36 samples.
use Rattle.std.specs.Prelude.{Bool, ◌||◌, cond, List, [], ◌∷◌, ℕ, suc, ◌+◌, ◌*◌, ◌^◌, eqb, get_or, ℤ, pos, negsuc, ◌+ℤ◌, ◌*ℤ◌, nat_abs}
use Rattle.std.specs.Int.Signed.{lt_z, le_z}
use Rattle.algebra.specs.Field.{digits, number_of, add}
use Rattle.algebra.specs.Lists.{table}

-- the level of a digit: plus for 1, minus for 2, a rest for 0; and the digit of a level
unfoldable pub level : (digit : ℕ) → ℤ
level d = cond (eqb d 1) (pos 1) (cond (eqb d 2) (negsuc 0) (pos 0))

unfoldable pub level_digit : (level : ℤ) → ℕ
level_digit (pos n) = n
level_digit (negsuc n) = 2

-- the sum of level times 3^i, from digit i on
unfoldable pub signed_from : (i : ℕ) → (digits : List ℕ) → ℤ
signed_from i [] = pos 0
signed_from i (d ∷ ds) = level d *ℤ pos (3 ^ i) +ℤ signed_from (suc i) ds

-- THE SIGNED NUMBER of a symbol, -364 to 364: its digits in balanced ternary
unfoldable pub signed_of : (symbol : ℕ) → ℤ
signed_of v = signed_from 0 (digits v)

-- not -364 to 364
unfoldable pub outside : (number : ℤ) → Bool
outside n = lt_z n (negsuc 363) || lt_z (pos 364) n

-- THE SYMBOL of such a number. 364 is plus at each digit, so with 364 more each digit is its level plus 1; 728 is 2 at each digit, and level plus 3
-- is the symbol's digit modulo 3
unfoldable pub symbol_of : (number : ℤ) → ℕ
symbol_of n = add (nat_abs (n +ℤ pos 364)) 728

-- THE LEVEL OF A SAMPLE: 8192 and above is plus, -8192 and below is minus, all else a rest; and the digit of that level
unfoldable pub sample_level : (sample : ℤ) → ℤ
sample_level s = cond (le_z (pos 8192) s) (pos 1) (cond (le_z s (negsuc 8191)) (negsuc 0) (pos 0))

unfoldable pub sample_digit : (sample : ℤ) → ℕ
sample_digit s = level_digit (sample_level s)

-- the sample of digit i of symbol j: symbol by symbol, the lowest digit first
unfoldable pub sample_at : (samples : List ℤ) → (j i : ℕ) → ℤ
sample_at s j i = get_or s (6 * j + i) (pos 0)

-- THE CARD of 36 samples, and one symbol of it
unfoldable pub received_symbol : (samples : List ℤ) → (j : ℕ) → ℕ
received_symbol s j = number_of (table 6 (λ i. sample_digit (sample_at s j i)))

unfoldable pub received : (samples : List ℤ) → List ℕ
received s = table 6 (received_symbol s)
