-- The remainders by 3 of packed counts, all at once: as 16 and 4 are 1 by 3, a count's hexadecimal digits, and then its digits in base 4, may be added up,
-- until it is below 8. Then the symbols' halves, of three digits each, by shifts and sums.
-- Main: by_16, by_4, remainders, thirds, halves, symbols_halves.
use Rattle.std.specs.Prelude.{◌≡◌, refl, List, [], ◌∷◌, ℕ, zero, suc, ◌+◌, ◌*◌, ◌/◌, ◌%◌, ◌^◌, ◌≤◌, ◌<◌, get_or}
use Rattle.std.proofs.Common.{sym, ap, ap₂, ◌∙◌, arith}
use Rattle.std.proofs.Math.Nat.{div-div-eq-div-mul}
use Rattle.std.specs.Int.Bits.{bit_and, and_zero_r}
use Rattle.std.proofs.lemmas.Nat.{and_block, and_mask, and_le_r}
use Rattle.algebra.specs.Field.{number_of}
use Rattle.transform.specs.Packed.{packed, count_at, symbol, symbols_of, symbols_six}

-- n COUNTS that are all m: the mask of a test of each
unfoldable pub same_counts : (n m : ℕ) → ℕ
same_counts zero m = 0
same_counts (suc n) m = m + 128 * same_counts n m

same_counts_step : (n m v : ℕ) → m < 128 → bit_and v (same_counts (suc n) m) ≡ bit_and (v % 128) m + 128 * bit_and (v / 128) (same_counts n m)
unfolding same_counts
same_counts_step n m v h =
    let parts : v ≡ v / 128 * 2 ^ 7 + v % 128 = omega arith in
    let blocks : m + 128 * same_counts n m ≡ same_counts n m * 2 ^ 7 + m = omega arith in
    ap₂ bit_and parts blocks ∙ and_block 7 (v / 128) (same_counts n m) (v % 128) m (omega arith) h ∙ omega arith

mask_15 : (n v : ℕ) → bit_and v (same_counts (suc n) 15) ≡ v % 16 + 128 * bit_and (v / 128) (same_counts n 15)
mask_15 n v = omega (arith, same_counts_step n 15 v (omega arith), and_mask (v % 128) 4)

mask_7 : (n v : ℕ) → bit_and v (same_counts (suc n) 7) ≡ v % 8 + 128 * bit_and (v / 128) (same_counts n 7)
mask_7 n v = omega (arith, same_counts_step n 7 v (omega arith), and_mask (v % 128) 3)

mask_3 : (n v : ℕ) → bit_and v (same_counts (suc n) 3) ≡ v % 4 + 128 * bit_and (v / 128) (same_counts n 3)
mask_3 n v = omega (arith, same_counts_step n 3 v (omega arith), and_mask (v % 128) 2)

-- SUMS OF DIGITS, of each of n counts: in base 16, at most 22, and then in base 4, at most 7
unfoldable pub by_16 : (n v : ℕ) → ℕ
by_16 n v = bit_and v (same_counts n 15) + bit_and (v / 16) (same_counts n 7)

unfoldable pub by_4 : (n v : ℕ) → ℕ
by_4 n v = bit_and v (same_counts n 3) + bit_and (v / 4) (same_counts n 7)

by_16_step : (n v : ℕ) → by_16 (suc n) v ≡ v % 16 + v / 16 % 8 + 128 * by_16 n (v / 128)
unfolding by_16
by_16_step n v = omega (arith, mask_15 n v, mask_7 n (v / 16), ap (λ (x : ℕ). bit_and x (same_counts n 7)) swap)
  where
    swap : v / 16 / 128 ≡ v / 128 / 16
    swap = omega arith

by_4_step : (n c v : ℕ) → c < 23 → by_4 (suc n) (c + 128 * v) ≡ c % 4 + c / 4 + 128 * by_4 n v
unfolding by_4
by_4_step n c v h =
    omega (arith, mask_3 n (c + 128 * v), mask_7 n ((c + 128 * v) / 4), low, mid, ap (λ (x : ℕ). bit_and x (same_counts n 3)) next, ap (λ (x : ℕ). bit_and x (same_counts n 7)) swap)
  where
    low : (c + 128 * v) % 4 ≡ c % 4
    low = omega arith

    mid : (c + 128 * v) / 4 % 8 ≡ c / 4
    mid = omega arith

    next : (c + 128 * v) / 128 ≡ v
    next = omega arith

    swap : (c + 128 * v) / 4 / 128 ≡ v / 4
    swap = omega arith

-- a third of a number below 8
third_of : (q r : ℕ) → 3 * q + r < 8 → r < 3 → 3 * (3 * q + r) / 8 ≡ q
third_of q r h k = omega arith

third : (c : ℕ) → c < 8 → 3 * c / 8 ≡ c / 3
third c h = ap (λ (x : ℕ). 3 * x / 8) whole ∙ third_of (c / 3) (c % 3) (omega arith) (omega arith)
  where
    whole : c ≡ 3 * (c / 3) + c % 3
    whole = omega arith

third_step : (n c v : ℕ) → c < 8 → bit_and (3 * (c + 128 * v) / 8) (same_counts (suc n) 3) ≡ c / 3 + 128 * bit_and (3 * v / 8) (same_counts n 3)
third_step n c v h = omega (arith, mask_3 n (3 * (c + 128 * v) / 8), low, ap (λ (x : ℕ). bit_and x (same_counts n 3)) swap)
  where
    apart : 3 * (c + 128 * v) / 8 ≡ 3 * c / 8 + 4 * (12 * v)
    apart = omega arith

    below : (m b : ℕ) → m < 4 → (m + 4 * b) % 4 ≡ m
    below m b k = omega arith

    low : 3 * (c + 128 * v) / 8 % 4 ≡ c / 3
    low = ap (λ (x : ℕ). x % 4) apart ∙ below (3 * c / 8) (12 * v) (omega arith) ∙ third c h

    swap : 3 * (c + 128 * v) / 8 / 128 ≡ 3 * v / 8
    swap = omega arith

-- THE RESTS of nine counts
unfoldable pub remainders : (v : ℕ) → ℕ
remainders v = packed 9 (λ l. count_at v l % 3)

none : (v : ℕ) → 3 * bit_and (3 * by_4 0 v / 8) (same_counts 0 3) + 0 ≡ by_4 0 v
unfolding by_4 same_counts
none v = omega (arith, and_zero_r (3 * by_4 0 v / 8), and_zero_r v, and_zero_r (v / 4))

-- a sum of digits has the same remainder
digits_16 : (v : ℕ) → v % 16 + 16 * (v / 16 % 8) ≡ v % 128
digits_16 v = omega arith

same_rest : (v c d : ℕ) → c ≡ v % 16 + v / 16 % 8 → d ≡ c % 4 + c / 4 → d % 3 ≡ v % 128 % 3
same_rest v c d e f =
    sym (more d (c / 4)) ∙ ap (λ (x : ℕ). x % 3) four ∙ sym (more c (5 * (v / 16 % 8))) ∙ ap (λ (x : ℕ). x % 3) sixteen
  where
    more : (x a : ℕ) → (x + 3 * a) % 3 ≡ x % 3
    more x a = omega arith

    four : d + 3 * (c / 4) ≡ c
    four = omega (arith, f)

    sixteen : c + 3 * (5 * (v / 16 % 8)) ≡ v % 128
    sixteen = omega (arith, e, digits_16 v)

one_more : (n d z t p r : ℕ) → d < 8 → z ≡ d + 128 * t → 3 * bit_and (3 * t / 8) (same_counts n 3) + p ≡ t → r ≡ d % 3
    → 3 * bit_and (3 * z / 8) (same_counts (suc n) 3) + (r + 128 * p) ≡ z
one_more n d z t p r h e k q =
    omega (arith, e, k, q, ap (λ (x : ℕ). bit_and (3 * x / 8) (same_counts (suc n) 3)) e ∙ third_step n d t h)

-- three times the thirds, and the remainders, are the sums of digits
pub thirds : (n v : ℕ) → 3 * bit_and (3 * by_4 n (by_16 n v) / 8) (same_counts n 3) + packed n (λ l. count_at v l % 3) ≡ by_4 n (by_16 n v)
unfolding packed count_at
thirds zero v = none (by_16 0 v)
thirds (suc n) v = step (v % 16 + v / 16 % 8) (by_16 n (v / 128)) (omega arith) refl (by_16_step n v) (thirds n (v / 128))
  where
    step : (c y : ℕ) → c < 23 → c ≡ v % 16 + v / 16 % 8 → by_16 (suc n) v ≡ c + 128 * y
        → 3 * bit_and (3 * by_4 n y / 8) (same_counts n 3) + packed n (λ l. count_at (v / 128) l % 3) ≡ by_4 n y
        → 3 * bit_and (3 * by_4 (suc n) (by_16 (suc n) v) / 8) (same_counts (suc n) 3) + (v % 128 % 3 + 128 * packed n (λ l. count_at (v / 128) l % 3))
        ≡ by_4 (suc n) (by_16 (suc n) v)
    step c y h f e k = one_more n (c % 4 + c / 4) _ (by_4 n y) _ (v % 128 % 3)
        (omega arith) (ap (by_4 (suc n)) e ∙ by_4_step n c y h) k (sym (same_rest v c _ f refl))

-- no sum is too large
pub by_16_below : (v : ℕ) → by_16 9 v < 2 ^ 61
unfolding by_16 same_counts
by_16_below v = omega (arith, and_le_r v (same_counts 9 15), and_le_r (v / 16) (same_counts 9 7))

pub by_4_below : (v : ℕ) → by_4 9 v ≤ 1000000000000000000
unfolding by_4 same_counts
by_4_below v = omega (arith, and_le_r v (same_counts 9 3), and_le_r (v / 4) (same_counts 9 7))

-- THE HALVES of symbols: three remainders from each place on
unfoldable pub halved : (r : ℕ) → ℕ
halved r = r + 3 * (r / 128) + 9 * (r / 16384)

unfoldable pub halves : (v : ℕ) → ℕ
halves v = halved (remainders v)

-- the lowest is complete, and the others are those of the counts from the next on
halved_packed : (n : ℕ) (c : ℕ → ℕ) → ((l : ℕ) → c l < 3)
    → halved (packed (suc (suc (suc n))) c) ≡ (c 0 + 3 * c 1 + 9 * c 2) + 128 * halved (packed (suc (suc n)) (λ l. c (suc l)))
unfolding halved packed
halved_packed n c h = sums (c 0) (c 1) (c 2) (packed n (λ l. c (suc (suc (suc l))))) (h 0) (h 1) (h 2)
  where
    sums : (x y z t : ℕ) → x < 3 → y < 3 → z < 3
        → halved (x + 128 * (y + 128 * (z + 128 * t))) ≡ (x + 3 * y + 9 * z) + 128 * halved (y + 128 * (z + 128 * t))
    sums x y z t p q r = omega (arith, one, two, three, four)
      where
        one : (x + 128 * (y + 128 * (z + 128 * t))) / 128 ≡ y + 128 * (z + 128 * t)
        one = omega arith

        two : (x + 128 * (y + 128 * (z + 128 * t))) / 16384 ≡ z + 128 * t
        two = omega arith

        three : (y + 128 * (z + 128 * t)) / 128 ≡ z + 128 * t
        three = omega arith

        four : (y + 128 * (z + 128 * t)) / 16384 ≡ t
        four = omega arith

halved_count_at : (n : ℕ) (c : ℕ → ℕ) → ((l : ℕ) → c l < 3) → (l : ℕ) → l + 3 ≤ n → count_at (halved (packed n c)) l ≡ c l + 3 * c (suc l) + 9 * c (suc (suc l))
unfolding count_at
halved_count_at zero c h l p = absurd (omega arith)
halved_count_at (suc zero) c h l p = absurd (omega arith)
halved_count_at (suc (suc zero)) c h l p = absurd (omega arith)
halved_count_at (suc (suc (suc n))) c h zero p = omega (arith, halved_packed n c h, h 0, h 1, h 2)
halved_count_at (suc (suc (suc n))) c h (suc l) p =
    ap (λ (v : ℕ). count_at v l) (omega (arith, halved_packed n c h, h 0, h 1, h 2)) ∙ halved_count_at (suc (suc n)) (λ i. c (suc i)) (λ i. h (suc i)) l (omega arith)

-- the first three digits of a symbol
half : (v : ℕ) → ℕ
half v = number_of (count_at v 0 ∷ count_at v 1 ∷ count_at v 2 ∷ [])

symbol_half : (v w : ℕ) → half v + 27 * half w ≡ symbol v w
unfolding half symbol number_of
symbol_half v w = omega arith

halves_at : (v l : ℕ) → l ≤ 6 → count_at (halves v) l ≡ count_at v l % 3 + 3 * (count_at v (suc l) % 3) + 9 * (count_at v (suc (suc l)) % 3)
unfolding halves remainders
halves_at v l h = halved_count_at 9 (λ i. count_at v i % 3) (λ i. omega arith) l (omega arith)

first : (v : ℕ) → halves v % 128 ≡ half v
unfolding half count_at number_of
first v = omega (arith, halves_at v 0 (omega arith))

-- three counts further on
count_at_three : (v l : ℕ) → count_at (v / 2097152) l ≡ count_at v (suc (suc (suc l)))
unfolding count_at
count_at_three v l = ap (λ (x : ℕ). count_at x l) (simp div-div-eq-div-mul)

half_three : (v : ℕ) → count_at v 3 % 3 + 3 * (count_at v 4 % 3) + 9 * (count_at v 5 % 3) ≡ half (v / 2097152)
unfolding half number_of
half_three v = omega (arith, count_at_three v 0, count_at_three v 1, count_at_three v 2)

second : (v : ℕ) → halves v / 2097152 % 128 ≡ half (v / 2097152)
unfolding count_at
second v = count_at_three (halves v) 0 ∙ halves_at v 3 (omega arith) ∙ half_three v

-- and six
twice_three : (v : ℕ) → v / 4398046511104 ≡ v / 2097152 / 2097152
twice_three v = simp div-div-eq-div-mul

count_at_six : (v l : ℕ) → count_at (v / 2097152 / 2097152) l ≡ count_at v (suc (suc (suc (suc (suc (suc l))))))
count_at_six v l = count_at_three (v / 2097152) l ∙ count_at_three v (suc (suc (suc l)))

half_six : (v : ℕ) → count_at v 6 % 3 + 3 * (count_at v 7 % 3) + 9 * (count_at v 8 % 3) ≡ half (v / 2097152 / 2097152)
unfolding half number_of
half_six v = omega (arith, count_at_six v 0, count_at_six v 1, count_at_six v 2)

last : (v : ℕ) → halves v / 4398046511104 % 128 ≡ half (v / 4398046511104)
unfolding count_at
last v = ap (λ (x : ℕ). x % 128) (twice_three (halves v)) ∙ count_at_six (halves v) 0 ∙ halves_at v 6 (omega arith) ∙ half_six v ∙ ap half (sym (twice_three v))

-- THE SYMBOLS by halves
pub symbols_halves : (a : List ℕ) (p q r s : ℕ) → p ≡ halves (get_or a 0 0) → q ≡ halves (get_or a 1 0) → r ≡ halves (get_or a 2 0) → s ≡ halves (get_or a 3 0)
    → (p % 128 + 27 * (p / 2097152 % 128)) ∷ (p / 4398046511104 % 128 + 27 * (q % 128)) ∷ (q / 2097152 % 128 + 27 * (q / 4398046511104 % 128))
    ∷ (r % 128 + 27 * (r / 2097152 % 128)) ∷ (r / 4398046511104 % 128 + 27 * (s % 128)) ∷ (s / 2097152 % 128 + 27 * (s / 4398046511104 % 128)) ∷ []
    ≡ symbols_of a
symbols_halves a p q r s e f g h = rw (e, f, g, h) (simp (first, second, last, symbol_half) (symbols_six a))
