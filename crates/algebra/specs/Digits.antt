-- Digits: a symbol is its six digits, and add and scale go digit by digit, so their laws are those of numbers modulo 3. They hold at all
-- numbers: a number stands for the symbol that is its remainder by 729.
-- Main: number_digits, digits_number, digit_number, digit_add, digit_scale, by_digits, and the laws of add and scale.
use Rattle.std.specs.Prelude.{◌≡◌, refl, List, [], ◌∷◌, ℕ, zero, suc, ◌+◌, ◌*◌, ◌/◌, ◌%◌, ◌^◌, ◌<◌, length, get_or}
use Rattle.std.proofs.Common.{sym, ap, ◌∙◌, arith}
use Rattle.algebra.specs.Field.{digits_of, number_of, digits, added, add, scaled, scale}
use Rattle.algebra.specs.Lists.{cons, table, at_table, All, all_table}
use Rattle.algebra.specs.Mod3.{◌≈◌, times_≈}

-- THE DIGITS of sums and multiples
digits_cons : (k d n : ℕ) → digits_of (suc k) (d % 3 % 3 + 3 * n) ≡ d % 3 ∷ digits_of k n
unfolding digits_of
digits_cons k d n = cons (omega arith) (ap (digits_of k) (omega arith))

added_digits : (xs ys : List ℕ) → digits_of (length (added xs ys)) (number_of (added xs ys)) ≡ added xs ys
unfolding digits_of number_of added
added_digits [] ys = refl
added_digits (x ∷ xs) [] = refl
added_digits (x ∷ xs) (y ∷ ys) = digits_cons (length (added xs ys)) (x + y) _ ∙ cons refl (added_digits xs ys)

scaled_digits : (d : ℕ) (xs : List ℕ) → digits_of (length (scaled d xs)) (number_of (scaled d xs)) ≡ scaled d xs
unfolding digits_of number_of scaled
scaled_digits d [] = refl
scaled_digits d (x ∷ xs) = digits_cons (length (scaled d xs)) (d * x) _ ∙ cons refl (scaled_digits d xs)

pub digits_add : (a b : ℕ) → digits (add a b) ≡ added (digits a) (digits b)
unfolding digits digits_of added add
digits_add a b = added_digits (digits a) (digits b)

pub digits_scale : (d a : ℕ) → digits (scale d a) ≡ scaled d (digits a)
unfolding digits digits_of scaled scale
digits_scale d a = scaled_digits d (digits a)

pub digits_rest : (a : ℕ) → digits (a % 729) ≡ digits a
unfolding digits digits_of
digits_rest a = cons (omega arith) (cons (omega arith) (cons (omega arith) (cons (omega arith) (cons (omega arith) (cons (omega arith) refl)))))

-- THE DIGITS of a number with given digits
pub digits_number : (ds : List ℕ) → All (λ d. d < 3) ds → digits_of (length ds) (number_of ds) ≡ ds
unfolding digits_of number_of
digits_number [] h = refl
digits_number (d ∷ ds) h = cons (omega (arith, h.0)) (ap (digits_of (length ds)) (omega (arith, h.0)) ∙ digits_number ds h.1)

-- ONE DIGIT
abbrev pub digit : (v i : ℕ) → ℕ
digit v i = get_or (digits v) i 0

added_at : (n a b j : ℕ) → get_or (added (digits_of n a) (digits_of n b)) j 0 ≡ (get_or (digits_of n a) j 0 + get_or (digits_of n b) j 0) % 3
unfolding added digits_of
added_at zero a b j = refl
added_at (suc n) a b zero = refl
added_at (suc n) a b (suc j) = added_at n (a / 3) (b / 3) j

scaled_at : (d : ℕ) (xs : List ℕ) (j : ℕ) → get_or (scaled d xs) j 0 ≡ d * get_or xs j 0 % 3
unfolding scaled
scaled_at d [] j = omega arith
scaled_at d (x ∷ xs) zero = refl
scaled_at d (x ∷ xs) (suc j) = scaled_at d xs j

-- a number of six given digits is a symbol, and has these digits
pub number_below : (f : ℕ → ℕ) → number_of (table 6 f) < 729
unfolding number_of table
number_below f = omega arith

pub digit_number : (f : ℕ → ℕ) → ((i : ℕ) → f i < 3) → (i : ℕ) → i < 6 → digit (number_of (table 6 f)) i ≡ f i
unfolding digits table
digit_number f h i l = ap (λ (ds : List ℕ). get_or ds i 0) (digits_number (table 6 f) (all_table (λ d. d < 3) 6 f h)) ∙ at_table 6 f i l

pub digit_add : (a b j : ℕ) → digit (add a b) j ≡ (digit a j + digit b j) % 3
unfolding digits
digit_add a b j = ap (λ (ds : List ℕ). get_or ds j 0) (digits_add a b) ∙ added_at 6 a b j

pub digit_scale : (d a j : ℕ) → digit (scale d a) j ≡ d * digit a j % 3
digit_scale d a j = ap (λ (ds : List ℕ). get_or ds j 0) (digits_scale d a) ∙ scaled_at d (digits a) j

pub digit_rest : (a j : ℕ) → digit (a % 729) j ≡ digit a j
digit_rest a j = ap (λ (ds : List ℕ). get_or ds j 0) (digits_rest a)

pub digit_below : (a j : ℕ) → digit a j < 3
unfolding digits digits_of
digit_below = go 6
  where
    go : (n v j : ℕ) → get_or (digits_of n v) j 0 < 3
    go zero v j = omega arith
    go (suc n) v zero = omega arith
    go (suc n) v (suc j) = go n (v / 3) j

pub digit_zero : (j : ℕ) → digit 0 j ≡ 0
unfolding digits digits_of
digit_zero = go 6
  where
    go : (n j : ℕ) → get_or (digits_of n 0) j 0 ≡ 0
    go zero j = refl
    go (suc n) zero = refl
    go (suc n) (suc j) = go n j

-- SYMBOLS WITH THE SAME DIGITS are equal
pub add_below : (a b : ℕ) → add a b < 729
unfolding add digits digits_of added number_of
add_below a b = omega arith

pub scale_below : (d a : ℕ) → scale d a < 729
unfolding scale digits digits_of scaled number_of
scale_below d a = omega arith

pub by_digits : {a b : ℕ} → a < 729 → b < 729 → ((j : ℕ) → digit a j ≡ digit b j) → a ≡ b
unfolding digits digits_of
by_digits = go 6 _ _
  where
    go : (n a b : ℕ) → a < 3 ^ n → b < 3 ^ n → ((j : ℕ) → get_or (digits_of n a) j 0 ≡ get_or (digits_of n b) j 0) → a ≡ b
    go zero a b k l h = omega arith
    go (suc n) a b k l h = omega (arith, h 0, go n (a / 3) (b / 3) (omega arith) (omega arith) (λ j. h (suc j)))

-- the number with the digits of a symbol
pub number_digits : (a : ℕ) → number_of (digits a) ≡ a % 729
unfolding digits digits_of number_of
number_digits a = by_digits (omega arith) (omega arith)
    (λ j. ap (λ (ds : List ℕ). get_or ds j 0) (digits_number (digits a) (below 6 a)) ∙ sym (digit_rest a j))
  where
    below : (n a : ℕ) → All (λ d. d < 3) (digits_of n a)
    below zero a = tt
    below (suc n) a = (omega arith, below n (a / 3))

-- THE LAWS OF add AND scale
pub add_comm : (a b : ℕ) → add a b ≡ add b a
add_comm a b = by_digits (add_below a b) (add_below b a) (λ j. omega (arith, digit_add a b j, digit_add b a j))

pub add_assoc : (a b c : ℕ) → add (add a b) c ≡ add a (add b c)
add_assoc a b c = by_digits (add_below _ c) (add_below a _)
    (λ j. omega (arith, digit_add (add a b) c j, digit_add a b j, digit_add a (add b c) j, digit_add b c j))

pub add_zero : (a : ℕ) → add a 0 ≡ a % 729
add_zero a = by_digits (add_below a 0) (omega arith) (λ j. omega (arith, digit_add a 0 j, digit_zero j, digit_rest a j, digit_below a j))

pub scale_zero : (a : ℕ) → scale 0 a ≡ 0
scale_zero a = by_digits (scale_below 0 a) (omega arith) (λ j. omega (arith, digit_scale 0 a j, digit_zero j))

pub scale_suc : (d a : ℕ) → scale (suc d) a ≡ add a (scale d a)
scale_suc d a = by_digits (scale_below (suc d) a) (add_below a _)
    (λ j. omega (arith, digit_scale (suc d) a j, digit_add a (scale d a) j, digit_scale d a j))

pub scale_plus : (d e a : ℕ) → scale (d + e) a ≡ add (scale d a) (scale e a)
scale_plus d e a = by_digits (scale_below _ a) (add_below _ _)
    (λ j. omega (arith, digit_scale (d + e) a j, digit_add (scale d a) (scale e a) j, digit_scale d a j, digit_scale e a j))

pub scale_scale : (d e a : ℕ) → scale d (scale e a) ≡ scale (d * e) a
scale_scale d e a = by_digits (scale_below d _) (scale_below _ a)
    (λ j. omega (
      arith,
      digit_scale d (scale e a) j,
      digit_scale (d * e) a j,
      times_≈ d (digit (scale e a) j) (e * digit a j) (omega (arith, digit_scale e a j)),
    ))

pub scale_add : (d a b : ℕ) → scale d (add a b) ≡ add (scale d a) (scale d b)
scale_add d a b = by_digits (scale_below d _) (add_below _ _)
    (λ j. omega (
      arith,
      digit_scale d (add a b) j,
      digit_add (scale d a) (scale d b) j,
      digit_scale d a j,
      digit_scale d b j,
      times_≈ d (digit (add a b) j) (digit a j + digit b j) (omega (arith, digit_add a b j)),
    ))

pub scale_same : (d e a : ℕ) → d ≈ e → scale d a ≡ scale e a
scale_same d e a h = by_digits (scale_below d a) (scale_below e a)
    (λ j. omega (arith, digit_scale d a j, digit_scale e a j, times_≈ (digit a j) d e h))
