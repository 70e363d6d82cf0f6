-- Packed digits: nine counts to a number, in base 128, so that one product and one sum serve nine digits of a linear function's value. The
-- remainders of the counts by 3 are taken at the end only.
-- Main: bounded, IsRow, AreRows, AreTables, OfRows, packed_36, add_row, add_rows, add_small_rows, symbols_of, small_as_rows, symbols_packed.
use Rattle.std.specs.Prelude.{◌≡◌, refl, Bool, true, ◌&&◌, List, [], ◌∷◌, ℕ, zero, suc, ◌+◌, ◌*◌, ◌-◌, ◌/◌, ◌%◌, ◌≤◌, ◌<◌, leb, length, get_or}
use Rattle.std.proofs.Common.{sym, ap, ap₂, ◌∙◌, mul-le-mul, arith, leb-true, le-leb}
use Rattle.std.proofs.Math.Nat.{div-div-eq-div-mul}
use Rattle.algebra.specs.Field.{digits_of, number_of, digits}
use Rattle.algebra.specs.Lists.{cons, table, length_table, table_same, table_at, at_table}
use Rattle.algebra.specs.Tests.{both}
use Rattle.algebra.specs.Digits.{digit_below}

-- BOUNDED: no number of a list is above a bound, none of a list of rows
abbrev pub bounded : (most : ℕ) → List ℕ → Bool
bounded m [] = true
bounded m (x ∷ xs) = leb x m && bounded m xs

abbrev pub rows_bounded : (most : ℕ) → List (List ℕ) → Bool
rows_bounded m [] = true
rows_bounded m (r ∷ rs) = bounded m r && rows_bounded m rs

-- a number of a row is nine digits; what n rows add up to, each times a digit: in 64 bits there is room for 60
abbrev pub IsRow : List ℕ → Type 0
IsRow r = bounded 150000000000000000 r ≡ true

abbrev pub AreRows : List (List ℕ) → Type 0
AreRows rs = rows_bounded 150000000000000000 rs ≡ true

abbrev pub tables_bounded : (most : ℕ) → List (List (List ℕ)) → Bool
tables_bounded m [] = true
tables_bounded m (t ∷ ts) = rows_bounded m t && tables_bounded m ts

-- tables of rows
abbrev pub AreTables : List (List (List ℕ)) → Type 0
AreTables ts = tables_bounded 150000000000000000 ts ≡ true

abbrev pub OfRows : (rows : ℕ) → (a : List ℕ) → Type 0
OfRows n a = bounded (n * 300000000000000000) a ≡ true

pub bounded_at : (m : ℕ) (l : List ℕ) → bounded m l ≡ true → (i : ℕ) → get_or l i 0 ≤ m
bounded_at m [] e i = omega arith
bounded_at m (x ∷ l) e zero = leb-true x m (both (leb x m) _ e).0
bounded_at m (x ∷ l) e (suc i) = bounded_at m l (both (leb x m) _ e).1 i

pub row_bounded : (m : ℕ) (rs : List (List ℕ)) → rows_bounded m rs ≡ true → (t : ℕ) → bounded m (get_or rs t []) ≡ true
row_bounded m [] e t = refl
row_bounded m (r ∷ rs) e zero = (both (bounded m r) _ e).0
row_bounded m (r ∷ rs) e (suc t) = row_bounded m rs (both (bounded m r) _ e).1 t

pub table_bounded : (m : ℕ) (ts : List (List (List ℕ))) → tables_bounded m ts ≡ true → (t : ℕ) → rows_bounded m (get_or ts t []) ≡ true
table_bounded m [] e t = refl
table_bounded m (r ∷ ts) e zero = (both (rows_bounded m r) _ e).0
table_bounded m (r ∷ ts) e (suc t) = table_bounded m ts (both (rows_bounded m r) _ e).1 t

pub bounded_more : (m n : ℕ) (l : List ℕ) → m ≤ n → bounded m l ≡ true → bounded n l ≡ true
bounded_more m n [] h e = refl
bounded_more m n (x ∷ l) h e =
    let (p, q) = both (leb x m) (bounded m l) e in
    rw (le-leb x n (omega (arith, leb-true x m p))) (bounded_more m n l h q)

-- COUNTS IN A NUMBER, and one of them read back
unfoldable pub packed : (n : ℕ) → (c : ℕ → ℕ) → ℕ
packed zero c = 0
packed (suc n) c = c 0 + 128 * packed n (λ l. c (suc l))

unfoldable pub count_at : (v l : ℕ) → ℕ
count_at v zero = v % 128
count_at v (suc l) = count_at (v / 128) l

count_packed : (n : ℕ) (c : ℕ → ℕ) → ((l : ℕ) → l < n → c l < 128) → (l : ℕ) → l < n → count_at (packed n c) l ≡ c l
unfolding packed count_at
count_packed zero c h l p = absurd (omega arith)
count_packed (suc n) c h zero p = omega (arith, h 0 (omega arith))
count_packed (suc n) c h (suc l) p =
    ap (λ (v : ℕ). count_at v l) (omega (arith, h 0 (omega arith))) ∙ count_packed n (λ i. c (suc i)) (λ i q. h (suc i) (omega arith)) l (omega arith)

packed_more : (n d : ℕ) (c g : ℕ → ℕ) → packed n c + d * packed n g ≡ packed n (λ l. c l + d * g l)
unfolding packed
packed_more zero d c g = omega arith
packed_more (suc n) d c g = omega (arith, packed_more n d (λ l. c (suc l)) (λ l. g (suc l)))

-- FOUR NUMBERS for 36 counts
unfoldable pub packed_36 : (c : ℕ → ℕ) → List ℕ
packed_36 c = table 4 (λ w. packed 9 (λ l. c (9 * w + l)))

abbrev pub no_counts : List ℕ
no_counts = 0 ∷ 0 ∷ 0 ∷ 0 ∷ []

pub none_packed : no_counts ≡ packed_36 (λ i. 0)
unfolding packed_36 table packed
none_packed = refl

-- A DIGIT TIMES A ROW more
unfoldable pub add_row : (a : List ℕ) (d : ℕ) (r : List ℕ) → List ℕ
add_row a d r = table 4 (λ w. get_or a w 0 + d * get_or r w 0)

pub add_row_packed : (c g : ℕ → ℕ) (d : ℕ) → add_row (packed_36 c) d (packed_36 g) ≡ packed_36 (λ i. c i + d * g i)
unfolding add_row packed_36
add_row_packed c g d = table_same 4 _ _ (λ w h.
    ap₂ (λ (x y : ℕ). x + d * y) (at_table 4 (λ i. packed 9 (λ l. c (9 * i + l))) w h) (at_table 4 (λ i. packed 9 (λ l. g (9 * i + l))) w h)
    ∙ packed_more 9 d (λ l. c (9 * w + l)) (λ l. g (9 * w + l)))

-- nothing is added by the digit 0, nor by a row of zeros
nothing_more : (a : List ℕ) (d : ℕ) (r : List ℕ) → length a ≡ 4 → ((w : ℕ) → d * get_or r w 0 ≡ 0) → add_row a d r ≡ a
unfolding add_row
nothing_more a d r h e = table_same 4 _ (λ w. get_or a w 0) (λ w q. omega (arith, e w)) ∙ rw (← h) (table_at a)

length_row : (a : List ℕ) (d : ℕ) (r : List ℕ) → length (add_row a d r) ≡ 4
unfolding add_row
length_row a d r = length_table 4 _

-- the four numbers grow by no more than twice the row's
pub add_row_bounded : (a : List ℕ) (d : ℕ) (r : List ℕ) (m p : ℕ) → d ≤ 2 → bounded m a ≡ true → bounded p r ≡ true → bounded (m + 2 * p) (add_row a d r) ≡ true
unfolding add_row table
add_row_bounded a d r m p h e f = rw (below 0, below 1, below 2, below 3)
  where
    below : (w : ℕ) → leb (get_or a w 0 + d * get_or r w 0) (m + 2 * p) ≡ true
    below w = le-leb (get_or a w 0 + d * get_or r w 0) (m + 2 * p) (omega (arith, bounded_at m a e w, mul-le-mul h (bounded_at p r f w)))

-- THREE ROWS more, and the six of a number's digits
unfoldable pub add_three_rows : (a digits q r s : List ℕ) → List ℕ
add_three_rows a d q r s = add_row (add_row (add_row a (get_or d 0 0) q) (get_or d 1 0) r) (get_or d 2 0) s

unfoldable pub add_rows : (a digits : List ℕ) → (rows : List (List ℕ)) → List ℕ
add_rows a d rs =
    add_three_rows (add_three_rows a d (get_or rs 0 []) (get_or rs 1 []) (get_or rs 2 [])) (get_or d 3 0 ∷ get_or d 4 0 ∷ get_or d 5 0 ∷ [])
    (get_or rs 3 []) (get_or rs 4 []) (get_or rs 5 [])

pub length_rows : (a digits : List ℕ) (rows : List (List ℕ)) → length (add_rows a digits rows) ≡ 4
unfolding add_rows add_three_rows
length_rows a d rs = length_row _ _ _

-- THE DIGITS OF A SMALL NUMBER, below 27
unfoldable pub small_digits : ℕ → List ℕ
small_digits x = x % 3 ∷ x / 3 % 3 ∷ x / 9 ∷ []

unfoldable pub add_small_rows : (a : List ℕ) → (x : ℕ) → (rows : List (List ℕ)) → List ℕ
add_small_rows a x rs = add_three_rows a (small_digits x) (get_or rs 0 []) (get_or rs 1 []) (get_or rs 2 [])

-- of 0 there is nothing to add
pub add_small_none : (a : List ℕ) (rs : List (List ℕ)) → length a ≡ 4 → add_small_rows a 0 rs ≡ a
unfolding add_small_rows add_three_rows small_digits
add_small_none a rs h =
    let z : (r : List ℕ) → add_row a 0 r ≡ a = λ r. nothing_more a 0 r h (λ w. omega arith) in
    rw (z (get_or rs 0 []), z (get_or rs 1 []), z (get_or rs 2 []))

-- a small number's rows are six rows whose last three are zeros
none_at : (w : ℕ) → get_or no_counts w 0 ≡ 0
none_at zero = refl
none_at (suc zero) = refl
none_at (suc (suc zero)) = refl
none_at (suc (suc (suc zero))) = refl
none_at (suc (suc (suc (suc w)))) = refl

none_added : (a : List ℕ) (d e : ℕ) (r : List ℕ) → add_row (add_row a d r) e no_counts ≡ add_row a d r
none_added a d e r = nothing_more (add_row a d r) e no_counts (length_row a d r) (λ w. ap (λ (n : ℕ). e * n) (none_at w) ∙ omega arith)

pub small_as_rows : (a : List ℕ) (x : ℕ) (q r s : List ℕ) → x < 27
    → add_small_rows a x (q ∷ r ∷ s ∷ []) ≡ add_rows a (digits x) (q ∷ r ∷ s ∷ no_counts ∷ no_counts ∷ no_counts ∷ [])
unfolding add_small_rows add_rows add_three_rows small_digits digits digits_of
small_as_rows a x q r s h =
    let third : x / 9 ≡ x / 3 / 3 % 3 = omega arith in
    rw third (sym (simp none_added))

-- THE DIGITS as the code takes them: each is a quotient less three times the next
less : (a : ℕ) → a - 3 * (a / 3) ≡ a % 3
less a = omega arith

pub digits_are : (a : ℕ)
    → (a - 3 * (a / 3)) ∷ (a / 3 - 3 * (a / 3 / 3)) ∷ (a / 3 / 3 - 3 * (a / 3 / 3 / 3)) ∷ (a / 3 / 3 / 3 - 3 * (a / 3 / 3 / 3 / 3))
    ∷ (a / 3 / 3 / 3 / 3 - 3 * (a / 3 / 3 / 3 / 3 / 3)) ∷ (a / 3 / 3 / 3 / 3 / 3 % 3) ∷ [] ≡ digits a
unfolding digits digits_of
digits_are a = cons (less a) (cons (less _) (cons (less _) (cons (less _) (cons (less _) refl))))

pub small_digits_are : (a : ℕ) → (a - 3 * (a / 3)) ∷ (a / 3 - 3 * (a / 3 / 3)) ∷ (a / 3 / 3) ∷ [] ≡ small_digits a
unfolding small_digits
small_digits_are a = cons (less a) (cons (less _) (cons (omega arith) refl))

three_bounded : (x y z : ℕ) → x ≤ 2 → y ≤ 2 → z ≤ 2 → bounded 2 (x ∷ y ∷ z ∷ []) ≡ true
three_bounded x y z p q r = rw (le-leb x 2 p, le-leb y 2 q, le-leb z 2 r)

pub digits_bounded : (d : List ℕ) (x : ℕ) → d ≡ digits x → (i j k : ℕ) → bounded 2 (get_or d i 0 ∷ get_or d j 0 ∷ get_or d k 0 ∷ []) ≡ true
digits_bounded d x e i j k = rw e (three_bounded _ _ _ (below i) (below j) (below k))
  where
    below : (t : ℕ) → get_or (digits x) t 0 ≤ 2
    below t = omega (arith, digit_below x t)

pub small_digits_bounded : (x : ℕ) → x < 27 → bounded 2 (small_digits x) ≡ true
unfolding small_digits
small_digits_bounded x h = three_bounded (x % 3) (x / 3 % 3) (x / 9) (omega arith) (omega arith) (omega arith)

-- THE SIX SYMBOLS of 36 counts, by their remainders
unfoldable pub symbols_of : List ℕ → List ℕ
symbols_of a = table 6 (λ j. number_of (table 6 (λ u. count_at (get_or a ((6 * j + u) / 9) 0) ((6 * j + u) % 9))))

-- a symbol of the first three counts of two numbers; the six of four numbers
unfoldable pub symbol : (v w : ℕ) → ℕ
symbol v w = number_of (count_at v 0 ∷ count_at v 1 ∷ count_at v 2 ∷ count_at w 0 ∷ count_at w 1 ∷ count_at w 2 ∷ [])

pub symbols_six : (a : List ℕ)
    → symbol (get_or a 0 0) (get_or a 0 0 / 2097152) ∷ symbol (get_or a 0 0 / 4398046511104) (get_or a 1 0)
    ∷ symbol (get_or a 1 0 / 2097152) (get_or a 1 0 / 4398046511104) ∷ symbol (get_or a 2 0) (get_or a 2 0 / 2097152)
    ∷ symbol (get_or a 2 0 / 4398046511104) (get_or a 3 0) ∷ symbol (get_or a 3 0 / 2097152) (get_or a 3 0 / 4398046511104) ∷ []
    ≡ symbols_of a
unfolding symbols_of symbol count_at table
symbols_six a = simp div-div-eq-div-mul

pub symbols_packed : (c : ℕ → ℕ) → ((i : ℕ) → i < 36 → c i < 128) → symbols_of (packed_36 c) ≡ table 6 (λ j. number_of (table 6 (λ u. c (6 * j + u))))
unfolding symbols_of packed_36
symbols_packed c b = table_same 6 _ _ (λ j h. ap number_of (table_same 6 _ _ (λ u q. read (6 * j + u) (omega arith))))
  where
    read : (i : ℕ) → i < 36 → count_at (get_or (packed_36 c) (i / 9) 0) (i % 9) ≡ c i
    read i q =
        ap (λ (v : ℕ). count_at v (i % 9)) (at_table 4 (λ w. packed 9 (λ l. c (9 * w + l))) (i / 9) (omega arith))
        ∙ count_packed 9 (λ l. c (9 * (i / 9) + l)) (λ l p. b (9 * (i / 9) + l) (omega arith)) (i % 9) (omega arith)
        ∙ ap c (omega arith)
