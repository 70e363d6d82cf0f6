-- Decimal numbers: their digits one by one, and how many there are; so how long a line is.
-- Main: decimal_one, decimal_more, one_length, more_length; one_digit to seven_digits, spaced_length, word_line_length, book_refused_length;
-- decimal_value, decimal_leads.
use Rattle.std.specs.Prelude.{◌≡◌, refl, List, [], ◌∷◌, ◌++◌, ℕ, zero, suc, ◌+◌, ◌*◌, ◌-◌, ◌/◌, ◌%◌, ◌≤◌, ◌<◌, length, get_or}
use Rattle.std.proofs.Common.{sym, ◌∙◌, ap, arith, length-append, lt-ltb, le-ltb}
use Rattle.std.proofs.Math.Decide.{dec_lt}
use Rattle.std.proofs.Math.ListN.{get_or-append}
use Rattle.text.specs.Text.{decimal_from, decimal, spaced, word_line, book_refused}

-- more depth than the number changes nothing
from_one : (k n : ℕ) → n < 10 → decimal_from k n ≡ (48 + n) ∷ []
unfolding decimal_from
from_one zero n h = let e : n % 10 ≡ n = omega arith in rw e
from_one (suc k) n h = rw (lt-ltb n 10 h)

from_more : (k n : ℕ) → 10 ≤ n → decimal_from (suc k) n ≡ decimal_from k (n / 10) ++ ((48 + n % 10) ∷ [])
unfolding decimal_from
from_more k n h = rw (le-ltb n 10 h)

from_enough : (k j n : ℕ) → n ≤ k → n ≤ j → decimal_from k n ≡ decimal_from j n
from_enough zero j n h i = from_one 0 n (omega arith) ∙ sym (from_one j n (omega arith))
from_enough (suc k) zero n h i = from_one (suc k) n (omega arith) ∙ sym (from_one 0 n (omega arith))
from_enough (suc k) (suc j) n h i = go (dec_lt n 10) (λ a b. from_enough k j (n / 10) a b)
  where
    go : Dec (n < 10) → (n / 10 ≤ k → n / 10 ≤ j → decimal_from k (n / 10) ≡ decimal_from j (n / 10)) → decimal_from (suc k) n ≡ decimal_from (suc j) n
    go (yes l) f = from_one (suc k) n l ∙ sym (from_one (suc j) n l)
    go (no m) f = rw (from_more k n (omega arith), from_more j n (omega arith), f (omega arith) (omega arith))

-- THE DIGITS: one below 10, else those of the tenth part and the last
pub decimal_one : (n : ℕ) → n < 10 → decimal n ≡ (48 + n) ∷ []
unfolding decimal
decimal_one n h = from_one n n h

pub decimal_more : (n : ℕ) → 10 ≤ n → decimal n ≡ decimal (n / 10) ++ ((48 + n % 10) ∷ [])
unfolding decimal
decimal_more zero h = absurd (omega arith)
decimal_more (suc k) h = from_more k (suc k) h ∙ ap (λ (l : List ℕ). l ++ ((48 + suc k % 10) ∷ [])) (from_enough k (suc k / 10) (suc k / 10) (omega arith) (omega arith))

pub one_length : (n : ℕ) → n < 10 → length (decimal n) ≡ 1
one_length n h = ap length (decimal_one n h)

pub more_length : (n : ℕ) → 10 ≤ n → length (decimal n) ≡ length (decimal (n / 10)) + 1
more_length n h = ap length (decimal_more n h) ∙ length-append (decimal (n / 10)) ((48 + n % 10) ∷ [])

-- HOW MANY: one below 10, and one more for each factor of ten
pub one_digit : (n : ℕ) → n < 10 → length (decimal n) ≤ 1
one_digit n h = omega (arith, one_length n h)

more_digits : (k m : ℕ) → ((n : ℕ) → n < m → length (decimal n) ≤ k) → 1 ≤ k → (n : ℕ) → n < 10 * m → length (decimal n) ≤ suc k
more_digits k m f some n h = go (dec_lt n 10)
  where
    go : Dec (n < 10) → length (decimal n) ≤ suc k
    go (yes l) = omega (arith, one_digit n l)
    go (no g) = omega (arith, more_length n (omega arith), f (n / 10) (omega arith))

pub two_digits : (n : ℕ) → n < 100 → length (decimal n) ≤ 2
two_digits = more_digits 1 10 one_digit (omega arith)

pub three_digits : (n : ℕ) → n < 1000 → length (decimal n) ≤ 3
three_digits = more_digits 2 100 two_digits (omega arith)

pub four_digits : (n : ℕ) → n < 10000 → length (decimal n) ≤ 4
four_digits = more_digits 3 1000 three_digits (omega arith)

five_digits : (n : ℕ) → n < 100000 → length (decimal n) ≤ 5
five_digits = more_digits 4 10000 four_digits (omega arith)

six_digits : (n : ℕ) → n < 1000000 → length (decimal n) ≤ 6
six_digits = more_digits 5 100000 five_digits (omega arith)

pub seven_digits : (n : ℕ) → n < 10000000 → length (decimal n) ≤ 7
seven_digits = more_digits 6 1000000 six_digits (omega arith)

pub spaced_length : (n : ℕ) → length (spaced n) ≡ 1 + length (decimal n)
unfolding spaced
spaced_length n = omega arith

pub word_line_length : (w : List ℕ) (n : ℕ) → length (word_line w n) ≡ length w + length (spaced n) + 1
unfolding word_line
word_line_length w n = simp length-append

pub book_refused_length : (m : ℕ) → length (book_refused m) ≡ 12 + length (spaced m) + 1
unfolding book_refused
book_refused_length m = word_line_length _ m

-- WHAT THE DIGITS SAY: read from the first to the last they are the number
abbrev pub value_from : (before : ℕ) → List ℕ → ℕ
value_from v [] = v
value_from v (d ∷ ds) = value_from (10 * v + (d - 48)) ds

value_last : (v : ℕ) (ds : List ℕ) (d : ℕ) → value_from v (ds ++ (d ∷ [])) ≡ 10 * value_from v ds + (d - 48)
value_last v [] d = refl
value_last v (x ∷ ds) d = value_last (10 * v + (x - 48)) ds d

value_deep : (k n : ℕ) → n ≤ k → value_from 0 (decimal n) ≡ n
value_deep zero n h = let e = decimal_one n (omega arith) in rw e (omega arith)
value_deep (suc k) n h = go (dec_lt n 10) (λ i. value_deep k (n / 10) i)
  where
    go : Dec (n < 10) → (n / 10 ≤ k → value_from 0 (decimal (n / 10)) ≡ n / 10) → value_from 0 (decimal n) ≡ n
    go (yes l) f = rw (decimal_one n l) (omega arith)
    go (no m) f =
        let e = decimal_more n (omega arith) in
        let v = value_last 0 (decimal (n / 10)) (48 + n % 10) in
        rw e (omega (arith, f (omega arith)))

pub decimal_value : (n : ℕ) → value_from 0 (decimal n) ≡ n
decimal_value n = value_deep n n (omega arith)

-- THE FEWEST: only 0 begins with a 0
digits_some : (n : ℕ) → 1 ≤ length (decimal n)
digits_some n = elim (dec_lt n 10) [ yes l ↦ omega (arith, one_length n l) | no m ↦ omega (arith, more_length n (omega arith)) ]

leads_deep : (k n : ℕ) → n ≤ k → get_or (decimal n) 0 0 ≡ 48 → n ≡ 0
leads_deep zero n h e = omega arith
leads_deep (suc k) n h e = go (dec_lt n 10) (λ i f. leads_deep k (n / 10) i f)
  where
    go : Dec (n < 10) → (n / 10 ≤ k → get_or (decimal (n / 10)) 0 0 ≡ 48 → n / 10 ≡ 0) → n ≡ 0
    go (yes l) f = let d : 48 + n ≡ 48 = rw (decimal_one n l) at e in omega arith
    go (no m) f =
        let d = get_or-append (decimal (n / 10)) ((48 + n % 10) ∷ []) 0 0 (digits_some (n / 10)) in
        let g : get_or (decimal (n / 10)) 0 0 ≡ 48 = sym d ∙ (rw (decimal_more n (omega arith)) at e) in
        omega (arith, f (omega arith) g)

pub decimal_leads : (n : ℕ) → get_or (decimal n) 0 0 ≡ 48 → n ≡ 0
decimal_leads n e = leads_deep n n (omega arith) e
