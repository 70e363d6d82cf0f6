-- Sums by six numbers whose remainders by 3 are the digits, so that remainders are taken of sums only.
-- Main: multiple_is, sum_is, difference_is, place_sum, place_six, terms_small, combined.
use Rattle.std.specs.Prelude.{◌≡◌, refl, ℕ, ◌+◌, ◌*◌, ◌/◌, ◌%◌, ◌≤◌, length, get_or}
use Rattle.std.proofs.Common.{sym, ap₂, ◌∙◌, add-zero, add_assoc, mul-le-mul_right, div-one, arith}
use Rattle.std.proofs.Math.Path.{ap}
use mathlib.Core.List.{List, [], ◌∷◌}
use Rattle.std.proofs.Math.Nat.{mod-mod, div-div-eq-div-mul}
use Rattle.algebra.specs.Field.{digits_of, number_of, digits, added, add, scaled, scale, minus}
use Rattle.algebra.specs.Lists.{table, table_at}
use Rattle.algebra.specs.Mod3.{◌≈◌, times_≈}
use Rattle.algebra.specs.Digits.{digits_scale, number_digits}
use Rattle.algebra.specs.Sums.{sums, rest_add}
use Rattle.algebra.specs.Combinations.{combine}
use Rattle.algebra.specs.Linear.{combination, combination_cons}

-- A MULTIPLE OF A NUMBER MORE: its quotients go to the digits' places
raised_by : (m a : ℕ) → List ℕ → List ℕ
raised_by m a [] = []
raised_by m a (s ∷ ss) = (s + m * a) ∷ raised_by m (a / 3) ss

by_number : (m a : ℕ) (ss : List ℕ)
    → number_of (raised_by m a ss) ≡ number_of (added (scaled m (digits_of (length ss) a)) (digits_of (length ss) (number_of ss)))
unfolding digits_of number_of added scaled raised_by
by_number m a [] = refl
by_number m a (s ∷ ss) = ap₂ (λ (d n : ℕ). d + 3 * n)
    (lowest (m * (a % 3)) (m * a) (number_of ss) (times_≈ m (a % 3) a (mod-mod a 3)))
    (by_number m (a / 3) ss
    ∙ ap (λ (n : ℕ). number_of (added (scaled m (digits_of (length ss) (a / 3))) (digits_of (length ss) n))) (others (number_of ss)))
  where
    lowest : (p q n : ℕ) → p ≈ q → (s + q) % 3 ≡ (p % 3 + (s % 3 + 3 * n) % 3) % 3 % 3
    lowest p q n e = rw (e, mod-mod) (omega arith)

    others : (n : ℕ) → n ≡ (s % 3 + 3 * n) / 3
    others n = omega arith

-- SIX NUMBERS
abbrev six : (c d e f g h : ℕ) → List ℕ
six c d e f g h = c ∷ d ∷ e ∷ f ∷ g ∷ h ∷ []

settled : (c d e f g h : ℕ) → c % 3 + 3 * (d % 3) + 9 * (e % 3) + 27 * (f % 3) + 81 * (g % 3) + 243 * (h % 3) ≡ number_of (six c d e f g h)
unfolding number_of
settled c d e f g h = omega arith

-- a multiple more, written out
abbrev raised : (l : List ℕ) (m a : ℕ) → List ℕ
raised l m a = six
    (get_or l 0 0 + m * a)
    (get_or l 1 0 + m * (a / 3))
    (get_or l 2 0 + m * (a / 9))
    (get_or l 3 0 + m * (a / 27))
    (get_or l 4 0 + m * (a / 81))
    (get_or l 5 0 + m * (a / 243))

module _ (l : List ℕ) (h : length l ≡ 6) where
  entries : six (get_or l 0 0) (get_or l 1 0) (get_or l 2 0) (get_or l 3 0) (get_or l 4 0) (get_or l 5 0) ≡ l
  unfolding table
  entries = rw h at (table_at l)

  by_six : (m a : ℕ) → raised_by m a l ≡ raised l m a
  unfolding raised_by
  by_six m a = ap (raised_by m a) (sym entries) ∙ simp div-div-eq-div-mul

  raised_is : (m a : ℕ) → number_of (raised l m a) ≡ add (scale m a) (number_of l)
  unfolding add digits
  raised_is m a =
      ap number_of (sym (by_six m a)) ∙ rw h at (by_number m a l)
      ∙ ap (λ (ds : List ℕ). number_of (added ds (digits (number_of l)))) (sym (digits_scale m a))

-- SUMS AND DIFFERENCES: the six numbers of a symbol are its quotients
quotients : ℕ → List ℕ
quotients a = six a (a / 3) (a / 9) (a / 27) (a / 81) (a / 243)

number_quotients : (a : ℕ) → number_of (quotients a) ≡ a % 729
unfolding digits digits_of number_of quotients
number_quotients a = simp (mod-mod, div-div-eq-div-mul) at (number_digits a)

plus : (m a b : ℕ) → number_of (raised (quotients a) m b) ≡ add a (scale m b)
unfolding quotients
plus m a b = raised_is (quotients a) refl m b ∙ rw (number_quotients a) (simp (sums, rest_add))

pub multiple_is : (m a b : ℕ)
    → (a + m * b) % 3 + 3 * ((a / 3 + m * (b / 3)) % 3) + 9 * ((a / 9 + m * (b / 9)) % 3) + 27 * ((a / 27 + m * (b / 27)) % 3)
    + 81 * ((a / 81 + m * (b / 81)) % 3) + 243 * ((a / 243 + m * (b / 243)) % 3) ≡ add a (scale m b)
unfolding quotients
multiple_is m a b = settled _ _ _ _ _ _ ∙ plus m a b

pub sum_is : (a b : ℕ) → add a (scale 1 b) ≡ add a b
sum_is a b = simp sums

pub difference_is : (a b : ℕ) → add a (scale 2 b) ≡ minus a b
unfolding minus
difference_is a b = refl

-- COMBINATIONS: what some symbols have at a place 1, 3, 9, .., each times a quotient of the number. Modulo 3 it is a digit.
unfoldable pub place_sum : (place v : ℕ) → List ℕ → ℕ
place_sum p v [] = 0
place_sum p v (w ∷ ws) = w / p % 3 * v + place_sum p (v / 3) ws

-- they are the combination's digits: one symbol after another raises six numbers
pub combined : (v : ℕ) (ws : List ℕ) → length ws ≤ 6
    → place_sum 1 v ws % 3 + 3 * (place_sum 3 v ws % 3) + 9 * (place_sum 9 v ws % 3) + 27 * (place_sum 27 v ws % 3) + 81 * (place_sum 81 v ws % 3)
    + 243 * (place_sum 243 v ws % 3) ≡ combination ws v
unfolding place_sum combination combine
combined v [] h = refl
combined v (w ∷ ws) h =
    rw (turned (w / 1) _, turned (w / 3) _, turned (w / 9) _, turned (w / 27) _, turned (w / 81) _, turned (w / 243) _, div-one w) (
    settled _ _ _ _ _ _
    ∙ raised_is (six _ _ _ _ _ _) refl (v % 3) w
    ∙ ap (add (scale (v % 3) w)) (sym (settled _ _ _ _ _ _) ∙ combined (v / 3) ws (omega arith))
    ∙ sym (combination_cons w ws v (omega arith))
    )
  where
    turned : (a c : ℕ) → a % 3 * v + c ≈ c + v % 3 * a
    turned a c = omega (arith, times_≈ (a % 3) (v % 3) v (mod-mod v 3), times_≈ (v % 3) (a % 3) a (mod-mod a 3))

-- the sum of six, written out
pub place_six : (l : List ℕ) → length l ≡ 6 → (p v : ℕ)
    → get_or l 0 0 / p % 3 * v + get_or l 1 0 / p % 3 * (v / 3) + get_or l 2 0 / p % 3 * (v / 9) + get_or l 3 0 / p % 3 * (v / 27)
    + get_or l 4 0 / p % 3 * (v / 81) + get_or l 5 0 / p % 3 * (v / 243) ≡ place_sum p v l
unfolding place_sum
place_six l h p v = sym (ap (place_sum p v) (sym (entries l h)) ∙ simp (div-div-eq-div-mul, add-zero, ← add_assoc))

-- each of the six is small
pub terms_small : (l : List ℕ) (p v : ℕ)
    → (get_or l 0 0 / p % 3 * v ≤ 2 * v) × (get_or l 1 0 / p % 3 * (v / 3) ≤ 2 * (v / 3)) × (get_or l 2 0 / p % 3 * (v / 9) ≤ 2 * (v / 9))
    × (get_or l 3 0 / p % 3 * (v / 27) ≤ 2 * (v / 27)) × (get_or l 4 0 / p % 3 * (v / 81) ≤ 2 * (v / 81))
    × (get_or l 5 0 / p % 3 * (v / 243) ≤ 2 * (v / 243))
terms_small l p v = (twice _ v, twice _ (v / 3), twice _ (v / 9), twice _ (v / 27), twice _ (v / 81), twice _ (v / 243))
  where
    twice : (d x : ℕ) → d % 3 * x ≤ 2 * x
    twice d x = mul-le-mul_right x (omega arith)
