-- Numbers digit by digit: one turn of each loop, and its end; and the word that begins a tune.
-- Main: digits_next, digits_not, digits_end; number_none, number_some; value_next, value_end; same_length, same_four.
use Rattle.std.specs.Prelude.{◌≡◌, refl, Bool, true, false, ◌&&◌, List, [], ◌∷◌, ℕ, suc, ◌+◌, ◌*◌, ◌-◌, ◌≤◌, ◌<◌, min, eqb, length, drop, get_or}
use Rattle.std.proofs.Common.{sym, ap, ◌∙◌, arith, drop_of_length-le, drop-cons}
use Rattle.std.proofs.Math.Bool.{and-true}
use Rattle.std.proofs.Math.Numerals.{add-one}
use Rattle.text.specs.Decimal.{value_from}
use Rattle.tune_text.specs.Words.{digit, only_digits, is_number, same}

-- ONLY DIGITS: what is left to look at decides
module _ (l : List ℕ) (i : ℕ) where
  pub digits_next : i < length l → digit (get_or l i 0) ≡ true → only_digits (drop i l) ≡ only_digits (drop (i + 1) l)
  unfolding only_digits
  digits_next h t = rw (drop-cons l i 0 h, t, add-one i)

  pub digits_not : i < length l → digit (get_or l i 0) ≡ false → only_digits (drop i l) ≡ false
  unfolding only_digits
  digits_not h t = rw (drop-cons l i 0 h, t)

  pub digits_end : length l ≤ i → only_digits (drop i l) ≡ true
  unfolding only_digits
  digits_end h = rw (drop_of_length-le l h)

-- no number is empty
pub number_none : (w : List ℕ) → length w ≡ 0 → is_number w ≡ false
unfolding is_number
number_none [] h = refl
number_none (b ∷ l) h = absurd (omega arith)

pub number_some : (w : List ℕ) → (length w ≡ 0 → ⊥) → is_number w ≡ only_digits w
unfolding is_number
number_some [] h = absurd (h refl)
number_some (b ∷ l) h = refl

-- THE VALUE: what is above the most may be cut to it before the next digit
cut_digit : (m v d : ℕ) → min m (10 * min m v + d) ≡ min m (10 * v + d)
cut_digit m v d = omega arith

pub cut_before : (m v : ℕ) (l : List ℕ) → min m (value_from (min m v) l) ≡ min m (value_from v l)
cut_before m v [] = omega arith
cut_before m v (d ∷ l) =
    sym (cut_before m (10 * min m v + (d - 48)) l)
    ∙ ap (λ (x : ℕ). min m (value_from x l)) (cut_digit m v (d - 48))
    ∙ cut_before m (10 * v + (d - 48)) l

module _ (l : List ℕ) (i v : ℕ) where
  pub value_next : i < length l
      → min 65535 (value_from v (drop i l)) ≡ min 65535 (value_from (min 65535 (10 * v + (get_or l i 0 - 48))) (drop (i + 1) l))
  value_next h = rw (drop-cons l i 0 h, add-one i) (sym (cut_before 65535 (10 * v + (get_or l i 0 - 48)) (drop (suc i) l)))

  pub value_end : length l ≤ i → v ≤ 65535 → min 65535 (value_from v (drop i l)) ≡ v
  value_end h k = rw (drop_of_length-le l h) (omega arith)

-- A WORD OF FOUR BYTES byte by byte
pub same_length : (a b : List ℕ) → (length a ≡ length b → ⊥) → same a b ≡ false
unfolding same
same_length [] [] h = absurd (h refl)
same_length [] (y ∷ b) h = refl
same_length (x ∷ a) [] h = refl
same_length (x ∷ a) (y ∷ b) h = go (eqb x y) (same_length a b (λ e. h (ap suc e)))
  where
    go : (t : Bool) → same a b ≡ false → (t && same a b) ≡ false
    go true k = k
    go false k = refl

pub same_four : (a : List ℕ) (p q r s : ℕ) → length a ≡ 4
    → same a (p ∷ q ∷ r ∷ s ∷ []) ≡ (eqb (get_or a 0 0) p && (eqb (get_or a 1 0) q && (eqb (get_or a 2 0) r && eqb (get_or a 3 0) s)))
unfolding same
same_four [] p q r s h = absurd (omega arith)
same_four (w ∷ []) p q r s h = absurd (omega arith)
same_four (w ∷ x ∷ []) p q r s h = absurd (omega arith)
same_four (w ∷ x ∷ y ∷ []) p q r s h = absurd (omega arith)
same_four (w ∷ x ∷ y ∷ z ∷ []) p q r s h = rw (and-true (eqb z s))
same_four (w ∷ x ∷ y ∷ z ∷ u ∷ l) p q r s h = absurd (omega arith)
