-- The square of a card, row by row: its rows are the digits of the symbols of the card's transpose.
-- Main: square_six, square_row, square_settled.
use Rattle.std.specs.Prelude.{◌≡◌, refl, List, [], ℕ, zero, suc, ◌/◌, ◌%◌, ◌<◌, length, get_or}
use Rattle.std.proofs.Common.{sym, ap, ◌∙◌, mod-lt, arith, lit<, ext_get_or}
use Rattle.std.proofs.lemmas.List.{length-map}
use Rattle.std.proofs.Math.ListN.{get_or-map}
use Rattle.algebra.specs.Field.{digits, digits_of}
use Rattle.rank.specs.Definitions.{at}
use Rattle.rank.specs.Transpose.{transpose, transpose_is}
use Rattle.rank.specs.Elimination.{other_digits, square_from, square, entry, Digits, DigitRows}

entry_from : (n : ℕ) (c : List ℕ) (i j : ℕ) → entry (square_from n c) i j ≡ get_or (digits_of n (get_or c j 0)) i 0
unfolding square_from digits_of
entry_from zero c i j = refl
entry_from (suc n) c zero j = get_or-map (λ s. s % 3) c j 0
entry_from (suc n) c (suc i) j =
    entry_from n (other_digits c) i j ∙ ap (λ (v : ℕ). get_or (digits_of n v) i 0) (get_or-map (λ s. s / 3) c j 0)

row_long : (n : ℕ) (c : List ℕ) (i : ℕ) → i < n → length (get_or (square_from n c) i []) ≡ length c
unfolding square_from
row_long zero c i h = absurd (omega arith)
row_long (suc n) c zero h = length-map c (λ s. s % 3)
row_long (suc n) c (suc i) h = row_long n (other_digits c) i (omega arith) ∙ length-map c (λ s. s / 3)

pub square_six : (c : List ℕ) → length (square c) ≡ 6
unfolding square square_from
square_six c = refl

pub square_row : (c : List ℕ) → length c ≡ 6 → (i : ℕ) → i < 6 → get_or (square c) i [] ≡ digits (at (transpose c) i)
unfolding square digits digits_of at
square_row c e i h = ext_get_or 0 _ _ (row_long 6 c i h ∙ e) (λ j l. entry_from 6 c i j ∙ sym (transpose_is c e i j))

pub square_settled : (c : List ℕ) → DigitRows (square c)
unfolding square square_from Digits DigitRows
square_settled c = go 6 c
  where
    go : (n : ℕ) (c : List ℕ) (i k : ℕ) → entry (square_from n c) i k < 3
    go zero c i k = lit< tt
    go (suc n) c zero k = rw (get_or-map (λ s. s % 3) c k 0) (mod-lt (get_or c k 0) (lit< tt))
    go (suc n) c (suc i) k = go n (other_digits c) i k
