-- One turn of each loop of the code, in the code's terms.
-- Main: nonzero_next, nonzero_here, column_nonzero, pivot_after, clear_next, pivot_log_passed, pivot_log_chosen, and the ends of the loops.
use Rattle.std.specs.Prelude.{◌≡◌, ◌≢◌, Bool, true, false, cond, List, [], ◌∷◌, ℕ, zero, suc, ◌+◌, ◌-◌, ◌≤◌, ◌<◌, eqb, get_or, set}
use Rattle.std.proofs.Math.Path.{refl}
use Rattle.std.proofs.Common.{ap, ap₂, ◌∙◌, arith}
use Rattle.std.proofs.Math.Numerals.{add-one}
use borrow.Author.Tests.{eq-eqb, ne_eqb, lt-ltb, le-ltb}
use Rattle.algebra.specs.Lists.{table, at_table}
use Rattle.rank.specs.Elimination.{entry, nonzero_from, first_nonzero, pivot_from, pivot_row, swap_rows, Taken, clear_row, clear_from, clear_on, clear_step}
use Rattle.rank.specs.Elimination.{choice, pivot_log_with, pivot_log_from, pivot_log_on}

-- a loop from i to 5: one more turn, or none
more : (i : ℕ) → i < 6 → 6 - i ≡ suc (6 - suc i)
more i h = omega arith

done : (i : ℕ) → 6 ≤ i → 6 - i ≡ 0
done i h = omega arith

-- THE PIVOT: a column from place i on
module _ (i : ℕ) (c : List ℕ) where
  pub nonzero_next : i < 6 → get_or c i 0 ≡ 0 → first_nonzero i c ≡ first_nonzero (i + 1) c
  unfolding first_nonzero nonzero_from
  nonzero_next h e = rw (more i h, add-one, eq-eqb (get_or c i 0) 0 e) refl

  pub nonzero_here : i < 6 → get_or c i 0 ≢ 0 → first_nonzero i c ≡ i
  unfolding first_nonzero nonzero_from
  nonzero_here h n = rw (more i h, ne_eqb (get_or c i 0) 0 n) refl

  pub nonzero_end : 6 ≤ i → first_nonzero i c ≡ i
  unfolding first_nonzero nonzero_from
  nonzero_end h = rw (done i h) refl

nonzero_skip : (r : ℕ) (c : List ℕ) → r ≤ 6 → ((i : ℕ) → i < r → get_or c i 0 ≡ 0) → first_nonzero 0 c ≡ first_nonzero r c
nonzero_skip zero c h z = refl
nonzero_skip (suc r) c h z =
    nonzero_skip r c (omega arith) (λ i l. z i (omega arith)) ∙ nonzero_next r c (omega arith) (z r (omega arith)) ∙ ap (λ i. first_nonzero i c) (add-one r)

-- a column of a square has the square's pivot, if the rows chosen before are taken out
pub column_nonzero : (r j : ℕ) (m : List (List ℕ)) → r ≤ 6 → Taken r m → first_nonzero 0 (table 6 (λ i. entry m i j)) ≡ pivot_row r j m
unfolding first_nonzero nonzero_from pivot_row pivot_from Taken
column_nonzero r j m h t = nonzero_skip r c h (λ i l. at_table 6 (λ i. entry m i j) i (omega arith) ∙ t i l j) ∙ go (6 - r) r (omega arith)
  where
    c : List ℕ
    c = table 6 (λ i. entry m i j)

    go : (n i : ℕ) → i + n ≡ 6 → nonzero_from n i c ≡ pivot_from n i j m
    go zero i e = refl
    go (suc n) i e = ap₂ (λ (d f : ℕ). cond (eqb d 0) f i) (at_table 6 (λ i. entry m i j) i (omega arith)) (go n (suc i) (omega arith))

-- and it is none of those
pub pivot_after : (r j : ℕ) (m : List (List ℕ)) → r ≤ pivot_row r j m
unfolding pivot_row pivot_from
pivot_after r j m = go (6 - r) r
  where
    go : (n i : ℕ) → i ≤ pivot_from n i j m
    go zero i = omega arith
    go (suc n) i = by (eqb (entry m i j) 0) (pivot_from n (suc i) j m) (go n (suc i))
      where
        by : (b : Bool) (f : ℕ) → suc i ≤ f → i ≤ cond b f i
        by true f h = omega arith
        by false f h = omega arith

-- THE ROWS BELOW
pub clear_step_on : (r f j : ℕ) (m : List (List ℕ)) → clear_step r f j m ≡ clear_on (r + 1) j (get_or m f []) (swap_rows r f m)
unfolding clear_step
clear_step_on r f j m = rw (add-one r) refl

module _ (i j : ℕ) (p : List ℕ) (m : List (List ℕ)) where
  pub clear_next : i < 6 → clear_on i j p m ≡ clear_on (i + 1) j p (set m i (clear_row j p (get_or m i [])))
  unfolding clear_on clear_from
  clear_next h = rw (more i h, add-one) refl

  pub clear_end : 6 ≤ i → clear_on i j p m ≡ m
  unfolding clear_on clear_from
  clear_end h = rw (done i h) refl

-- THE COLUMNS
module _ (j r : ℕ) (m : List (List ℕ)) where
  pub pivot_log_passed : j < 6 → 6 ≤ pivot_row r j m → pivot_log_on j r m ≡ pivot_log_on (j + 1) r m
  unfolding pivot_log_on pivot_log_from pivot_log_with
  pivot_log_passed h l = rw (more j h, add-one, le-ltb (pivot_row r j m) 6 l) refl

  pub pivot_log_chosen : j < 6 → pivot_row r j m < 6
      → pivot_log_on j r m ≡ choice r (pivot_row r j m) j m ∷ pivot_log_on (j + 1) (r + 1) (clear_step r (pivot_row r j m) j m)
  unfolding pivot_log_on pivot_log_from pivot_log_with
  pivot_log_chosen h l = rw (more j h, add-one j, add-one r, lt-ltb (pivot_row r j m) 6 l) refl

  pub pivot_log_end : 6 ≤ j → pivot_log_on j r m ≡ []
  unfolding pivot_log_on pivot_log_from
  pivot_log_end h = rw (done j h) refl
