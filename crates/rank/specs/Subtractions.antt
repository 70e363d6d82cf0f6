-- Subtractions are few: at most one for each row below a chosen row, so at most 5 + 4 + 3 + 2 + 1 = 15 in all.
-- Main: few_subtractions.
use Rattle.std.specs.Prelude.{◌≡◌, Bool, true, false, cond, List, ℕ, zero, suc, ◌+◌, ◌-◌, ◌≤◌, eqb}
use Rattle.std.proofs.Common.{arith}
use Rattle.rank.specs.Elimination.{entry, swap_rows, clear_step, count_from, count_on, choice, pivot_log_from, pivot_log_on, pivot_log, subtractions_of}
use Rattle.rank.specs.PivotRows.{pivot_log_step}

count_few : (n i j : ℕ) (m : List (List ℕ)) → count_from n i j m ≤ n
unfolding count_from
count_few zero i j m = omega arith
count_few (suc n) i j m = go (eqb (entry m i j) 0) (count_few n (suc i) j m)
  where
    go : (b : Bool) → count_from n (suc i) j m ≤ n → cond b 0 1 + count_from n (suc i) j m ≤ suc n
    go true h = omega arith
    go false h = omega arith

-- (k - 1) + .. + 1 + 0, for k rows that are left
unfoldable most : ℕ → ℕ
most zero = 0
most (suc k) = k + most k

few_from : (n j r : ℕ) (m : List (List ℕ)) → r ≤ 6 → subtractions_of (pivot_log_from n j r m) ≤ most (6 - r)
unfolding pivot_log_from subtractions_of choice count_on most
few_from zero j r m h = omega arith
few_from (suc n) j r m h =
    pivot_log_step (λ t. subtractions_of t ≤ most (6 - r)) n j r m h
    (λ z. few_from n (suc j) r m h)
    (λ f a b nz.
    let q : 6 - r ≡ suc (6 - suc r) = omega arith in
    let s = few_from n (suc j) (suc r) (clear_step r f j m) (omega arith) in
    rw q (omega (arith, count_few (6 - suc r) (suc r) j (swap_rows r f m), s)))

pub few_subtractions : (m : List (List ℕ)) → subtractions_of (pivot_log m) ≤ 15
unfolding pivot_log pivot_log_on most
few_subtractions m = few_from 6 0 0 m (omega arith)
