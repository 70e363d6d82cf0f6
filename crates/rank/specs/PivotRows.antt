-- What the elimination chooses, column by column: from place r on the rows are combinations of the rows at the start, zero in the columns
-- passed, and the rows chosen from there on span them.
-- Main: pivot_log_step, column_passed, row_chosen, rows_spanned.
use Rattle.std.specs.Prelude.{◌≡◌, refl, ◌≢◌, Bool, true, false, cond, List, [], ◌∷◌, ℕ, zero, suc, ◌+◌, ◌-◌, ◌≤◌, ◌<◌, ltb, eqb, length, get_or}
use Rattle.std.proofs.Common.{sym, ap, ◌∙◌, arith, eqb-true, lt-ltb, le-ltb}
use Rattle.std.proofs.Math.Decide.{ℕ_discrete}
use Rattle.std.proofs.lemmas.Bool.{eqb-false}
use Rattle.algebra.specs.Digits.{digit}
use Rattle.algebra.specs.Combinations.{Span, span_zero}
use Rattle.rank.specs.Clearing.{ZeroBefore, zero_before_next, zero_before_all, zero_before_clear, span_clear}
use Rattle.rank.specs.Elimination.{entry, pivot_from, pivot_row, clear_step, Chosen, choice, pivot_log_with, pivot_log_from}
use Rattle.rank.specs.Rows.{Row, RowsFrom, rows_step, rows_unstep}

-- THE PIVOT, from row i on
data Found (j : ℕ) (m : List (List ℕ)) (i f : ℕ) : Type 0 where
  absent : f ≡ 6 → ((k : ℕ) → i ≤ k → k < 6 → entry m k j ≡ 0) → Found j m i f
  found : i ≤ f → f < 6 → entry m f j ≢ 0 → Found j m i f

found_from : (n i j : ℕ) (m : List (List ℕ)) → i + n ≡ 6 → Found j m i (pivot_from n i j m)
unfolding pivot_from
found_from zero i j m e = absent (omega arith) (λ k a b. absurd (omega arith))
found_from (suc n) i j m e = go (eqb (entry m i j) 0) refl (pivot_from n (suc i) j m) (found_from n (suc i) j m (omega arith))
  where
    go : (b : Bool) → eqb (entry m i j) 0 ≡ b → (f : ℕ) → Found j m (suc i) f → Found j m i (cond b f i)
    go true t f (absent x z) =
        absent x (λ k a b. elim (ℕ_discrete k i) [ yes q ↦ rw q (eqb-true (entry m i j) 0 t) | no q ↦ z k (omega arith) b ])
    go true t f (found a b n) = found (omega arith) b n
    go false t f g = found (omega arith) (omega arith) (eqb-false (entry m i j) 0 t)

-- ONE COLUMN: what holds with and without a chosen row holds
pub pivot_log_step : (G : List Chosen → Type 0) (n j r : ℕ) (m : List (List ℕ)) → r ≤ 6
    → (((k : ℕ) → r ≤ k → k < 6 → entry m k j ≡ 0) → G (pivot_log_from n (suc j) r m))
    → ((f : ℕ) → r ≤ f → f < 6 → entry m f j ≢ 0 → G (choice r f j m ∷ pivot_log_from n (suc j) (suc r) (clear_step r f j m)))
    → G (pivot_log_from (suc n) j r m)
unfolding pivot_log_from pivot_log_with pivot_row
pivot_log_step G n j r m h without-row with_row = go (pivot_from (6 - r) r j m) (found_from (6 - r) r j m (omega arith))
  where
    go : (f : ℕ) → Found j m r f → G (pivot_log_with (ltb f 6) (λ s k. pivot_log_from n (suc j) s k) r f j m)
    go f (absent e z) = rw (le-ltb f 6 (omega arith)) (without-row z)
    go f (found a b z) = rw (lt-ltb f 6 b) (with_row f a b z)

-- THE ROWS THAT REMAIN: combinations of the symbols d, zero before column j
abbrev pub Remaining : (d : List ℕ) → (j : ℕ) → ℕ → Type 0
Remaining d j v = ZeroBefore j v × Span d v

-- digit j of a row
pub row_digit : {P : ℕ → Type 0} {x : List ℕ} (y : Row P x) (j : ℕ) → digit y.symbol j ≡ get_or x j 0
row_digit y j = ap (λ (ds : List ℕ). get_or ds j 0) (sym y.is)

-- every row from r on is zero in column j
pub column_passed : (d : List ℕ) (j r : ℕ) (m : List (List ℕ)) → ((k : ℕ) → r ≤ k → k < 6 → entry m k j ≡ 0)
    → RowsFrom (Remaining d j) r m → RowsFrom (Remaining d (suc j)) r m
column_passed d j r m z u = record { rows = u.rows; each = λ k a b. one (u.each k a b) (z k a b) }
  where
    one : {x : List ℕ} → Row (Remaining d j) x → get_or x j 0 ≡ 0 → Row (Remaining d (suc j)) x
    one y e = record { symbol = y.symbol; is = y.is; has = (zero_before_next j y.symbol y.has.0 (row_digit y j ∙ e), y.has.1) }

-- a row that is not is chosen
pub row_chosen : (d : List ℕ) (j r f : ℕ) (m : List (List ℕ)) → r ≤ f → f < 6 → (y : Row (Remaining d j) (get_or m f [])) → digit y.symbol j ≢ 0
    → RowsFrom (Remaining d j) r m → RowsFrom (Remaining d (suc j)) (suc r) (clear_step r f j m)
row_chosen d j r f m a b y nz u =
    rows_step r f j m u.rows a b y.symbol y.is _ _
    (λ v h. (zero_before_clear j y.symbol v nz y.has.0 h.0, span_clear j y.symbol v y.has.1 h.1)) u

-- THE CHOSEN ROWS span the rows
pub record Spanned (r : ℕ) (m : List (List ℕ)) (t : List Chosen) : Type 0 where
  pub by : List ℕ
  pub count : length by ≡ length t
  pub spans : RowsFrom (Span by) r m

pub rows_spanned : (d : List ℕ) (n j r : ℕ) (m : List (List ℕ)) → j + n ≡ 6 → r ≤ 6 → RowsFrom (Remaining d j) r m → Spanned r m (pivot_log_from n j r m)
unfolding pivot_log_from
rows_spanned d zero j r m e h u = record {
  by = [];
  count = refl;
  spans = record {
    rows = u.rows;
    each = λ k a b.
        let y = u.each k a b in
        record { symbol = y.symbol; is = y.is; has = span_zero (zero_before_all y.symbol (λ i l. y.has.0 i (omega arith))) };
  };
}
rows_spanned d (suc n) j r m e h u =
    pivot_log_step (Spanned r m) n j r m h
    (λ z. rows_spanned d n (suc j) r m (omega arith) h (column_passed d j r m z u))
    (λ f a b nz.
    let y = u.each f a b in
    let after = row_chosen d j r f m a b y (λ z. nz (sym (row_digit y j) ∙ z)) u in
    let s = rows_spanned d n (suc j) (suc r) (clear_step r f j m) (omega arith) (omega arith) after in
    record {
      by = y.symbol ∷ s.by;
      count = ap suc s.count;
      spans = rows_unstep r f j m u.rows a b y.symbol y.is _ s.by u s.spans;
    })
