-- The chosen columns: each symbol in a chosen column lies outside the span of those before it, and the chosen rows span all rows. So they are
-- as many as the rank, and the mask has a bit where the rank of the first symbols grows.
-- Main: chosen_rank, mask_gains.
use Rattle.std.specs.Prelude.{◌≡◌, ◌≢◌, List, [], ◌∷◌, ◌++◌, length, take}
use Rattle.std.proofs.Math.Path.{refl, ap}
use Rattle.std.proofs.Common.{sym, ◌∙◌, arith, take-suc, take_all}
use Prim.Native.Nat.{ℕ, zero, suc, ◌+◌, ◌*◌, ◌-◌, ◌^◌, ◌≤◌, ◌<◌}
use Rattle.algebra.specs.Lists.{table, length_table, All, all_at, all_each}
use Rattle.algebra.specs.Digits.{digit}
use Rattle.algebra.specs.Combinations.{Span, span_self}
use Rattle.rank.specs.Definitions.{at, rank}
use Rattle.rank.specs.Echelon.{rank_least}
use Rattle.rank.specs.Extension.{rank_grows, rank_outside}
use Rattle.rank.specs.Transpose.{transpose, transpose_is, transposed_spans}
use Rattle.rank.specs.Separation.{separates}
use Rattle.rank.specs.Elimination.{clear_step, Chosen, choice, pivot_log_from, pivot_log_on, pivot_log, square, mask_of}
use Rattle.rank.specs.Rows.{RowsFrom, span_digits}
use Rattle.rank.specs.DigitSquare.{square_six, square_row}
use Rattle.rank.specs.PivotRows.{Remaining, pivot_log_step, row_digit, column_passed, row_chosen, rows_spanned}

-- BY HOW much the rank of the first symbols grows with symbol j
unfoldable pub gain : (c : List ℕ) → (j : ℕ) → ℕ
gain c j = rank (take (suc j) c) - rank (take j c)

-- the gains of n symbols from symbol j on, as bits
unfoldable pub gains : (c : List ℕ) → (left j : ℕ) → ℕ
gains c zero j = 0
gains c (suc n) j = 2 ^ j * gain c j + gains c n (suc j)

-- a pivot log of the columns from j on is no longer than what the rank still gains, and if as long, then its columns are those of the gains
record Fits (c : List ℕ) (n j : ℕ) (t : List Chosen) : Type 0 where
  within : length t + rank (take j c) ≤ rank c
  exact : length t + rank (take j c) ≡ rank c → mask_of t ≡ gains c n j

module _ (c : List ℕ) (six : length c ≡ 6) where
  pub rank_take_suc : (j : ℕ) → j < 6 → rank (take (suc j) c) ≡ rank (take j c ++ (at c j ∷ []))
  unfolding at
  rank_take_suc j h = ap rank (take-suc c j 0 (omega arith))

  fits : (n j r : ℕ) (m : List (List ℕ)) → j + n ≡ 6 → r ≤ 6 → RowsFrom (Remaining (transpose c) j) r m → Fits c n j (pivot_log_from n j r m)
  unfolding pivot_log_from gains gain mask_of choice transpose
  fits zero j r m e h u = record { within = omega (arith, ap rank (take_all j c (omega arith))); exact = λ q. refl }
  fits (suc n) j r m e h u =
      pivot_log_step (Fits c (suc n) j) n j r m h
      (λ z.
      let s = fits n (suc j) r m (omega arith) h (column_passed (transpose c) j r m z u) in
      let g : rank (take j c) ≤ rank (take (suc j) c) = rw (rank_take_suc j (omega arith)) (rank_grows (take j c) (at c j)) in
      record {
        within = omega (arith, s.within, g);
        exact = λ q.
            let k : gain c j ≡ 0 = omega (arith, s.within, g) in
            omega (arith, s.exact (omega (arith, s.within, g)), ap (λ (x : ℕ). 2 ^ j * x) k);
      })
      (λ f a b nz.
      let y = u.each f a b in
      let nonzero : digit y.symbol j ≢ 0 = λ z. nz (sym (row_digit y j) ∙ z) in
      let s = fits n (suc j) (suc r) (clear_step r f j m) (omega arith) (omega arith) (row_chosen (transpose c) j r f m a b y nonzero u) in
      let outside = separates c (transpose c) (transpose_is c six) (length_table 6 _) y.symbol y.has.1 j y.has.0 nonzero in
      let g = rank_take_suc j (omega arith) ∙ rank_outside (take j c) (at c j) outside in
      record {
        within = omega (arith, s.within, g);
        exact = λ q.
            let k : gain c j ≡ 1 = omega (arith, g) in
            omega (arith, s.exact (omega (arith, g)), ap (λ (x : ℕ). 2 ^ j * x) k);
      })

  -- the rows of the square, as symbols of the transpose
  rows : RowsFrom (Remaining (transpose c) 0) 0 (square c)
  unfolding transpose table at
  rows = record {
    rows = square_six c;
    each = λ i a b. record {
      symbol = at (transpose c) i;
      is = square_row c six i b;
      has = (λ k l. absurd (omega arith), all_at (Span (transpose c)) 0 (transpose c) (span_self (transpose c)) i b);
    };
  }

  -- what spans the rows of the square spans the symbols of the transpose
  spans_transpose : (ps : List ℕ) → RowsFrom (Span ps) 0 (square c) → All (Span ps) (transpose c)
  unfolding transpose table at
  spans_transpose ps u = all_each (Span ps) 0 (transpose c) (λ i l.
      let y = u.each i (omega arith) l in
      span_digits ps y.symbol (at (transpose c) i) (sym y.is ∙ square_row c six i l) y.has)

  rank_within : rank c ≤ length (pivot_log (square c))
  unfolding pivot_log pivot_log_on
  rank_within =
      let s = rows_spanned (transpose c) 6 0 0 (square c) refl (omega arith) rows in
      let t = transposed_spans c (transpose c) (transpose_is c six) s.by (spans_transpose s.by s.spans) in
      omega (arith, s.count, t.1, rank_least c t.0 t.2)

  square_fits : Fits c 6 0 (pivot_log (square c))
  unfolding pivot_log pivot_log_on
  square_fits = fits 6 0 0 (square c) refl (omega arith) rows

  -- THE RANK is the number of chosen rows
  pub chosen_rank : length (pivot_log (square c)) ≡ rank c
  chosen_rank = omega (arith, rank_within, square_fits.within)

  -- THE MASK has a bit where the rank gains
  pub mask_gains : mask_of (pivot_log (square c)) ≡ gains c 6 0
  mask_gains = square_fits.exact (omega (arith, chosen_rank, rank_least [] [] tt))
