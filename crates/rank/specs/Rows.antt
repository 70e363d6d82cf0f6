-- One step of the elimination, row by row. A row is the digits of a symbol, and the rows below place r are those that were from there on, but
-- for the chosen one, each cleared by it.
-- Main: Row, RowsFrom, rows_step, rows_unstep.
use Rattle.std.specs.Prelude.{◌≡◌, ◌≢◌, length, get_or, set}
use Rattle.std.proofs.Math.Path.{refl, ap, ap₂}
use Rattle.std.proofs.Common.{sym, ◌∙◌, mod-lt, arith, lit<}
use mathlib.Core.List.{List, [], ◌∷◌}
use Prim.Native.Nat.{ℕ, zero, suc, ◌+◌, ◌*◌, ◌-◌, ◌%◌, ◌≤◌, ◌<◌}
use Rattle.std.proofs.Math.Decide.{ℕ_discrete}
use Rattle.std.proofs.Math.Nat.{mod-mod}
use Rattle.std.proofs.Math.ListN.{length-set}
use Rattle.std.proofs.Math.Seq.{get_or-set_same, get_or-set_other}
use Rattle.algebra.specs.Field.{digits, add}
use Rattle.algebra.specs.Mod3.{times_≈}
use Rattle.algebra.specs.Digits.{digit, digit_rest, by_digits, scale_same}
use Rattle.algebra.specs.Combinations.{Span, span_like, span_head}
use Rattle.rank.specs.Clearing.{clear, subtract_digits, span_unclear}
use Rattle.rank.specs.Elimination.{zeros, swap_rows, clear_row, clear_from, clear_on, clear_step}

-- A ROW as a symbol with a property
pub record Row (P : ℕ → Type 0) (x : List ℕ) : Type 0 where
  pub symbol : ℕ
  pub is : x ≡ digits symbol
  pub has : P symbol

-- six rows, with a property from row r on
pub record RowsFrom (P : ℕ → Type 0) (r : ℕ) (m : List (List ℕ)) : Type 0 where
  pub rows : length m ≡ 6
  pub each : (i : ℕ) → r ≤ i → i < 6 → Row P (get_or m i [])

-- symbols with the same digits lie in the same spans
pub span_digits : (ps : List ℕ) (v w : ℕ) → digits v ≡ digits w → Span ps v → Span ps w
span_digits ps v w e = span_like
    (by_digits (mod-lt v (lit< tt)) (mod-lt w (lit< tt)) (λ i. digit_rest v i ∙ ap (λ (ds : List ℕ). get_or ds i 0) e ∙ sym (digit_rest w i)))

-- on rows that are the digits of symbols, clearing is that of the symbols
clear_digits : (j p v : ℕ) → clear_row j (digits p) (digits v) ≡ digits (clear j p v)
unfolding clear_row clear
clear_digits j p v =
    let d = digit v j * digit p j in
    subtract_digits d v p ∙ ap (λ (w : ℕ). digits (add v w)) (scale_same (2 * d) (2 * (d % 3)) p (times_≈ 2 d (d % 3) (sym (mod-mod d 3))))

-- THE EXCHANGE
module _ (r f : ℕ) (m : List (List ℕ)) (six : length m ≡ 6) (b : f < 6) where
  swap_six : length (swap_rows r f m) ≡ 6
  unfolding swap_rows
  swap_six = simp length-set six

  swap_f : r ≢ f → get_or (swap_rows r f m) f [] ≡ get_or m r []
  unfolding swap_rows
  swap_f n =
      get_or-set_other (set m f (get_or m r [])) r f zeros [] (λ e. n (sym e)) ∙ get_or-set_same m f (get_or m r []) [] (rw six b)

  swap_other : (k : ℕ) → k ≢ r → k ≢ f → get_or (swap_rows r f m) k [] ≡ get_or m k []
  unfolding swap_rows
  swap_other k n o = get_or-set_other (set m f (get_or m r [])) r k zeros [] n ∙ get_or-set_other m f k (get_or m r []) [] o

-- THE CLEARING
module _ (j : ℕ) (p : List ℕ) where
  clear_six : (n i : ℕ) (m : List (List ℕ)) → length (clear_from n i j p m) ≡ length m
  unfolding clear_from
  clear_six zero i m = refl
  clear_six (suc n) i m = clear_six n (suc i) (set m i (clear_row j p (get_or m i []))) ∙ simp length-set

  clear_before : (n i : ℕ) (m : List (List ℕ)) (k : ℕ) → k < i → get_or (clear_from n i j p m) k [] ≡ get_or m k []
  unfolding clear_from
  clear_before zero i m k h = refl
  clear_before (suc n) i m k h =
      clear_before n (suc i) (set m i (clear_row j p (get_or m i []))) k (omega arith) ∙ get_or-set_other m i k _ [] (λ e. omega arith)

  clear_after : (n i : ℕ) (m : List (List ℕ)) → i + n ≡ 6 → length m ≡ 6
      → (k : ℕ) → i ≤ k → k < 6 → get_or (clear_from n i j p m) k [] ≡ clear_row j p (get_or m k [])
  unfolding clear_from
  clear_after zero i m e s k a b = absurd (omega arith)
  clear_after (suc n) i m e s k a b =
      let x = clear_row j p (get_or m i []) in
      elim (ℕ_discrete k i) [
        | yes q ↦ rw q (clear_before n (suc i) (set m i x) i (omega arith) ∙ get_or-set_same m i x [] (rw s (omega arith)))
        | no q ↦
            clear_after n (suc i) (set m i x) (omega arith) (simp length-set s) k (omega arith) b
            ∙ ap (clear_row j p) (get_or-set_other m i k x [] q)
      ]

-- ONE STEP, chosen row f, which is the symbol p
module _ (r f j : ℕ) (m : List (List ℕ)) (six : length m ≡ 6) (a : r ≤ f) (b : f < 6) (p : ℕ) (chosen : get_or m f [] ≡ digits p) where
  step_six : length (clear_step r f j m) ≡ 6
  unfolding clear_step clear_on
  step_six = clear_six j (get_or m f []) (6 - suc r) (suc r) (swap_rows r f m) ∙ swap_six r f m six b

  step_at : (k v : ℕ) → r < k → k < 6 → get_or (swap_rows r f m) k [] ≡ digits v → get_or (clear_step r f j m) k [] ≡ digits (clear j p v)
  unfolding clear_step clear_on
  step_at k v h l e =
      clear_after j (get_or m f []) (6 - suc r) (suc r) (swap_rows r f m) (omega arith) (swap_six r f m six b) k h l
      ∙ ap₂ (clear_row j) chosen e ∙ clear_digits j p v

  -- forth: what clearing makes of a property holds after the step
  pub rows_step : (P Q : ℕ → Type 0) → ((v : ℕ) → P v → Q (clear j p v)) → RowsFrom P r m → RowsFrom Q (suc r) (clear_step r f j m)
  rows_step P Q g u = record { rows = step_six; each = λ k h l. after k h l (was k h l) }
    where
      was : (k : ℕ) → suc r ≤ k → k < 6 → Row P (get_or (swap_rows r f m) k [])
      was k h l = elim (ℕ_discrete k f) [
        | yes e ↦ rw (e, swap_f r f m six b (λ q. omega arith)) (u.each r (omega arith) (omega arith))
        | no n ↦ rw (swap_other r f m six b k (λ e. omega arith) n) (u.each k (omega arith) l)
      ]

      after : (k : ℕ) → suc r ≤ k → k < 6 → Row P (get_or (swap_rows r f m) k []) → Row Q (get_or (clear_step r f j m) k [])
      after k h l x = record { symbol = clear j p x.symbol; is = step_at k x.symbol h l x.is; has = g x.symbol x.has }

  -- back: what spans the rows after the step spans, with the chosen one, the rows before it
  pub rows_unstep : (P : ℕ → Type 0) (ps : List ℕ) → RowsFrom P r m → RowsFrom (Span ps) (suc r) (clear_step r f j m) → RowsFrom (Span (p ∷ ps)) r m
  rows_unstep P ps u v = record { rows = u.rows; each = λ k h l. before k h l (u.each k h l) }
    where
      -- the row k of before stands in place i now
      moved : (i k : ℕ) → r < i → i < 6 → get_or (swap_rows r f m) i [] ≡ get_or m k [] → Row P (get_or m k []) → Row (Span (p ∷ ps)) (get_or m k [])
      moved i k h l e x =
          let y = v.each i h l in
          record {
            symbol = x.symbol;
            is = x.is;
            has = span_unclear j p x.symbol (span_digits ps y.symbol _ (sym y.is ∙ step_at i x.symbol h l (e ∙ x.is)) y.has);
          }

      before : (k : ℕ) → r ≤ k → k < 6 → Row P (get_or m k []) → Row (Span (p ∷ ps)) (get_or m k [])
      before k h l x = elim (ℕ_discrete k f) [
        | yes e ↦ record { symbol = p; is = rw e chosen; has = span_head p }
        | no n ↦ elim (ℕ_discrete k r) [
          | yes e ↦ moved f k (omega arith) b (rw e (swap_f r f m six b (λ q. omega arith))) x
          | no o ↦ moved k k (omega arith) l (swap_other r f m six b k o n) x
        ]
      ]
