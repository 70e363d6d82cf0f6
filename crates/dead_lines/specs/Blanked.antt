-- Dead lines made 0: what is left has the same rank as where they are struck out. So the code makes them 0, and the theory speaks of digits that
-- are kept.
-- Main: blanked_from, kept, blanked, blanked_at, kept_combine, span_map, struck_rank.
use Rattle.std.specs.Prelude.{◌≡◌, Bool, cond, ℕ, zero, suc, ◌+◌, ◌*◌, ◌-◌, ◌/◌, ◌%◌, ◌^◌, ◌≤◌, ◌<◌, eqb, length, get_or}
use Rattle.std.proofs.Math.Path.{refl, sym}
use Rattle.std.proofs.Common.{ap, ◌∙◌, mod-eq_of_lt, zero-add, add-zero, lit≤, eqb-true}
use Rattle.std.proofs.Math.Bool.{true, false}
use mathlib.Core.List.{List, [], ◌∷◌, map}
use native.Mathlib.Omega.{arith}
use Rattle.std.proofs.Math.ListN.{length-map}
use Rattle.std.proofs.lemmas.Bool.{eqb-false}
use Rattle.algebra.specs.Field.{digits_of, digits, number_of, add, scale}
use Rattle.algebra.specs.Lists.{All}
use Rattle.algebra.specs.Digits.{digit}
use Rattle.algebra.specs.Combinations.{combine, combine_none, combine_same, combine_skip, Span, span_zero, span_combine}
use Rattle.algebra.specs.Linear.{Linear, at_rest, at_combine, combination, combination_linear, basis, in_basis}
use Rattle.rank.specs.Definitions.{rank}
use Rattle.rank.specs.Echelon.{rank_echelon, rank_least}
use Rattle.dead_lines.specs.Struck.{bit, struck_from, struck_column, struck_out}

-- a list whose entries of dead lines are 0; its first entry is that of line i
unfoldable pub blanked_from : (i mask : ℕ) → List ℕ → List ℕ
blanked_from i mask [] = []
blanked_from i mask (x ∷ xs) = cond (eqb (bit mask i) 0) x 0 ∷ blanked_from (suc i) mask xs

-- a column whose digits in dead rows are 0
unfoldable pub kept : (rows v : ℕ) → ℕ
kept ρ v = number_of (blanked_from 0 ρ (digits v))

unfoldable pub blanked : (rows columns : ℕ) → (square : List ℕ) → List ℕ
blanked ρ σ c = blanked_from 0 σ (map (kept ρ) c)

-- ENTRIES: those of dead lines are taken 0 times
entry : (mask i x : ℕ) → cond (eqb (bit mask i) 0) x 0 ≡ (1 - bit mask i) * x
entry mask i x = go (eqb (bit mask i) 0) refl
  where
    go : (b : Bool) → eqb (bit mask i) 0 ≡ b → cond b x 0 ≡ (1 - bit mask i) * x
    go true e = rw (eqb-true (bit mask i) 0 e) (omega arith)
    go false e = let n : 1 - bit mask i ≡ 0 = omega (arith, eqb-false (bit mask i) 0 e) in rw n (omega arith)

pub blanked_at : (mask : ℕ) (xs : List ℕ) (j : ℕ) → get_or (blanked_from 0 mask xs) j 0 ≡ (1 - bit mask j) * get_or xs j 0
unfolding blanked_from
blanked_at mask xs j = rw (zero-add j) at (go 0 xs j)
  where
    go : (i : ℕ) (xs : List ℕ) (j : ℕ) → get_or (blanked_from i mask xs) j 0 ≡ (1 - bit mask (i + j)) * get_or xs j 0
    go i [] j = omega arith
    go i (x ∷ xs) zero = rw (add-zero i) (entry mask i x)
    go i (x ∷ xs) (suc j) = let e : i + suc j ≡ suc i + j = omega arith in rw e (go (suc i) xs j)

-- THE NUMBER WITH UP TO SIX DIGITS, and combinations by them
number_below : (n : ℕ) (ds : List ℕ) → length ds ≤ n → number_of ds < 3 ^ n
unfolding number_of
number_below zero [] h = omega arith
number_below zero (d ∷ ds) h = absurd (omega arith)
number_below (suc n) [] h = omega (arith, number_below n [] (omega arith))
number_below (suc n) (d ∷ ds) h = omega (arith, number_below n ds (omega arith))

number_digit : (n : ℕ) (ds : List ℕ) → length ds ≤ n → (i : ℕ) → get_or (digits_of n (number_of ds)) i 0 ≡ get_or ds i 0 % 3
unfolding digits_of number_of
number_digit zero [] h i = refl
number_digit zero (d ∷ ds) h i = absurd (omega arith)
number_digit (suc n) [] h zero = refl
number_digit (suc n) [] h (suc i) = number_digit n [] (omega arith) i
number_digit (suc n) (d ∷ ds) h zero = omega arith
number_digit (suc n) (d ∷ ds) h (suc i) =
    let e : (d % 3 + 3 * number_of ds) / 3 ≡ number_of ds = omega arith in rw e (number_digit n ds (omega arith) i)

combination_number : (ws ds : List ℕ) → length ds ≤ 6 → combination ws (number_of ds) ≡ combine (λ i. get_or ds i 0) ws
unfolding combination digits
combination_number ws ds h = combine_same _ _ ws (λ i. omega (arith, number_digit 6 ds h i))

number_combine : (ds : List ℕ) → length ds ≤ 6 → number_of ds ≡ combine (λ i. get_or ds i 0) basis
number_combine ds h = sym (mod-eq_of_lt (number_below 6 ds h)) ∙ in_basis (number_of ds) ∙ combination_number basis ds h

pub kept_combine : (ρ v : ℕ) → kept ρ v ≡ combine (λ i. (1 - bit ρ i) * digit v i) basis
unfolding kept blanked_from digits digits_of
kept_combine ρ v =
    number_combine (blanked_from 0 ρ (digits v)) (lit≤ tt) ∙ combine_same _ _ basis (λ i. ap (λ (n : ℕ). n % 3) (blanked_at ρ (digits v) i))

-- A LINEAR FUNCTION of a span
pub span_map : {f : ℕ → ℕ} → Linear f → (ps : List ℕ) (v : ℕ) → Span ps v → Span (map f ps) (f v)
span_map {f} l ps v s = rw (sym (at_rest l v) ∙ ap f s.same ∙ at_combine l s.by ps) (span_combine s.by (map f ps))

-- WIDENED: digits struck out, by symbols struck out, combine to what digits made 0 do by all symbols
struck_length : (i mask : ℕ) (xs : List ℕ) → length (struck_from i mask xs) ≤ length xs
unfolding struck_from
struck_length i mask [] = omega arith
struck_length i mask (x ∷ xs) = go (eqb (bit mask i) 0) (struck_length (suc i) mask xs)
  where
    go : (b : Bool) → length (struck_from (suc i) mask xs) ≤ length xs
        → length (cond b (x ∷ struck_from (suc i) mask xs) (struck_from (suc i) mask xs)) ≤ length (x ∷ xs)
    go true h = omega arith
    go false h = omega arith

struck_combine : (i mask : ℕ) (ds ws : List ℕ)
    → combine (λ k. get_or (struck_from i mask ds) k 0) (struck_from i mask ws) ≡ combine (λ k. get_or (blanked_from i mask ds) k 0) ws
unfolding combine struck_from blanked_from
struck_combine i mask [] ws = combine_none (struck_from i mask ws) ∙ sym (combine_none ws)
struck_combine i mask (d ∷ ds) [] = refl
struck_combine i mask (d ∷ ds) (w ∷ ws) = go (eqb (bit mask i) 0) (struck_combine (suc i) mask ds ws)
  where
    s : List ℕ
    s = struck_from (suc i) mask ds

    t : List ℕ
    t = struck_from (suc i) mask ws

    go : (b : Bool) → combine (λ k. get_or s k 0) t ≡ combine (λ k. get_or (blanked_from (suc i) mask ds) k 0) ws
        → combine (λ k. get_or (cond b (d ∷ s) s) k 0) (cond b (w ∷ t) t) ≡ combine (λ k. get_or (cond b d 0 ∷ blanked_from (suc i) mask ds) k 0) (w ∷ ws)
    go true h = ap (add (scale d w)) h
    go false h = h ∙ sym (combine_skip 0 w _ ws refl)

-- NARROWED: digits made 0, by symbols moved down past dead lines, combine to what digits struck out do by the symbols
unfoldable spread : (left i mask : ℕ) → List ℕ → List ℕ
spread zero i mask ws = []
spread (suc n) i mask [] = []
spread (suc n) i mask (w ∷ ws) = cond (eqb (bit mask i) 0) (w ∷ spread n (suc i) mask ws) (0 ∷ spread n (suc i) mask (w ∷ ws))

spread_combine : (i mask : ℕ) (ds ws : List ℕ)
    → combine (λ k. get_or (blanked_from i mask ds) k 0) (spread (length ds) i mask ws) ≡ combine (λ k. get_or (struck_from i mask ds) k 0) ws
unfolding combine struck_from blanked_from spread
spread_combine i mask [] ws = sym (combine_none ws)
spread_combine i mask (d ∷ ds) [] = refl
spread_combine i mask (d ∷ ds) (w ∷ ws) = go (eqb (bit mask i) 0) (spread_combine (suc i) mask ds ws) (spread_combine (suc i) mask ds (w ∷ ws))
  where
    s : List ℕ
    s = struck_from (suc i) mask ds

    e : List ℕ
    e = blanked_from (suc i) mask ds

    near : List ℕ
    near = spread (length ds) (suc i) mask ws

    far : List ℕ
    far = spread (length ds) (suc i) mask (w ∷ ws)

    go : (b : Bool) → combine (λ k. get_or e k 0) near ≡ combine (λ k. get_or s k 0) ws → combine (λ k. get_or e k 0) far ≡ combine (λ k. get_or s k 0) (w ∷ ws)
        → combine (λ k. get_or (cond b d 0 ∷ e) k 0) (cond b (w ∷ near) (0 ∷ far)) ≡ combine (λ k. get_or (cond b (d ∷ s) s) k 0) (w ∷ ws)
    go true g h = ap (add (scale d w)) g
    go false g h = combine_skip 0 0 _ far refl ∙ h

-- THE RANK: what spans the one list spans the other, widened or narrowed
module _ (ρ σ : ℕ) where
  abbrev wide : ℕ → ℕ
  wide = combination (struck_from 0 ρ basis)

  abbrev narrow : ℕ → ℕ
  narrow = combination (spread 6 0 ρ basis)

  widened : (v : ℕ) → wide (struck_column ρ v) ≡ kept ρ v
  unfolding struck_column kept digits digits_of blanked_from
  widened v =
      combination_number (struck_from 0 ρ basis) (struck_from 0 ρ (digits v)) (struck_length 0 ρ (digits v))
      ∙ struck_combine 0 ρ (digits v) basis ∙ sym (number_combine (blanked_from 0 ρ (digits v)) (lit≤ tt))

  narrowed : (v : ℕ) → narrow (kept ρ v) ≡ struck_column ρ v
  unfolding struck_column kept digits digits_of blanked_from
  narrowed v =
      combination_number (spread 6 0 ρ basis) (blanked_from 0 ρ (digits v)) (lit≤ tt)
      ∙ spread_combine 0 ρ (digits v) basis ∙ sym (number_combine (struck_from 0 ρ (digits v)) (struck_length 0 ρ (digits v)))

  blanked_spans : (ps : List ℕ) (i : ℕ) (c : List ℕ) → All (Span ps) (map (struck_column ρ) (struck_from i σ c))
      → All (Span (map wide ps)) (blanked_from i σ (map (kept ρ) c))
  unfolding struck_from blanked_from
  blanked_spans ps i [] h = tt
  blanked_spans ps i (x ∷ c) h = go (eqb (bit σ i) 0) h (blanked_spans ps (suc i) c)
    where
      go : (b : Bool) → All (Span ps) (map (struck_column ρ) (cond b (x ∷ struck_from (suc i) σ c) (struck_from (suc i) σ c)))
          → (All (Span ps) (map (struck_column ρ) (struck_from (suc i) σ c)) → All (Span (map wide ps)) (blanked_from (suc i) σ (map (kept ρ) c)))
          → All (Span (map wide ps)) (cond b (kept ρ x) 0 ∷ blanked_from (suc i) σ (map (kept ρ) c))
      go true h f = (rw (widened x) at (span_map (combination_linear (struck_from 0 ρ basis)) ps _ h.0), f h.1)
      go false h f = (span_zero refl, f h)

  struck_spans : (ps : List ℕ) (i : ℕ) (c : List ℕ) → All (Span ps) (blanked_from i σ (map (kept ρ) c))
      → All (Span (map narrow ps)) (map (struck_column ρ) (struck_from i σ c))
  unfolding struck_from blanked_from
  struck_spans ps i [] h = tt
  struck_spans ps i (x ∷ c) h = go (eqb (bit σ i) 0) h.0 (struck_spans ps (suc i) c h.1)
    where
      go : (b : Bool) → Span ps (cond b (kept ρ x) 0) → All (Span (map narrow ps)) (map (struck_column ρ) (struck_from (suc i) σ c))
          → All (Span (map narrow ps)) (map (struck_column ρ) (cond b (x ∷ struck_from (suc i) σ c) (struck_from (suc i) σ c)))
      go true h r = (rw (narrowed x) at (span_map (combination_linear (spread 6 0 ρ basis)) ps _ h), r)
      go false h r = r

  pub struck_rank : (c : List ℕ) → rank (struck_out ρ σ c) ≡ rank (blanked ρ σ c)
  unfolding struck_out blanked
  struck_rank c =
      let s = rank_echelon (struck_out ρ σ c) in
      let t = rank_echelon (blanked ρ σ c) in
      omega (
        arith,
        s.count,
        t.count,
        length-map s.by wide,
        length-map t.by narrow,
        rank_least (blanked ρ σ c) (map wide s.by) (blanked_spans s.by 0 c s.spans),
        rank_least (struck_out ρ σ c) (map narrow t.by) (struck_spans t.by 0 c t.spans),
      )
