-- The mask of the chosen columns: bit j is set exactly if symbol j lies outside the span of those before it, and the set bits number the rank.
--
-- Main: mask, mask_bit, mask_tells, mask_clear, mask_counts.
use Rattle.std.specs.Prelude.{◌≡◌, refl, List, [], length, take}
use Rattle.std.proofs.Math.Path.{ap}
use Rattle.std.proofs.Common.{◌∙◌, take_all}
use Prim.Native.Nat.{ℕ, zero, suc, ◌+◌, ◌*◌, ◌/◌, ◌%◌, ◌^◌, ◌≤◌, ◌<◌}
use native.Mathlib.Omega.{arith}
use Rattle.algebra.specs.Tests.{below_six}
use Rattle.algebra.specs.Combinations.{Span}
use Rattle.rank.specs.Definitions.{at, rank}
use Rattle.rank.specs.Echelon.{rank_least}
use Rattle.rank.specs.Extension.{rank_grows, rank_grows_little, rank_inside, rank_outside, decide_span}
use Rattle.rank.specs.Elimination.{pivot_log, square, mask_of}
use Rattle.rank.specs.PivotColumns.{gain, gains, rank_take_suc, mask_gains}

-- the chosen columns of a card, as bits
abbrev pub mask : List ℕ → ℕ
mask c = mask_of (pivot_log (square c))

-- how many of the n bits of v from bit j on are set
unfoldable pub ones : (left j : ℕ) → (v : ℕ) → ℕ
ones zero j v = 0
ones (suc n) j v = v / 2 ^ j % 2 + ones n (suc j) v

module _ (c : List ℕ) (six : length c ≡ 6) where
  -- ONE GAIN
  pub gain_is : (j : ℕ) → j < 6 → rank (take (suc j) c) ≡ rank (take j c) + gain c j
  unfolding gain
  gain_is j h = omega (arith, rank_take_suc c six j h, rank_grows (take j c) (at c j))

  gain_few : (j : ℕ) → j < 6 → gain c j ≤ 1
  unfolding gain
  gain_few j h = omega (arith, rank_take_suc c six j h, rank_grows_little (take j c) (at c j))

  pub gain_inside : (j : ℕ) → j < 6 → Span (take j c) (at c j) → gain c j ≡ 0
  unfolding gain
  gain_inside j h s = omega (arith, rank_take_suc c six j h, rank_inside (take j c) (at c j) s)

  pub gain_outside : (j : ℕ) → j < 6 → ¬ Span (take j c) (at c j) → gain c j ≡ 1
  unfolding gain
  gain_outside j h n = omega (arith, rank_take_suc c six j h, rank_outside (take j c) (at c j) n)

  -- ALL GAINS
  mask_six : mask c ≡ gain c 0 + 2 * gain c 1 + 4 * gain c 2 + 8 * gain c 3 + 16 * gain c 4 + 32 * gain c 5
  unfolding gains
  mask_six = mask_gains c six ∙ omega arith

  few : (gain c 0 ≤ 1) × (gain c 1 ≤ 1) × (gain c 2 ≤ 1) × (gain c 3 ≤ 1) × (gain c 4 ≤ 1) × (gain c 5 ≤ 1)
  few = (
    gain_few 0 (omega arith),
    gain_few 1 (omega arith),
    gain_few 2 (omega arith),
    gain_few 3 (omega arith),
    gain_few 4 (omega arith),
    gain_few 5 (omega arith),
  )

  -- BIT j
  pub mask_bit : (j : ℕ) → j < 6 → mask c / 2 ^ j % 2 ≡ gain c j
  mask_bit =
      below_six (λ j. mask c / 2 ^ j % 2 ≡ gain c j)
      (omega (arith, mask_six, few))
      (omega (arith, mask_six, few))
      (omega (arith, mask_six, few))
      (omega (arith, mask_six, few))
      (omega (arith, mask_six, few))
      (omega (arith, mask_six, few))

  pub mask_tells : (j : ℕ) → j < 6
      → (mask c / 2 ^ j % 2 ≡ 1 → ¬ Span (take j c) (at c j)) × (¬ Span (take j c) (at c j) → mask c / 2 ^ j % 2 ≡ 1)
  mask_tells j h = (λ e s. omega (arith, mask_bit j h, gain_inside j h s), λ n. mask_bit j h ∙ gain_outside j h n)

  pub mask_clear : (j : ℕ) → j < 6 → mask c / 2 ^ j % 2 ≡ 0 → Span (take j c) (at c j)
  mask_clear j h e = elim (decide_span (take j c) (at c j)) [
    | yes s ↦ s
    | no n ↦ absurd (omega (arith, mask_bit j h, gain_outside j h n))
  ]

  -- THE NUMBER OF BITS
  counts : (n j : ℕ) → j + n ≡ 6 → rank (take j c) + ones n j (mask c) ≡ rank c
  unfolding ones
  counts zero j e = omega (arith, ap rank (take_all j c (omega arith)))
  counts (suc n) j e = omega (arith, mask_bit j (omega arith), gain_is j (omega arith), counts n (suc j) (omega arith))

  pub mask_counts : ones 6 0 (mask c) ≡ rank c
  mask_counts = omega (arith, counts 6 0 refl, rank_least [] [] tt)
