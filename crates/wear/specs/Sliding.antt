-- A run of w cards that slides along a body (a sliding window): the sum of f over its cards, and f of each card n in place n % 64 of a list. It
-- grows by the next card, or moves on by one card.
-- Main: Fits; run_moved, run_bounded; Keeps, keeps_none, keeps_grown, keeps_moved, keeps_leaves, keeps_small.
use Rattle.std.specs.Prelude.{◌≡◌, true, List, length, get_or, set}
use Rattle.std.proofs.Math.Path.{refl}
use Rattle.std.proofs.Common.{◌∙◌, add-one, get_or-set_same, get_or-set_other}
use Prim.Native.Nat.{ℕ, zero, suc, ◌+◌, ◌*◌, ◌-◌, ◌%◌, ◌≤◌, ◌<◌}
use Rattle.std.proofs.Math.Decide.{ℕ_discrete}
use native.Mathlib.Omega.{arith}
use Rattle.std.proofs.Math.ListN.{length-set}
use Rattle.book.specs.Layout.{body_good}
use Rattle.book.specs.Reading.{cards_in}
use Rattle.wear.specs.Wear.{run_sum}

-- what was tested of a body and the width of its runs
pub record Fits (body : List ℕ) (w : ℕ) : Type 0 where
  pub good : body_good body ≡ true
  pub some : 1 ≤ w
  pub places : w ≤ 64
  pub cards : w ≤ cards_in body

module _ (f : ℕ → ℕ) where
  -- SUMS: that of the next run is without this card, and with the next
  pub run_moved : (w n : ℕ) → run_sum f w (n + 1) + f n ≡ run_sum f w n + f (n + w)
  unfolding run_sum
  run_moved zero n = let e : n + 0 ≡ n = omega arith in rw e
  run_moved (suc w) n =
      let e : n + 1 + w ≡ n + suc w = omega arith in
      rw e (omega (arith, run_moved w n))

  -- of numbers up to 6
  pub run_bounded : ((n : ℕ) → f n ≤ 6) → (w n : ℕ) → run_sum f w n ≤ 6 * w
  unfolding run_sum
  run_bounded h zero n = omega arith
  run_bounded h (suc w) n = omega (arith, run_bounded h w n, h (n + w))

  -- THE RUN of the w cards from card s on is kept
  pub record Keeps (w s : ℕ) (kept : List ℕ) (sum : ℕ) : Type 0 where
    pub places : length kept ≡ 64
    pub each : (n : ℕ) → s ≤ n → n < s + w → get_or kept (n % 64) 0 ≡ f n
    pub adds : sum ≡ run_sum f w s

  -- of no cards
  pub keeps_none : (s : ℕ) (kept : List ℕ) → length kept ≡ 64 → Keeps 0 s kept 0
  unfolding run_sum
  keeps_none s kept p = record { places = p; each = λ n l h. absurd (omega arith); adds = refl }

  -- the next card, c, is put in a place that no other card of the run has
  module _ {w s : ℕ} {kept : List ℕ} {sum : ℕ} (g : Keeps w s kept sum) (c x : ℕ) (p : c ≡ s + w) (e : x ≡ f c) where
    put : (n : ℕ) → s ≤ n → n ≤ c → c < n + 64 → get_or (set kept (c % 64) x) (n % 64) 0 ≡ f n
    put n l h b =
        elim (ℕ_discrete n c) [
          | yes q ↦ rw q (get_or-set_same kept (c % 64) x 0 (omega (arith, g.places)) ∙ e)
          | no d ↦ get_or-set_other kept (c % 64) (n % 64) x 0 (λ q. omega arith) ∙ g.each n l (omega arith)
        ]

    -- one card more
    pub keeps_grown : w < 64 → Keeps (w + 1) s (set kept (c % 64) x) (sum + x)
    unfolding run_sum
    keeps_grown h = record {
      places = simp length-set g.places;
      each = λ n l b. put n l (omega arith) (omega arith);
      adds = rw (add-one w, g.adds, e, p);
    }

    -- one card on: the first one leaves. It is part of the sum
    leaves : 1 ≤ w → (get_or kept (s % 64) 0 ≤ sum + x) × (sum + x - get_or kept (s % 64) 0 ≡ run_sum f w (s + 1))
    leaves a =
        let m = run_moved w s in
        rw (g.adds, e, p, g.each s (omega arith) (omega arith)) (omega arith, omega arith)

    pub keeps_moved : 1 ≤ w → w ≤ 64 → Keeps w (s + 1) (set kept (c % 64) x) (sum + x - get_or kept (s % 64) 0)
    keeps_moved a h = record {
      places = simp length-set g.places;
      each = λ n l b. put n (omega arith) (omega arith) (omega arith);
      adds = (leaves a).1;
    }

    pub keeps_leaves : 1 ≤ w → get_or kept (s % 64) 0 ≤ sum + x
    keeps_leaves a = (leaves a).0

    -- and the sum is small
    pub keeps_small : ((n : ℕ) → f n ≤ 6) → w ≤ 64 → sum + x ≤ 390
    keeps_small h b = rw (g.adds, e) (omega (arith, run_bounded h w s, h c))
