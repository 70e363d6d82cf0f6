-- The steps of two masks: a multiplier for each dead line, such that all steps together take dead rows to 0 and never meet a dead column. The
-- tables' rule is computed for all masks.
-- Main: row_gone, column_avoided, raised_steps.
use Rattle.std.specs.Prelude.{◌≡◌, ◌≢◌, Bool, true, false, ◌&&◌, ◌||◌, not, cond}
use Rattle.std.proofs.Math.Path.{refl, ap, ap₂}
use Rattle.std.proofs.Common.{sym, ◌∙◌, true≢false, arith, lit<}
use mathlib.Core.List.{List, [], ◌∷◌, ◌++◌}
use Prim.Native.Nat.{ℕ, zero, suc, ◌+◌, ◌/◌, ◌%◌, ◌^◌, ◌<◌}
use Rattle.std.proofs.Math.Decide.{ℕ_discrete}
use Rattle.std.proofs.Math.Nat.{mod-eq_of_lt}
use Rattle.std.proofs.Math.Dec.{eqb}
use Rattle.std.proofs.Math.ListN.{length, length-append}
use borrow.Author.Tests.{eqb-true, eq-eqb, ne_eqb}
use Rattle.algebra.specs.Field.{minus, cube, risen}
use Rattle.algebra.specs.Tests.{every, every_at, both}
use Rattle.algebra.specs.Lists.{All, all_append}
use Rattle.algebra.specs.Digits.{digit}
use Rattle.algebra.specs.Combinations.{combine_digit}
use Rattle.algebra.specs.Linear.{at_rest, combination, images, expand, computing}
use Rattle.algebra.specs.Products.{risen_cube}
use Rattle.algebra.specs.Polynomials.{lower}
use Rattle.rank.specs.Definitions.{at}
use Rattle.rank.specs.Mask.{ones}
use Rattle.dead_lines.specs.Struck.{bit, dead_lines}
use Rattle.dead_lines.specs.Steps.{Step, Row, Column, raised, multiplier, after_lines, before_lines, after_linear, before_linear, Invertible, raised_all, line_stepped, line_step, back, unstepped}
use Rattle.dead_lines.specs.Multipliers.{row_multipliers, column_multipliers, steps_from, row_steps, column_steps, steps, step_if, back_if, six_steps, six_backs}

-- WHAT IS COMPUTED: dead rows go to 0
rows_test : every 64 (λ mask. every 6 (λ i. eqb (bit mask i) 0 || eqb (after_lines (row_steps mask) (3 ^ i)) 0)) ≡ true
unfolding computing bit row_multipliers steps_from row_steps after_lines lower at minus
rows_test = refl

-- dead columns are avoided: what comes before the polynomial has no digit there
unfoldable avoided : (mask v : ℕ) → Bool
avoided mask v = every 6 (λ j. eqb (bit mask j) 0 || eqb (digit v j) 0)

columns_test : every 64 (λ mask. every 6 (λ s. avoided mask (before_lines (column_steps mask) (3 ^ s)))) ≡ true
unfolding computing bit column_multipliers steps_from column_steps before_lines lower at minus avoided
columns_test = refl

-- no multiplier is 0
unfoldable units : List Step → Bool
units [] = true
units (s ∷ ss) = not (eqb (multiplier s 0 % 729) 0) && units ss

units_test : every 64 (λ mask. units (row_steps mask) && units (column_steps mask)) ≡ true
unfolding every bit row_multipliers column_multipliers steps_from row_steps column_steps units multiplier risen at
units_test = refl

units_are : (ss : List Step) → units ss ≡ true → All Invertible ss
unfolding units
units_are [] e = tt
units_are (s ∷ ss) e =
    let t = both (not (eqb (multiplier s 0 % 729) 0)) (units ss) e in
    (λ z. true≢false (sym (rw (eq-eqb (multiplier s 0 % 729) 0 z) at t.0)), units_are ss t.1)

-- WHAT HOLDS of the steps of a mask, and of how many lines are dead: so of no step, and so of one more
module _ (line : ℕ → Step) (ws : List ℕ) (P : (count : ℕ) → List Step → Type 0) (base : P 0 []) (more : (A c : ℕ) (ss : List Step) → P c ss → P (suc c) (line A ∷ ss)) where
  steps_all : (n i mask : ℕ) → P (ones n i mask) (steps_from n i line ws mask)
  unfolding steps_from ones bit
  steps_all zero i mask = base
  steps_all (suc n) i mask = go (ℕ_discrete (mask / 2 ^ i % 2) 0) (steps_all n (suc i) mask)
    where
      ss : List Step
      ss = steps_from n (suc i) line ws mask

      go : Dec (mask / 2 ^ i % 2 ≡ 0) → P (ones n (suc i) mask) ss
          → P (mask / 2 ^ i % 2 + ones n (suc i) mask) (cond (eqb (mask / 2 ^ i % 2) 0) ss (line (at ws (mask % 2 ^ suc i)) ∷ ss))
      go (yes e) h = let z : mask / 2 ^ i % 2 + ones n (suc i) mask ≡ ones n (suc i) mask = omega arith in rw (eq-eqb (mask / 2 ^ i % 2) 0 e, z) h
      go (no d) h = let z : mask / 2 ^ i % 2 + ones n (suc i) mask ≡ suc (ones n (suc i) mask) = omega arith in rw (ne_eqb (mask / 2 ^ i % 2) 0 d, z) (more _ _ ss h)

module _ (mask : ℕ) where
  rows_length : length (row_steps mask) ≡ dead_lines mask
  unfolding row_steps dead_lines
  rows_length = steps_all Row row_multipliers (λ c ss. length ss ≡ c) refl (λ A c ss h. ap suc h) 6 0 mask

  columns_length : length (column_steps mask) ≡ dead_lines mask
  unfolding column_steps dead_lines
  columns_length = steps_all Column column_multipliers (λ c ss. length ss ≡ c) refl (λ A c ss h. ap suc h) 6 0 mask

  -- rows do nothing before the polynomial, columns nothing after it, and only rows raise
  before_rows : (y : ℕ) → before_lines (row_steps mask) y ≡ y % 729
  unfolding row_steps before_lines
  before_rows y = steps_all Row row_multipliers (λ c ss. before_lines ss y ≡ y % 729) refl (λ A c ss h. h) 6 0 mask

  after_columns : (y : ℕ) → after_lines (column_steps mask) y ≡ y % 729
  unfolding column_steps after_lines
  after_columns y = steps_all Column column_multipliers (λ c ss. after_lines ss y ≡ y % 729) refl (λ A c ss h. h) 6 0 mask

  raised_rows : (t : ℕ) → raised_all (row_steps mask) t ≡ risen (dead_lines mask) t
  unfolding row_steps dead_lines raised_all raised risen
  raised_rows = steps_all Row row_multipliers (λ c ss. (t : ℕ) → raised_all ss t ≡ risen c t) (λ t. refl) (λ A c ss h t. h (cube t) ∙ risen_cube c t) 6 0 mask

  raised_columns : (t : ℕ) → raised_all (column_steps mask) t ≡ t
  unfolding column_steps raised_all raised
  raised_columns t = steps_all Column column_multipliers (λ c ss. raised_all ss t ≡ t) refl (λ A c ss h. h) 6 0 mask

-- TWO LISTS of steps, one behind the other
after_append : (ss ts : List Step) (y : ℕ) → after_lines (ss ++ ts) y ≡ after_lines ts (after_lines ss y)
unfolding after_lines
after_append [] ts y = sym (at_rest (after_linear ts) y)
after_append (Row A ∷ ss) ts y = after_append ss ts (lower A y)
after_append (Column A ∷ ss) ts y = after_append ss ts y

before_append : (ss ts : List Step) (y : ℕ) → before_lines (ss ++ ts) y ≡ before_lines ss (before_lines ts y)
unfolding before_lines
before_append [] ts y = sym (mod-eq_of_lt ((before_linear ts).below y))
before_append (Row A ∷ ss) ts y = before_append ss ts y
before_append (Column A ∷ ss) ts y = ap (lower A) (before_append ss ts y)

raised_append : (ss ts : List Step) (t : ℕ) → raised_all (ss ++ ts) t ≡ raised_all ts (raised_all ss t)
unfolding raised_all
raised_append [] ts t = refl
raised_append (s ∷ ss) ts t = raised_append ss ts (raised s t)

one_of : (a b : Bool) → (a || b) ≡ true → a ≡ false → b ≡ true
one_of true b e f = absurd (true≢false f)
one_of false b e f = e

-- THE STEPS OF TWO MASKS
module _ (ρ σ : ℕ) where
  pub steps_length : length (steps ρ σ) ≡ dead_lines ρ + dead_lines σ
  unfolding steps
  steps_length = length-append (row_steps ρ) (column_steps σ) ∙ ap₂ ◌+◌ (rows_length ρ) (columns_length σ)

  -- the last coefficient is raised by the dead rows
  pub raised_steps : (t : ℕ) → raised_all (steps ρ σ) t ≡ risen (dead_lines ρ) t
  unfolding steps
  raised_steps t = raised_append (row_steps ρ) (column_steps σ) t ∙ raised_columns σ _ ∙ raised_rows ρ t

  module _ (hρ : ρ < 64) (hσ : σ < 64) where
    pub steps_invertible : All Invertible (steps ρ σ)
    unfolding steps
    steps_invertible =
        let r = both (units (row_steps ρ)) (units (column_steps ρ)) (every_at 64 (λ mask. units (row_steps mask) && units (column_steps mask)) units_test ρ hρ) in
        let c = both (units (row_steps σ)) (units (column_steps σ)) (every_at 64 (λ mask. units (row_steps mask) && units (column_steps mask)) units_test σ hσ) in
        all_append Invertible (row_steps ρ) (column_steps σ) (units_are _ r.0) (units_are _ c.1)

    -- DEAD ROWS go to 0
    pub row_gone : (i : ℕ) → i < 6 → bit ρ i ≢ 0 → after_lines (steps ρ σ) (3 ^ i) ≡ 0
    unfolding steps
    row_gone i l n =
        let t = every_at 6 (λ i. eqb (bit ρ i) 0 || eqb (after_lines (row_steps ρ) (3 ^ i)) 0)
        (every_at 64 (λ mask. every 6 (λ i. eqb (bit mask i) 0 || eqb (after_lines (row_steps mask) (3 ^ i)) 0)) rows_test ρ hρ) i l in
        after_append (row_steps ρ) (column_steps σ) (3 ^ i) ∙ after_columns σ _
        ∙ ap (λ (v : ℕ). v % 729) (eqb-true _ 0 (one_of (eqb (bit ρ i) 0) _ t (ne_eqb (bit ρ i) 0 n)))

    -- DEAD COLUMNS are avoided
    column_image : (j : ℕ) → j < 6 → bit σ j ≢ 0 → (s : ℕ) → s < 6 → digit (before_lines (column_steps σ) (3 ^ s)) j ≡ 0
    unfolding avoided
    column_image j l n s b =
        let t = every_at 6 (λ s. avoided σ (before_lines (column_steps σ) (3 ^ s))) (every_at 64 (λ mask. every 6 (λ s. avoided mask (before_lines (column_steps mask) (3 ^ s)))) columns_test σ hσ) s b in
        eqb-true _ 0 (one_of (eqb (bit σ j) 0) _ (every_at 6 (λ j. eqb (bit σ j) 0 || eqb (digit (before_lines (column_steps σ) (3 ^ s)) j) 0) t j l) (ne_eqb (bit σ j) 0 n))

    pub column_avoided : (j : ℕ) → j < 6 → bit σ j ≢ 0 → (y : ℕ) → digit (before_lines (steps ρ σ) y) j ≡ 0
    unfolding steps combination
    column_avoided j l n y =
        let f = before_lines (column_steps σ) in
        let o = column_image j l n in
        let e = before_append (row_steps ρ) (column_steps σ) y ∙ before_rows ρ _ ∙ mod-eq_of_lt ((before_linear (column_steps σ)).below y) in
        rw (e ∙ expand (before_linear (column_steps σ)) y)
        (combine_digit j (digit y) (images f) (o 0 (lit< tt), (o 1 (lit< tt), (o 2 (lit< tt), (o 3 (lit< tt), (o 4 (lit< tt), (o 5 (lit< tt), tt)))))))

stepped_append : (ss ts : List Step) (h : ℕ → ℕ) → line_stepped (ss ++ ts) h ≡ line_stepped ts (line_stepped ss h)
unfolding line_stepped
stepped_append [] ts h = refl
stepped_append (s ∷ ss) ts h = stepped_append ss ts (line_step s h)

unstepped_append : (ss ts : List Step) (f : ℕ → ℕ) → unstepped (ss ++ ts) f ≡ unstepped ss (unstepped ts f)
unfolding unstepped
unstepped_append [] ts f = refl
unstepped_append (s ∷ ss) ts f = ap (back s) (unstepped_append ss ts f)

stepped_cond : (b : Bool) (s : Step) (ss : List Step) (h : ℕ → ℕ) → line_stepped (cond b ss (s ∷ ss)) h ≡ line_stepped ss (cond b h (line_step s h))
unfolding line_stepped
stepped_cond true s ss h = refl
stepped_cond false s ss h = refl

unstepped_cond : (b : Bool) (s : Step) (ss : List Step) (f : ℕ → ℕ) → unstepped (cond b ss (s ∷ ss)) f ≡ cond b (unstepped ss f) (back s (unstepped ss f))
unfolding unstepped
unstepped_cond true s ss f = refl
unstepped_cond false s ss f = refl

six_stepped : (line : ℕ → Step) (ws : List ℕ) (mask : ℕ) (h : ℕ → ℕ) → line_stepped (steps_from 6 0 line ws mask) h ≡ six_steps line ws mask h
unfolding steps_from six_steps step_if line_stepped bit
six_stepped line ws mask h = simp stepped_cond refl

six_unstepped : (line : ℕ → Step) (ws : List ℕ) (mask : ℕ) (f : ℕ → ℕ) → unstepped (steps_from 6 0 line ws mask) f ≡ six_backs line ws mask f
unfolding steps_from six_backs back_if unstepped bit
six_unstepped line ws mask f = simp unstepped_cond refl

pub all_stepped : (ρ σ : ℕ) (h : ℕ → ℕ) → line_stepped (steps ρ σ) h ≡ six_steps Column column_multipliers σ (six_steps Row row_multipliers ρ h)
unfolding steps row_steps column_steps
all_stepped ρ σ h = stepped_append (row_steps ρ) (column_steps σ) h ∙ ap (line_stepped (column_steps σ)) (six_stepped Row row_multipliers ρ h) ∙ six_stepped Column column_multipliers σ _

pub all_unstepped : (ρ σ : ℕ) (f : ℕ → ℕ) → unstepped (steps ρ σ) f ≡ six_backs Row row_multipliers ρ (six_backs Column column_multipliers σ f)
unfolding steps row_steps column_steps
all_unstepped ρ σ f = unstepped_append (row_steps ρ) (column_steps σ) f ∙ ap (unstepped (row_steps ρ)) (six_unstepped Column column_multipliers σ f) ∙ six_unstepped Row row_multipliers ρ _
