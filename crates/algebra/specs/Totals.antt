-- Totals f s + f (s + 1) + .. of symbols: linear functions go past them, and they past one another, so a square of symbols undoes its inverse square.
-- Main: total_same, total_none, undone.
use Rattle.std.specs.Prelude.{◌≡◌, refl, cond, ℕ, zero, suc, ◌+◌, ◌%◌, ◌≤◌, ◌<◌, eqb}
use Rattle.std.proofs.Common.{sym, ap, ap₂, ◌∙◌, arith}
use Rattle.algebra.specs.Field.{add, times}
use Rattle.algebra.specs.Tests.{every, tested_2, below_six}
use Rattle.algebra.specs.Digits.{add_zero}
use Rattle.algebra.specs.Sums.{sums}
use Rattle.algebra.specs.Linear.{Linear, at_zero}
use Rattle.algebra.specs.Products.{ring, right, left, times_assoc}

-- n terms, from f s on
unfoldable pub total : (n s : ℕ) → (ℕ → ℕ) → ℕ
total zero s f = 0
total (suc n) s f = add (f s) (total n (suc s) f)

pub total_same : (n s : ℕ) (f g : ℕ → ℕ) → ((i : ℕ) → s ≤ i → i < n + s → f i ≡ g i) → total n s f ≡ total n s g
unfolding total
total_same zero s f g e = refl
total_same (suc n) s f g e =
    ap₂ add (e s (omega arith) (omega arith)) (total_same n (suc s) f g (λ i p q. e i (omega arith) (omega arith)))

total_zeros : (n s : ℕ) → total n s (λ i. 0) ≡ 0
unfolding total
total_zeros zero s = refl
total_zeros (suc n) s = ap (add 0) (total_zeros n (suc s)) ∙ add_zero 0

pub total_none : (n s : ℕ) (f : ℕ → ℕ) → ((i : ℕ) → s ≤ i → i < n + s → f i ≡ 0) → total n s f ≡ 0
total_none n s f e = total_same n s f (λ i. 0) e ∙ total_zeros n s

total_add : (n s : ℕ) (f g : ℕ → ℕ) → total n s (λ i. add (f i) (g i)) ≡ add (total n s f) (total n s g)
unfolding total
total_add zero s f g = sym (add_zero 0)
total_add (suc n) s f g = ap (add _) (total_add n (suc s) f g) ∙ simp sums

at_total : {f : ℕ → ℕ} → Linear f → (n s : ℕ) (g : ℕ → ℕ) → f (total n s g) ≡ total n s (λ i. f (g i))
unfolding total
at_total l zero s g = at_zero l
at_total l (suc n) s g = l.sum (g s) (total n (suc s) g) ∙ ap (add _) (at_total l n (suc s) g)

-- two totals change places
total_swap : (n s m t : ℕ) (f : ℕ → ℕ → ℕ) → total n s (λ i. total m t (f i)) ≡ total m t (λ j. total n s (λ i. f i j))
unfolding total
total_swap zero s m t f = sym (total_zeros m t)
total_swap (suc n) s m t f = ap (add _) (total_swap n (suc s) m t f) ∙ sym (total_add m t (f s) (λ j. total n (suc s) (λ i. f i j)))

-- INVERSE SQUARES: where b times a is 1 on the diagonal and 0 elsewhere, f times b times a is f
unfoldable pub diagonal : (i j : ℕ) → ℕ
diagonal i j = cond (eqb i j) 1 0

pub diagonal_turned : (i j : ℕ) → i < 6 → j < 6 → diagonal j i ≡ diagonal i j
unfolding every diagonal
diagonal_turned = tested_2 6 6 (λ i j. diagonal j i) diagonal refl

picked : (f : ℕ → ℕ) (j : ℕ) → j < 6 → total 6 0 (λ i. times (f i) (diagonal i j)) ≡ f j % 729
unfolding total diagonal
picked f = below_six _ (simp ring) (simp ring) (simp ring) (simp ring) (simp ring) (simp ring)

pub undone : (f : ℕ → ℕ) (b a : ℕ → ℕ → ℕ) → ((i j : ℕ) → i < 6 → j < 6 → total 6 0 (λ s. times (b i s) (a s j)) ≡ diagonal i j)
    → (j : ℕ) → j < 6 → total 6 0 (λ s. times (total 6 0 (λ i. times (f i) (b i s))) (a s j)) ≡ f j % 729
undone f b a one j h = simp (inside, times_assoc) (
    total_swap 6 0 6 0 (λ s i. times (f i) (times (b i s) (a s j)))
    ∙ total_same 6 0 _ _ (λ i p q. sym (at_total (right (f i)) 6 0 (λ s. times (b i s) (a s j))) ∙ ap (times (f i)) (one i j (omega arith) h))
    ∙ picked f j h)
  where
    inside : (s : ℕ) → times (total 6 0 (λ i. times (f i) (b i s))) (a s j) ≡ total 6 0 (λ i. times (times (f i) (b i s)) (a s j))
    inside s = at_total (left (a s j)) 6 0 (λ i. times (f i) (b i s))
