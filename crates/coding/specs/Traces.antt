-- Traces: three equations between linear functions, each by their values at the basis, say which part of a symbol a trace tells, and
-- small_of a trace is 0 exactly if the trace is.
-- Main: first_high, last_low, traces_none, small_of_none, small_of_zero.
use Rattle.std.specs.Prelude.{◌≡◌, refl, Bool, true, false, cond, ℕ, zero, suc, ◌+◌, ◌-◌, ◌%◌, ◌≤◌, eqb}
use Rattle.std.proofs.Common.{sym, ap, ap₂, ◌∙◌, arith, eqb-true}
use Rattle.algebra.specs.Field.{add, times, risen, small, gamma, small_from, small_of}
use Rattle.coding.specs.Code.{trace}
use Rattle.algebra.specs.Tests.{one_to_five}
use Rattle.algebra.specs.Digits.{add_below}
use Rattle.algebra.specs.Sums.{Zero, sums}
use Rattle.algebra.specs.Linear.{Linear, composed, summed, rest_linear, computing, images, agree}
use Rattle.algebra.specs.Products.{right, risen_add}
use Rattle.algebra.specs.SmallField.{low, high}
use Rattle.algebra.proofs.SmallField.{small_linear, low_linear, high_linear}

pub trace_linear : Linear trace
unfolding trace
trace_linear = record { below = λ v. add_below v (risen 3 v); sum = λ a b. ap (add (add a b)) (risen_add 3 a b) ∙ simp sums }

-- THE FIRST TEST VALUE's is a constant times the high part of R(0)
unfoldable pub first_trace : (k v : ℕ) → ℕ
first_trace k v = trace (times (risen (6 - k) gamma) (times (risen (6 - k) 377) v))

first_images : (k : ℕ) → 1 ≤ k → k ≤ 5 → images (first_trace k) ≡ images (λ v. times (first_trace k gamma) (small (high v)))
unfolding computing first_trace trace high
first_images = one_to_five _ refl refl refl refl refl

pub first_high : (k : ℕ) → 1 ≤ k → k ≤ 5 → (v : ℕ) → first_trace k v ≡ times (first_trace k gamma) (small (high v))
unfolding first_trace
first_high k p h =
    agree (composed trace_linear (composed (right _) (right _))) (composed (right _) (composed small_linear high_linear)) (first_images k p h)

pub first_not_zero : (k : ℕ) → 1 ≤ k → k ≤ 5 → ¬ Zero (first_trace k gamma)
unfolding computing first_trace trace
first_not_zero = one_to_five _ (omega arith) (omega arith) (omega arith) (omega arith) (omega arith)

-- THE LAST ONE's is a constant times the low part of R(k)
pub last_low : (v : ℕ) → trace (times 377 v) ≡ times 272 (small (low v))
unfolding computing trace low
last_low = agree (composed trace_linear (right 377)) (composed (right 272) (composed small_linear low_linear)) refl

pub last_factor : (k : ℕ) → 1 ≤ k → k ≤ 5 → risen k (risen (6 - k) 377) ≡ 377
unfolding computing
last_factor = one_to_five _ refl refl refl refl refl

-- THE TWO OF A PAIR give the symbol back
from_pair : (v : ℕ) → add (times 677 (trace v)) (times 646 (trace (times gamma v))) ≡ v % 729
unfolding computing trace
from_pair = agree (summed (composed (right 677) trace_linear) (composed (right 646) (composed trace_linear (right gamma)))) rest_linear refl

pub traces_none : (v : ℕ) → trace v ≡ 0 → trace (times gamma v) ≡ 0 → Zero v
unfolding computing
traces_none v p q = sym (from_pair v) ∙ ap₂ (λ (x y : ℕ). add (times 677 x) (times 646 y)) p q

-- small_of A SYMBOL IS 0 exactly if the symbol is 0
from_least : (n c v : ℕ) → c + n ≤ 27 → c ≤ small_from n c v
unfolding small_from
from_least zero c v h = omega arith
from_least (suc n) c v h = go (eqb (small c) v) (from_least n (suc c) v (omega arith))
  where
    go : (b : Bool) → suc c ≤ small_from n (suc c) v → c ≤ cond b c (small_from n (suc c) v)
    go true l = omega arith
    go false l = omega arith

pub small_of_none : (v : ℕ) → small_of v ≡ 0 → v ≡ 0
unfolding small_of small_from computing
small_of_none v = go (eqb 0 v) refl
  where
    go : (b : Bool) → eqb 0 v ≡ b → cond b 0 (small_from 26 1 v) ≡ 0 → v ≡ 0
    go true q e = sym (eqb-true 0 v q)
    go false q e = absurd (omega (arith, from_least 26 1 v (omega arith)))

pub small_of_zero : {v : ℕ} → v ≡ 0 → small_of v ≡ 0
unfolding small_of small_from computing
small_of_zero e = ap small_of e
