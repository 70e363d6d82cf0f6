-- The largest of f 1 .. f k and the first number that has it: what they are, that nothing else is, and the laws of a loop that looks for them.
-- Main: FirstLargest, largest_first, first_only; first_start, first_next.
use Rattle.std.specs.Prelude.{◌≡◌, refl, Bool, true, false, cond, ltb, eqb}
use Rattle.std.proofs.Math.Option.{some}
use Prim.Native.Nat.{ℕ, zero, suc, ◌+◌, ◌≤◌, ◌<◌}
use Rattle.std.proofs.Math.Decide.{ℕ_discrete}
use Rattle.std.proofs.Common.{add-one, arith, eq-eqb, ne_eqb, ltb-true, ltb-false, lt-ltb, le-ltb}
use Rattle.algebra.specs.Search.{first_from, search_first}
use Rattle.wear.specs.Wear.{largest, first_largest}

module _ (f : ℕ → ℕ) where
  -- number n has the value v: no number from 1 to k has a larger one, and none before n has the same
  pub record FirstLargest (k v n : ℕ) : Type 0 where
    pub low : 1 ≤ n
    pub high : n ≤ k
    pub has : f n ≡ v
    pub most : (i : ℕ) → 1 ≤ i → i ≤ k → f i ≤ v
    pub before : (i : ℕ) → 1 ≤ i → i < n → f i < v

  -- there is only one
  pub first_only : (k v n w m : ℕ) → FirstLargest k v n → FirstLargest k w m → (v ≡ w) × (n ≡ m)
  first_only k v n w m a b =
      let p = a.most m b.low b.high in
      let q = b.most n a.low a.high in
      let s : v ≡ w = omega (arith, a.has, b.has) in
      let l : n < m → ⊥ = λ h. omega (arith, b.before n a.low h, a.has) in
      let r : m < n → ⊥ = λ h. omega (arith, a.before m b.low h, b.has) in
      (s, omega arith)

  -- A LOOP that takes the numbers in turn: the first, and one more
  pub first_start : FirstLargest 1 (f 1) 1
  first_start = record {
    low = omega arith;
    high = omega arith;
    has = refl;
    most = λ i l h. let e : i ≡ 1 = omega arith in rw e (omega arith);
    before = λ i l h. absurd (omega arith);
  }

  module _ {k v n : ℕ} (a : FirstLargest k v n) where
    first_higher : v < f (k + 1) → FirstLargest (k + 1) (f (k + 1)) (k + 1)
    first_higher h = record {
      low = omega arith;
      high = omega arith;
      has = refl;
      most = λ i l b. elim (ℕ_discrete i (k + 1)) [ yes e ↦ rw e (omega arith) | no d ↦ omega (arith, a.most i l (omega arith)) ];
      before = λ i l b. omega (arith, a.most i l (omega arith));
    }

    first_kept : f (k + 1) ≤ v → FirstLargest (k + 1) v n
    first_kept h = record {
      low = a.low;
      high = omega (arith, a.high);
      has = a.has;
      most = λ i l b. elim (ℕ_discrete i (k + 1)) [ yes e ↦ rw e h | no d ↦ a.most i l (omega arith) ];
      before = a.before;
    }

    pub first_next : (b : Bool) → ltb v (f (k + 1)) ≡ b → FirstLargest (k + 1) (cond b (f (k + 1)) v) (cond b (k + 1) n)
    first_next true e = first_higher (ltb-true v (f (k + 1)) e)
    first_next false e = first_kept (omega (arith, ltb-false v (f (k + 1)) e))

  -- THE DEFINITIONS: the largest is that of some number, which such a loop finds
  largest_there : (k : ℕ) → (n : ℕ) × FirstLargest (suc k) (largest (suc k) f) n
  unfolding largest
  largest_there zero = (1, go (ℕ_discrete (f 1) 0))
    where
      go : Dec (f 1 ≡ 0) → FirstLargest 1 (cond (ltb 0 (f 1)) (f 1) 0) 1
      go (yes e) = rw (le-ltb 0 (f 1) (omega arith)) (rw e at first_start)
      go (no d) = rw (lt-ltb 0 (f 1) (omega arith)) first_start
  largest_there (suc k) =
      let (n, a) = largest_there k in
      (cond (ltb (largest (suc k) f) (f (suc (suc k)))) (suc (suc k)) n, rw (add-one (suc k)) at (first_next a _ refl))

  -- and the first number that has it is the first
  first_found : (k v n : ℕ) → FirstLargest k v n → first_from k 1 (λ i. eqb (f i) v) ≡ some n
  first_found k v n a =
      (search_first (λ i. eqb (f i) v) k 1 (k + 1) (omega arith) n).1 (record {
        low = a.low;
        high = omega (arith, a.high);
        passes = eq-eqb (f n) v a.has;
        before = λ i l b. ne_eqb (f i) v (λ q. omega (arith, a.before i l b));
      })

  pub largest_first : (k : ℕ) → 1 ≤ k → FirstLargest k (largest k f) (first_largest k f)
  unfolding first_largest
  largest_first zero h = absurd (omega arith)
  largest_first (suc k) h = let (n, a) = largest_there k in rw (first_found (suc k) (largest (suc k) f) n a) a
