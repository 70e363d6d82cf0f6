-- What holds once the tests of an operation are passed, and what an operation leaves where it refuses and where it is done.
-- Main: k_good, tests_passed, lists_passed, encode_passed, syndrome_passed, encoded_refused, encoded_done, tested_refused, tested_done.
use Rattle.std.specs.Prelude.{◌≡◌, refl, Bool, true, false, ◌&&◌, not, List, ℕ, ◌*◌, ◌-◌, ◌≤◌, leb, eqb, length, Result, Ok, Err}
use Rattle.std.proofs.Common.{sym, arith, leb-true, eqb-true, eq-eqb}
use Rattle.std.proofs.lemmas.Bool.{not-false}
use Rattle.algebra.specs.Tests.{any_above, both}
use Rattle.refusal.specs.declared.Refusal.{Refusal}
use Rattle.refusal.specs.Replies.{number, refusal_some, outcome, unless_refused, unless_done, refused_number, no_refusal}
use Rattle.coding.specs.Code.{word, is_message, test_values}
use Rattle.coding.specs.Mu.{mu}
use Rattle.codec.specs.Operations.{k_bad, tests, encode_refusal, Encoded, syndrome_refusal, Tested}

pub k_good : (k : ℕ) → k_bad k ≡ false → (1 ≤ k) × (k ≤ 5)
unfolding k_bad
k_good k e =
    let t = both (leb 1 k) (leb k 5) (not-false (leb 1 k && leb k 5) e) in
    (leb-true 1 k t.0, leb-true k 5 t.1)

pub tests_passed : (d l r : Bool) → tests d l r ≡ 0 → (d ≡ false) × (l ≡ false) × (r ≡ false)
unfolding tests
tests_passed true l r e = absurd (omega arith)
tests_passed false true r e = absurd (omega arith)
tests_passed false false true e = absurd (omega arith)
tests_passed false false false e = (refl, refl, refl)

-- the test of k alone, and the tests after it
pub tests_refused : (d l r : Bool) (x : Refusal) → number x ≡ tests d false false → number x ≡ tests d l r
unfolding tests
tests_refused true l r x e = e
tests_refused false l r x e = absurd (refusal_some x e)

pub tests_good : (d l r : Bool) → 0 ≡ tests d false false → tests false l r ≡ tests d l r
unfolding tests
tests_good true l r e = absurd (omega arith)
tests_good false l r e = refl

pub both_equal : (a b : ℕ) (t : Bool) → not (eqb a b && t) ≡ false → (a ≡ b) × (t ≡ true)
both_equal a b t e = let s = both (eqb a b) t (not-false (eqb a b && t) e) in (eqb-true a b s.0, s.1)

-- the tests of two lists, without a k
pub lists_passed : (a m b n : ℕ) (r : Bool) → tests false (not (eqb a m && eqb b n)) r ≡ 0 → (a ≡ m) × (b ≡ n) × (r ≡ false)
lists_passed a m b n r e =
    let (_, l, q) = tests_passed false _ r e in
    let (s, t) = both_equal a m (eqb b n) l in
    (s, eqb-true b n t, q)

pub fits : (n l most : ℕ) (v : List ℕ) → n ≡ l → any_above most v ≡ false → (eqb n l && not (any_above most v)) ≡ true
fits n l most v p r = rw (eq-eqb n l p, r)

pub encode_passed : (k : ℕ) (m : List ℕ) (w : ℕ) → encode_refusal k m w ≡ 0 → (1 ≤ k) × (k ≤ 5) × (length m ≡ 2 * k) × (is_message k m ≡ true) × (w ≡ 6)
unfolding encode_refusal is_message
encode_passed k m w e =
    let (d, l, r) = tests_passed (k_bad k) _ (any_above 26 m) e in
    let (f, g) = k_good k d in
    let (p, q) = both_equal (length m) (2 * k) (eqb w 6) l in
    (f, g, p, fits (length m) (2 * k) 26 m p r, eqb-true w 6 q)

pub syndrome_passed : (k : ℕ) (c : List ℕ) (v : ℕ) → syndrome_refusal k c v ≡ 0 → (1 ≤ k) × (k ≤ 5) × (length c ≡ 6) × (v ≡ 12 - 2 * k)
unfolding syndrome_refusal
syndrome_passed k c v e =
    let (d, l, r) = tests_passed (k_bad k) _ (any_above 728 c) e in
    let (f, g) = k_good k d in
    let (p, q) = both_equal (length c) 6 (eqb v (12 - 2 * k)) l in
    (f, g, p, eqb-true v (12 - 2 * k) q)

-- ENCODE
module _ {A : Type 0} (k : ℕ) (m w : List ℕ) (r : Result A Refusal) (e : outcome r ≡ encode_refusal k m (length w)) where
  pub encoded_refused : (x : Refusal) → r ≡ Err x → Encoded k m w (Err x) w
  encoded_refused x q =
      let (s, t) = refused_number _ r x e q in
      record { answers = s; word_is = unless_refused (encode_refusal k m (length w)) (word k m) w t }

  pub encoded_done : (x : A) → r ≡ Ok x → (v : List ℕ) → v ≡ word k m → Encoded k m w (Ok tt) v
  encoded_done x q v h = let s = no_refusal _ r e q in record { answers = sym s; word_is = unless_done _ (word k m) w v s h }

-- SYNDROME
module _ {A : Type 0} (k : ℕ) (c v : List ℕ) (r : Result A Refusal) (e : outcome r ≡ syndrome_refusal k c (length v)) where
  pub tested_refused : (x : Refusal) → r ≡ Err x → Tested k c v (Err x) v
  tested_refused x q =
      let (s, t) = refused_number _ r x e q in
      record { answers = s; values_are = unless_refused (syndrome_refusal k c (length v)) (test_values k (mu k) c) v t }

  pub tested_done : (x : A) → r ≡ Ok x → (u : List ℕ) → u ≡ test_values k (mu k) c → Tested k c v (Ok tt) u
  tested_done x q u h = let s = no_refusal _ r e q in record { answers = sym s; values_are = unless_done _ (test_values k (mu k) c) v u s h }
