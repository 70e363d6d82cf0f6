-- What holds once the tests of an operation are passed, and a symbol received.
-- Main: levels_passed, symbols_passed, receive_refused, receive_passed, digit_read, received_is.
use Rattle.std.specs.Prelude.{◌≡◌, Bool, true, ◌&&◌, not, List, ℕ, ◌+◌, ◌*◌, ◌<◌, eqb, length, get_or, ℤ, pos}
use Rattle.std.proofs.Common.{sym, ◌∙◌, mod-eq_of_lt, SFits, to_z, of_z}
use Rattle.std.proofs.Math.Path.{ap}
use Rattle.std.proofs.Math.Bool.{false}
use native.Mathlib.Omega.{arith}
use Rattle.std.specs.Int.{w16}
use Rattle.std.proofs.lemmas.Int.{to_z-of_z}
use Rattle.algebra.specs.Field.{number_of}
use Rattle.algebra.specs.Lists.{table}
use Rattle.algebra.specs.Tests.{any, any_above}
use Rattle.codec.specs.Operations.{tests}
use Rattle.codec.specs.Refusals.{lists_passed}
use Rattle.levels.specs.Levels.{outside, sample_digit, sample_at, received_symbol}
use Rattle.levels.specs.Received.{sample_digit_below}
use Rattle.cable.specs.Operations.{levels_refusal, symbols_refusal, receive_refusal}

-- THE TESTS PASSED: both lists have their lengths, and no number is out of its range
pub levels_passed : (c : List ℕ) (r : ℕ) → levels_refusal c r ≡ 0 → (length c ≡ 6) × (r ≡ 6) × (any_above 728 c ≡ false)
unfolding levels_refusal
levels_passed c r e = lists_passed (length c) 6 r 6 (any_above 728 c) e

pub symbols_passed : (ns : List ℤ) (r : ℕ) → symbols_refusal ns r ≡ 0 → (length ns ≡ 6) × (r ≡ 6) × (any outside ns ≡ false)
unfolding symbols_refusal
symbols_passed ns r e = lists_passed (length ns) 6 r 6 (any outside ns) e

-- the one test of the receiver
module _ (s : List ℤ) (room : ℕ) (fit : Bool) (e : fit ≡ (eqb (length s) 36 && eqb room 6)) where
  receive_tests : receive_refusal s room ≡ tests false (not fit) false
  unfolding receive_refusal
  receive_tests = ap (λ (b : Bool). tests false (not b) false) (sym e)

  pub receive_refused : not fit ≡ true → receive_refusal s room ≡ 2
  unfolding tests
  receive_refused f = receive_tests ∙ ap (λ (b : Bool). tests false b false) f

  pub receive_passed : not fit ≡ false → (length s ≡ 36) × (room ≡ 6) × (receive_refusal s room ≡ 0)
  unfolding receive_refusal tests
  receive_passed f =
      let none : receive_refusal s room ≡ 0 = receive_tests ∙ ap (λ (b : Bool). tests false b false) f in
      let p = lists_passed (length s) 36 room 6 false none in
      (p.0, p.1, none)

-- A SYMBOL RECEIVED: its digits one by one, each of a sample read back from 16 bits
pub digit_read : (s : List ℤ) (i d : ℕ) → SFits w16 (get_or s i (pos 0)) → d ≡ sample_digit (to_z w16 (of_z w16 (get_or s i (pos 0)))) → d ≡ sample_digit (get_or s i (pos 0))
digit_read s i d f e = e ∙ ap sample_digit (to_z-of_z w16 (get_or s i (pos 0)) f)

six_digits : (f : ℕ → ℕ) → ((i : ℕ) → f i < 3) → f 0 + 3 * f 1 + 9 * f 2 + 27 * f 3 + 81 * f 4 + 243 * f 5 ≡ number_of (table 6 f)
unfolding number_of table
six_digits f h =
    rw (mod-eq_of_lt (h 0), mod-eq_of_lt (h 1), mod-eq_of_lt (h 2), mod-eq_of_lt (h 3), mod-eq_of_lt (h 4), mod-eq_of_lt (h 5)) (omega arith)

module _ (s : List ℤ) (j : ℕ) where
  pub received_is : (a b c d e f : ℕ) → a ≡ sample_digit (get_or s (6 * j) (pos 0)) → b ≡ sample_digit (get_or s (6 * j + 1) (pos 0))
      → c ≡ sample_digit (get_or s (6 * j + 2) (pos 0)) → d ≡ sample_digit (get_or s (6 * j + 3) (pos 0)) → e ≡ sample_digit (get_or s (6 * j + 4) (pos 0))
      → f ≡ sample_digit (get_or s (6 * j + 5) (pos 0)) → a + 3 * b + 9 * c + 27 * d + 81 * e + 243 * f ≡ received_symbol s j
  unfolding received_symbol sample_at
  received_is a b c d e f p q r t u v =
      let start : 6 * j ≡ 6 * j + 0 = omega arith in
      let first = p ∙ ap (λ (i : ℕ). sample_digit (get_or s i (pos 0))) start in
      omega (arith, first, q, r, t, u, v, six_digits (λ i. sample_digit (sample_at s j i)) (λ i. sample_digit_below (sample_at s j i)))
