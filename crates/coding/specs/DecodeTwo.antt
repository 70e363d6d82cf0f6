-- Decoding for k = 2: three of the error's coefficients are the card's, and a message's first number gives a fourth, so they are a window. By it
-- the message's other coefficients follow: each of the 27 first numbers has one proposal.
-- Main: ninth_numerator, ninth, inner_coefficient, proposed, attempt, decode_two, two_is_decode.
use Rattle.std.specs.Prelude.{◌≡◌, refl, true, cond, List, [], ◌∷◌, ℕ, ◌%◌, ◌<◌}
use Rattle.std.proofs.Math.Path.{sym}
use Rattle.std.proofs.Common.{ap, ◌∙◌, arith, lit≤, lit<}
use Rattle.std.proofs.Math.Option.{Option, none}
use Rattle.std.proofs.Math.Nat.{mod-eq_of_lt}
use Rattle.std.proofs.Math.Dec.{eqb}
use borrow.Author.Tests.{eq-eqb}
use Rattle.algebra.specs.Field.{add, minus, times, cube, risen, small, gamma}
use Rattle.algebra.specs.Lists.{all_at, cons}
use Rattle.algebra.specs.Tests.{passed}
use Rattle.algebra.specs.Sums.{Zero, add_whole}
use Rattle.algebra.specs.Linear.{computing, agree, composed, none_linear}
use Rattle.algebra.specs.Products.{ring, right, cube_linear}
use Rattle.algebra.specs.Inverses.{inverse}
use Rattle.algebra.proofs.Inverses.{divide}
use Rattle.algebra.specs.SmallField.{low, high}
use Rattle.algebra.proofs.SmallField.{small_linear, small_fixed, low_small, high_gamma, high_linear}
use Rattle.rank.specs.Definitions.{at, is_card}
use Rattle.coding.specs.Code.{inner, is_message, Near}
use Rattle.coding.specs.Coefficients.{inners, higher, coefficients, read, read_higher, read_coefficients}
use Rattle.coding.specs.Options.{first_of}
use Rattle.coding.specs.Answers.{proposals_answer}
use Rattle.coding.specs.Decode.{if_near, near_checks, decode}
use Rattle.coding.specs.Spectrum.{spectrum}
use Rattle.coding.specs.Errors.{errors, errors_beyond}
use Rattle.coding.specs.Annihilator.{Annihilated, near_annihilated}
use Rattle.coding.specs.Window.{cube_minus, determinant, numerator, without, solved, determinant_next, solved_is}
use Rattle.coding.specs.Residual.{if_rank_one, determinant_answers}
use Rattle.coding.specs.Proved.{answered}

-- THE LAST SYMBOL of the message, if the error's first coefficient is x: its ninth power is a numerator over the determinant (684 is 1 / gamma⁹)
unfoldable pub ninth_numerator : (r : ℕ → ℕ) → (x : ℕ) → ℕ
ninth_numerator r x = times 684 (
    add (times (cube (cube (r 2))) (determinant (r 4) (r 5) x)) (add (times (numerator (r 3) (r 4) (r 5) x) (cube (r 3))) (times (cube (determinant (r 3) (r 4) (r 5))) (r 4))))

unfoldable pub ninth : (r : ℕ → ℕ) → (x : ℕ) → ℕ
ninth r x = times (inverse (determinant (r 4) (r 5) x)) (ninth_numerator r x)

-- the coefficient in between
unfoldable pub inner_coefficient : (r : ℕ → ℕ) → (x : ℕ) → ℕ
inner_coefficient r x = solved (r 3) (r 4) (r 5) x (r 1) (r 5) x

-- THE MESSAGE PROPOSED for a first number
unfoldable pub zeroth_error : (r : ℕ → ℕ) → (a : ℕ) → ℕ
zeroth_error r a = minus (r 0) (small a)

unfoldable pub proposed : (r : ℕ → ℕ) → (a : ℕ) → List ℕ
proposed r a =
    let x = zeroth_error r a in
    a ∷ low (inner_coefficient r x) ∷ high (inner_coefficient r x) ∷ low (cube (ninth r x)) ∷ []

-- checked against the card, where its last symbol is small
unfoldable pub attempt : (card : List ℕ) → (a : ℕ) → Option (List ℕ)
attempt c a = cond (eqb (high (ninth (spectrum c) (zeroth_error (spectrum c) a))) 0) (if_near 2 c (proposed (spectrum c) a)) none

-- DECODING for k = 2: where the determinant is 0 the error has rank at most 1, else the first of 27 proposals that is near
unfoldable pub decode_two : (card : List ℕ) → Option (List ℕ)
decode_two c = cond (eqb (determinant (spectrum c 3) (spectrum c 4) (spectrum c 5)) 0) (if_rank_one 2 c (spectrum c 4)) (first_of 27 (attempt c))

-- the last symbol's ninth power, in plain variables
last_step : (D N K b c e r f : ℕ) → ¬ Zero D → add (times D b) (add (times N c) (times K e)) ≡ 0 → b ≡ minus r f
    → times (inverse D) (times 684 (add (times r D) (add (times N c) (times K e)))) ≡ times 684 f
last_step D N K b c e r f n q h =
    ap (times (inverse D)) (before ∙ rw q after) ∙ divide D (times 684 (minus r b)) n ∙ rw h (simp ring)
  where
    before : times 684 (add (times r D) (add (times N c) (times K e))) ≡ add (times D (times 684 (minus r b))) (times 684 (add (times D b) (add (times N c) (times K e))))
    before = simp ring

    after : add (times D (times 684 (minus r b))) (times 684 0) ≡ times D (times 684 (minus r b))
    after = simp ring

-- and the last symbol back from it
ninth_last : (d : ℕ) → times 684 (cube (cube (times gamma (small d)))) ≡ cube (cube (small d))
unfolding computing
ninth_last = agree (composed (right 684) (composed cube_linear (composed cube_linear (composed (right gamma) small_linear))))
    (composed cube_linear (composed cube_linear small_linear)) refl

ninth_small : (d : ℕ) → high (cube (cube (small d))) ≡ 0
unfolding computing high
ninth_small = agree (composed high_linear (composed cube_linear (composed cube_linear small_linear))) none_linear refl

ninth_back : (d : ℕ) → low (cube (cube (cube (small d)))) ≡ d % 27
unfolding risen
ninth_back d = ap low (small_fixed d) ∙ low_small d

module _ (c : List ℕ) (card : is_card c ≡ true) where
  abbrev r : ℕ → ℕ
  r = spectrum c

  module _ (n : ¬ Zero (determinant (r 3) (r 4) (r 5))) (m : List ℕ) (near : Near 2 c m) where
    abbrev e : ℕ → ℕ
    e = errors 2 c m

    abbrev x : ℕ
    x = zeroth_error r (at m 0)

    abbrev A : Annihilated e
    A = near_annihilated 2 (lit≤ tt) (lit≤ tt) c card m near

    beyond : (i : ℕ) → 2 < i → e i ≡ r i
    beyond = errors_beyond 2 (lit≤ tt) (lit≤ tt) c card m

    unit : ¬ Zero (determinant (e 3) (e 4) (e 5))
    unit = rw (beyond 3 (lit< tt), beyond 4 (lit< tt), beyond 5 (lit< tt)) n

    ninth_is : ninth r x ≡ cube (cube (small (at m 3)))
    unfolding ninth ninth_numerator zeroth_error errors coefficients higher inners at
    ninth_is =
        last_step (determinant (r 4) (r 5) x) _ _ _ (cube (r 3)) (r 4) (cube (cube (r 2))) (cube (cube (times gamma (small (at m 3)))))
        (rw (beyond 4 (lit< tt), beyond 5 (lit< tt)) at (determinant_next A 5 (lit< tt) unit))
        (rw (beyond 3 (lit< tt), beyond 4 (lit< tt), beyond 5 (lit< tt)) at (without A 5 (lit< tt) _ _ _ (A.equation 4 (lit< tt)))) (simp cube_minus)
        ∙ ninth_last (at m 3)

    inner_is : inner_coefficient r x ≡ inner m 1
    unfolding inner_coefficient zeroth_error errors coefficients higher inners at inner
    inner_is =
        (rw (beyond 3 (lit< tt), beyond 4 (lit< tt), beyond 5 (lit< tt)) at (solved_is A 5 (lit< tt) unit 1 (r 1) (inner m 1) (lit< tt) refl)) ∙ add_whole _ _

    message_read : low (small (at m 0)) ∷ low (inner m 1) ∷ high (inner m 1) ∷ high (times gamma (small (at m 3))) ∷ [] ≡ m
    unfolding coefficients higher inners read read_higher
    message_read = read_coefficients 2 (lit≤ tt) (lit≤ tt) m near.message

    -- A NEAR MESSAGE is the one proposed for its first number
    first_below : at m 0 < 27
    unfolding is_message at
    first_below = let (l, b) = passed 4 26 m near.message in all_at (λ v. v < 27) 0 m b 0 (omega arith)

    near_ninth : high (ninth r x) ≡ 0
    near_ninth = ap high ninth_is ∙ ninth_small (at m 3)

    near_proposed : proposed r (at m 0) ≡ m
    unfolding proposed
    near_proposed =
        cons (sym (low_small (at m 0) ∙ mod-eq_of_lt first_below)) (cons (ap low inner_is) (cons (ap high inner_is)
        (cons (ap (λ (v : ℕ). low (cube v)) ninth_is ∙ ninth_back (at m 3) ∙ sym (high_gamma (at m 3))) refl)))
        ∙ message_read

  -- THE SAME as decode
  pub two_is_decode : decode_two c ≡ decode 2 c
  unfolding decode_two attempt
  two_is_decode = answered 2 (lit≤ tt) (lit≤ tt) c card _ (determinant_answers 2 (lit≤ tt) (lit≤ tt) c card (lit≤ tt) _ (λ n.
      proposals_answer (near_checks 2 c) 27 (λ a. eqb (high (ninth r (zeroth_error r a))) 0) (proposed r) (λ m. at m 0) (λ m near.
      (first_below n m near, eq-eqb _ 0 (near_ninth n m near), near_proposed n m near))))
