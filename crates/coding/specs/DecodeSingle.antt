-- Decoding for k = 3 and 4, where the error has rank at most 1: for k = 3 the card's spectrum gives its last two coefficients, for k = 4 it does
-- for each last number that a message can have.
-- Main: decode_three, three_is_decode, last_error, attempt_four, decode_four, four_is_decode.
use Rattle.std.specs.Prelude.{◌≡◌, refl, true, List, ℕ, ◌≤◌, ◌<◌}
use Rattle.std.proofs.Common.{sym, arith, lit≤, lit<}
use Rattle.std.proofs.Math.Option.{Option}
use Rattle.algebra.specs.Field.{minus, times, small, gamma}
use Rattle.algebra.specs.Lists.{all_at}
use Rattle.algebra.specs.Tests.{passed}
use Rattle.rank.specs.Definitions.{at, is_card}
use Rattle.coding.specs.Code.{is_message, radius, Near}
use Rattle.coding.specs.Coefficients.{inners, higher, coefficients}
use Rattle.coding.specs.Options.{first_of}
use Rattle.coding.specs.Answers.{proposals_answer}
use Rattle.coding.specs.Decode.{near_checks, decode}
use Rattle.coding.specs.Spectrum.{spectrum}
use Rattle.coding.specs.Errors.{errors, near_rank, errors_beyond}
use Rattle.coding.specs.RankOne.{Ratio, ratio}
use Rattle.coding.specs.Residual.{rank_one_fits, rank_one_message, if_rank_one, near_fits, near_message, rank_one_answers}
use Rattle.coding.specs.Proved.{answered}

-- THE ERROR has rank at most 1
few_ratio : (k : ℕ) → 3 ≤ k → k ≤ 4 → (c : List ℕ) → is_card c ≡ true → (m : List ℕ) → Near k c m → Ratio (errors k c m)
unfolding radius
few_ratio k p q c card m near = ratio (errors k c m) (omega (arith, near_rank k (omega arith) (omega arith) c card m near))

-- k = 3
unfoldable pub decode_three : (card : List ℕ) → Option (List ℕ)
decode_three c = if_rank_one 3 c (spectrum c 4)

pub three_is_decode : (c : List ℕ) → is_card c ≡ true → decode_three c ≡ decode 3 c
unfolding decode_three
three_is_decode c card = answered 3 (lit≤ tt) (lit≤ tt) c card _ (rank_one_answers 3 (lit≤ tt) (lit≤ tt) c card (spectrum c 4) (λ m near.
    (few_ratio 3 (lit≤ tt) (lit≤ tt) c card m near, sym (errors_beyond 3 (lit≤ tt) (lit≤ tt) c card m 4 (lit< tt)))))

-- k = 4: an attempt with a last number
unfoldable pub last_error : (r : ℕ → ℕ) → (d : ℕ) → ℕ
last_error r d = minus (r 4) (times gamma (small d))

unfoldable pub attempt_four : (card : List ℕ) → (d : ℕ) → Option (List ℕ)
attempt_four c d = if_rank_one 4 c (last_error (spectrum c) d)

unfoldable pub decode_four : (card : List ℕ) → Option (List ℕ)
decode_four c = first_of 27 (attempt_four c)

last_below : (c m : List ℕ) → Near 4 c m → at m 7 < 27
unfolding is_message at
last_below c m near = let (l, b) = passed 8 26 m near.message in all_at (λ v. v < 27) 0 m b 7 (omega arith)

last_is : (c m : List ℕ) → last_error (spectrum c) (at m 7) ≡ errors 4 c m 4
unfolding last_error errors coefficients higher inners at
last_is c m = refl

pub four_is_decode : (c : List ℕ) → is_card c ≡ true → decode_four c ≡ decode 4 c
unfolding decode_four attempt_four if_rank_one
four_is_decode c card =
    let r = spectrum c in
    answered 4 (lit≤ tt) (lit≤ tt) c card _ (
    proposals_answer (near_checks 4 c) 27 (λ d. rank_one_fits 4 r (last_error r d)) (λ d. rank_one_message 4 r (last_error r d)) (λ m. at m 7) (λ m near.
    let R = few_ratio 4 (lit≤ tt) (lit≤ tt) c card m near in (
      last_below c m near,
      near_fits 4 (lit≤ tt) (lit≤ tt) c card m near R _ (last_is c m),
      near_message 4 (lit≤ tt) (lit≤ tt) c card m near R _ (last_is c m),
    )))
