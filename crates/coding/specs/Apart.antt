-- Words are far apart: messages whose words are near are equal, as interpolation through points where the words agree comes to a state that
-- knows both.
-- Main: error, error_rank, same_message.
use Rattle.std.specs.Prelude.{◌≡◌, true, ℕ, suc, ◌+◌, ◌%◌, ◌≤◌}
use Rattle.std.proofs.Common.{sym, ap, ◌∙◌, arith}
use mathlib.Core.List.{List, []}
use Rattle.algebra.specs.Field.{digits, digits_of, minus, small}
use Rattle.rank.specs.Definitions.{at, is_card, rank, difference, apart}
use Rattle.coding.specs.Code.{word, is_message}
use Rattle.algebra.specs.Sums.{Zero, minus_none}
use Rattle.algebra.specs.Combinations.{outside}
use Rattle.algebra.specs.Linear.{Linear, composed, summed, scale_linear, combination, combination_linear, basis, images, expand}
use Rattle.algebra.specs.Polynomials.{ev}
use Rattle.algebra.proofs.Polynomials.{ev_linear}
use Rattle.coding.specs.Coefficients.{higher, coefficients, length_higher, last_higher, word_images, word_card}
use Rattle.coding.specs.Cards.{card_images}
use Rattle.coding.specs.WordSpectrum.{message_of, message_of_word}
use Rattle.coding.specs.Interpolation.{State, start, step, Knows, knows_start, knows_step}
use Rattle.coding.specs.Finish.{finish, knows_end}
use Rattle.coding.specs.Points.{Fresh, reached_start}

-- THE COLUMNS 1, z, .. z^5 are independent
fresh_basis : Fresh [] basis
unfolding digits digits_of
fresh_basis = (
  outside 0 1 _ (omega arith) tt,
  (
    outside 1 3 _ (omega arith) (omega arith),
    (
      outside 2 9 _ (omega arith) (omega arith),
      (
        outside 3 27 _ (omega arith) (omega arith),
        (
          outside 4 81 _ (omega arith) (omega arith),
          (outside 5 243 _ (omega arith) (omega arith), tt),
        ),
      ),
    ),
  ),
)

-- THE ERRORS of a card, if m was meant
module _ (k : ℕ) (m c : List ℕ) where
  error : (v : ℕ) → ℕ
  error v = minus (ev (coefficients k m) v) (combination c v)

  error_linear : Linear error
  unfolding error minus
  error_linear = summed (ev_linear (coefficients k m)) (composed (scale_linear 2) (combination_linear c))

  error_none : (x : ℕ) → error x ≡ 0 → ev (coefficients k m) x ≡ combination c x
  unfolding error
  error_none x z =
      omega (arith, minus_none _ _ (ap (λ (n : ℕ). n % 729) z), (ev_linear (coefficients k m)).below x, (combination_linear c).below x)

  error_rank : 1 ≤ k → is_card c ≡ true → apart (word k m) c ≡ rank (images error)
  unfolding error apart difference
  error_rank p card = rw (word_images k p m) (ap (λ (d : List ℕ). rank (difference (images (ev (coefficients k m))) d)) (sym (card_images c card)))

-- WHAT A STATE KNOWS of a message
abbrev Known : (k : ℕ) (m : List ℕ) (need : ℕ) → State → Type 0
Known k m = Knows (small (at m 0)) (higher k m)

module _ (k : ℕ) (p : 1 ≤ k) (m : List ℕ) where
  known_start : Known k m k start
  known_start = rw (length_higher k p m) at (knows_start (small (at m 0)) (higher k m))

  known_step : (c : List ℕ) (x : ℕ) → ev (coefficients k m) x ≡ combination c x
      → (need : ℕ) (s : State) → ¬ Zero (combination s.M x) → Known k m (suc need) s → Known k m need (step c x s)
  unfolding coefficients
  known_step c x e need s n K = knows_step (small (at m 0)) (higher k m) c x e s n need K

  known_end : (s : State) → Known k m 0 s → word k m ≡ finish s
  unfolding coefficients
  known_end s K = word_images k p m ∙ knows_end (at m 0) _ (higher k m) (last_higher k m _) s K

-- TWO MESSAGES whose words are near are equal
pub same_message : (k : ℕ) → 1 ≤ k → k ≤ 5 → (m n : List ℕ) → is_message k m ≡ true → is_message k n ≡ true
    → k + apart (word k m) (word k n) ≤ 6 → m ≡ n
same_message k p q m n u v l =
    let c = word k n in
    let at-word : (x : ℕ) → ev (coefficients k n) x ≡ combination c x = λ x. rw (word_images k p n) (expand (ev_linear (coefficients k n)) x) in
    let (s, K) = reached_start c (error_linear k m c) (λ need s. Known k m need s × Known k n need s)
    (λ x z need s y K. (known_step k p m c x (error_none k m c x z) need s y K.0, known_step k p n c x (at-word x) need s y K.1))
    basis k fresh_basis (omega (arith, error_rank k m c p (word_card k p n))) (known_start k p m, known_start k p n) in
    sym (message_of_word k p q m u)
    ∙ ap (message_of k) (known_end k p m s K.0 ∙ sym (known_end k p n s K.1))
    ∙ message_of_word k p q n v
