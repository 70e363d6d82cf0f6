-- Cards of low rank: every word but the zero word is too far from them, so they are decoded to the zero message or not at all.
-- Main: low_rank_zero, low_rank_none.
use Rattle.std.specs.Prelude.{◌≡◌, refl, true, List, [], ◌∷◌, ℕ, zero, suc, ◌+◌, ◌*◌, ◌≤◌, ◌<◌, replicate}
use Rattle.std.proofs.Math.Path.{sym}
use Rattle.std.proofs.Common.{ap, ◌∙◌, mod-eq_of_lt}
use Rattle.std.proofs.Math.Option.{none, some}
use native.Mathlib.Omega.{arith}
use Rattle.std.proofs.Math.ListN.{length}
use Rattle.algebra.specs.Field.{power}
use Rattle.algebra.specs.Lists.{cons, All}
use Rattle.algebra.specs.Tests.{any_above, passed, one_to_five}
use Rattle.algebra.specs.Sums.{minus_zero}
use Rattle.algebra.specs.Linear.{computing}
use Rattle.rank.specs.Definitions.{at, is_card, rank, difference, apart}
use Rattle.rank.specs.Distance.{apart_sym, apart_triangle}
use Rattle.coding.specs.Code.{inner, inner_sum, value, word_from, word, is_message, radius, Near}
use Rattle.coding.specs.Coefficients.{word_long}
use Rattle.coding.specs.Decode.{decode}
use Rattle.coding.specs.Apart.{same_message}
use Rattle.coding.specs.Proved.{decoded, decode_none}

-- THE ZERO MESSAGE and the zero word
unfoldable pub zero_message : (k : ℕ) → List ℕ
zero_message k = replicate (2 * k) 0

unfoldable pub zero_word : List ℕ
zero_word = replicate 6 0

zero_is_message : (k : ℕ) → 1 ≤ k → k ≤ 5 → is_message k (zero_message k) ≡ true
unfolding zero_message is_message any_above
zero_is_message = one_to_five _ refl refl refl refl refl

pub word_zero : (k : ℕ) → 1 ≤ k → k ≤ 5 → word k (zero_message k) ≡ zero_word
unfolding computing power zero_message zero_word word word_from value inner_sum inner at
word_zero = one_to_five _ refl refl refl refl refl

-- a card is as far from the zero word as its rank
less_zeros : (n : ℕ) (c : List ℕ) → length c ≡ n → All (λ x. x < 729) c → difference c (replicate n 0) ≡ c
unfolding difference
less_zeros zero [] e h = refl
less_zeros zero (x ∷ c) e h = absurd (omega arith)
less_zeros (suc n) [] e h = absurd (omega arith)
less_zeros (suc n) (x ∷ c) e h = cons (minus_zero x ∙ mod-eq_of_lt h.0) (less_zeros n c (omega arith) h.1)

from_zero : (c : List ℕ) → is_card c ≡ true → apart c zero_word ≡ rank c
unfolding apart is_card zero_word
from_zero c card = let t = passed 6 728 c card in ap rank (less_zeros 6 c t.0 t.1)

module _ (k : ℕ) (p : 1 ≤ k) (q : k ≤ 5) (c : List ℕ) (card : is_card c ≡ true) where
  pub zero_apart : apart (word k (zero_message k)) c ≡ rank c
  zero_apart = rw (word_zero k p q) (apart_sym zero_word c ∙ from_zero c card)

  only_zero : rank c + radius k + k < 7 → (m : List ℕ) → Near k c m → m ≡ zero_message k
  unfolding is_card
  only_zero l m near = same_message k p q m (zero_message k) near.message (zero_is_message k p q)
      (omega (
        arith,
        near.within,
        zero_apart,
        apart_sym (word k (zero_message k)) c,
        apart_triangle (word k m) c (word k (zero_message k)) (word_long k m ∙ sym six) (six ∙ sym (word_long k (zero_message k))),
      ))
    where
      six : length c ≡ 6
      six = (passed 6 728 c card).0

  pub low_rank_zero : rank c ≤ radius k → decode k c ≡ some (zero_message k)
  low_rank_zero l = (decoded k p q c card (zero_message k)).1 (record { message = zero_is_message k p q; within = rw zero_apart l })

  pub low_rank_none : rank c + radius k + k < 7 → radius k < rank c → decode k c ≡ none
  low_rank_none l f = (decode_none k c).1 (λ m near. omega (arith, rw (only_zero l m near) at near.within, zero_apart))
