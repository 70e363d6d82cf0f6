-- What is promised, proved: far_apart, one_near, words_cards, mu_there, test_tells; that a word has one message, which is read off it; and
-- that decode is the message near a card, and every complete way to find one is decode.
use Rattle.std.specs.Prelude.{◌≡◌, true, ◌↔◌, List, ℕ, ◌+◌, ◌≤◌}
use Rattle.std.proofs.Common.{sym, ap, ◌∙◌, arith}
use Rattle.std.proofs.Math.Option.{Option, none, some}
use Rattle.std.proofs.Math.Decide.{dec_le}
use Rattle.coding.specs.Code.{word, radius, is_message, Near}
use Rattle.rank.specs.Definitions.{apart, is_card}
use Rattle.coding.specs.Promise.{OneNear, FarApart, WordsCards, MuThere, TestTells}
use Rattle.algebra.specs.Tests.{passed}
use Rattle.rank.specs.Distance.{apart_sym, apart_triangle}
use Rattle.coding.specs.Coefficients.{word_card}
use Rattle.coding.specs.Answers.{Answers, answer_holds, answer_none, none_answer, one_answer, same_answer}
use Rattle.coding.specs.Decode.{decode, decode_answers}
use Rattle.coding.specs.Apart.{same_message}
use Rattle.coding.specs.WordSpectrum.{message_of, is_message_of, message_of_word, word_shaped, shaped_word}
use Rattle.coding.specs.Mu.{mu, mu_is, mu_alone}
use Rattle.coding.specs.TestValues.{silent, silent_shape}

pub far_apart : FarApart
unfolding FarApart
far_apart k m n p q u v d = go (dec_le (k + apart (word k m) (word k n)) 6)
  where
    go : Dec (k + apart (word k m) (word k n) ≤ 6) → 7 ≤ apart (word k m) (word k n) + k
    go (yes l) = absurd (d (same_message k p q m n u v l))
    go (no l) = omega arith

pub words_cards : WordsCards
unfolding WordsCards
words_cards k m p q u = word_card k p m

pub one_near : OneNear
unfolding OneNear WordsCards is_card radius
one_near k c m n p q u a b =
    let x = (passed 6 728 (word k m) (words_cards k m p q a.message)).0 in
    let y = (passed 6 728 (word k n) (words_cards k n p q b.message)).0 in
    let z = (passed 6 728 c u).0 in
    let e = same_message k p q m n a.message b.message
    (omega (arith, a.within, b.within, apart_sym (word k n) c, apart_triangle (word k m) c (word k n) (x ∙ sym z) (z ∙ sym y))) in
    (e, ap (word k) e)

-- MENDING: decode tells the message near a card, or that there is none, and whatever answers a card is decode
module _ (k : ℕ) (p : 1 ≤ k) (q : k ≤ 5) (c : List ℕ) (card : is_card c ≡ true) where
  near_one : (m n : List ℕ) → Near k c m → Near k c n → m ≡ n
  unfolding OneNear
  near_one m n a b = (one_near k c m n p q card a b).0

  pub decoded : (m : List ℕ) → (decode k c ≡ some m) ↔ Near k c m
  decoded m = (answer_holds (decode_answers k c), one_answer near_one (decode_answers k c))

  pub answered : (o : Option (List ℕ)) → Answers (Near k c) o → o ≡ decode k c
  answered o a = same_answer near_one o (decode k c) a (decode_answers k c)

pub decode_none : (k : ℕ) (c : List ℕ) → (decode k c ≡ none) ↔ ((m : List ℕ) → Near k c m → ⊥)
decode_none k c = (answer_none (decode_answers k c), none_answer (decode_answers k c))

-- the message is read off its word, so each word has one message
pub one_message : (k : ℕ) (m n : List ℕ) → 1 ≤ k → k ≤ 5 → is_message k m ≡ true → is_message k n ≡ true → word k m ≡ word k n → m ≡ n
one_message k m n p q u v w = sym (message_of_word k p q m u) ∙ ap (message_of k) w ∙ message_of_word k p q n v

pub mu_there : MuThere
unfolding MuThere
mu_there k p q = (mu k, record { is = mu_is k p q; alone = mu_alone k })

pub test_tells : TestTells
unfolding TestTells
test_tells k nu c p q is card = rw (mu_alone k nu is) (
  (λ m e w. silent k p q c (rw w at (word_shaped k p q m))),
  (λ z. (message_of k c, is_message_of k p q c, shaped_word k p q c card (silent_shape k p q c z))),
)
