-- What decode answers and leaves in the lists lent to it (document 01: Mend), and how that follows from what was tested and found. A refusal
-- leaves every list as it was.
-- Main: lengths_bad, decode_tests, decode_refusal, decoded_word, Decoded, decode_passed, decoded_refused, decoded_filled.
use Rattle.std.specs.Prelude.{◌≡◌, Bool, true, ◌&&◌, not, List, ℕ, ◌*◌, ◌≤◌, eqb, length, Result, Err, option_map}
use Rattle.std.specs.declared.option.Option as found
use Rattle.std.proofs.Common.{eqb-true}
use Rattle.algebra.specs.Tests.{any_above, both}
use Rattle.refusal.specs.declared.Refusal.{Refusal}
use Rattle.refusal.specs.Replies.{outcome, reply_with, refused_reply, unless}
use Rattle.rank.specs.declared.Weight.{Weight}
use Rattle.rank.specs.Definitions.{is_card, difference}
use Rattle.rank.specs.Weight.{weight_of, no_weight, weight_reply}
use Rattle.coding.specs.Code.{word}
use Rattle.coding.specs.Decode.{decode}
use Rattle.candidate.specs.declared.found.Found.{Found}
use Rattle.codec.specs.Operations.{k_bad, tests}
use Rattle.codec.specs.Refusals.{k_good, tests_passed, both_equal, fits}
use Rattle.candidate.specs.Finding.{found_message, Consistent}
use Rattle.decoder.specs.Filling.{or_empty, or_undecodable, filling, Filled, tests_refused, filled_word, filled_message, filled_weight}

-- a card, or the room for its word or its message, has another length
unfoldable pub lengths_bad : (k : ℕ) → (card : List ℕ) → (word_room message-room : ℕ) → Bool
lengths_bad k c w m = not (eqb (length c) 6 && (eqb w 6 && eqb m (2 * k)))

-- the tests of a card, and of the room for its word and its message; 4 comes after them
unfoldable pub decode_tests : (k : ℕ) → (card : List ℕ) → (word_room message-room : ℕ) → ℕ
decode_tests k c w m = tests (k_bad k) (lengths_bad k c w m) (any_above 728 c)

unfoldable pub decode_refusal : (k : ℕ) → (card : List ℕ) → (word_room message-room : ℕ) → ℕ
decode_refusal k c w m = or_undecodable (decode_tests k c w m) (decode k c)

-- the word of the message near a card
unfoldable pub decoded_word : (k : ℕ) → (card : List ℕ) → List ℕ
decoded_word k c = word k (or_empty (decode k c))

-- the damage: the weight of the difference between word and card
unfoldable pub damage : (k : ℕ) → (card : List ℕ) → Weight
damage k c = weight_of (difference (decoded_word k c) c)

pub record Decoded (k : ℕ) (c w m : List ℕ) (r : Result Weight Refusal) (w-now m-now : List ℕ) : Type 0 where
  pub answers : weight_reply r ≡ reply_with no_weight (decode_refusal k c (length w) (length m)) (damage k c)
  pub word_is : w-now ≡ unless (decode_refusal k c (length w) (length m)) (decoded_word k c) w
  pub message_is : m-now ≡ unless (decode_refusal k c (length w) (length m)) (or_empty (decode k c)) m

-- WHAT THE TESTS SAY once they are passed
pub decode_passed : (k : ℕ) (c : List ℕ) (w m : ℕ) → decode_tests k c w m ≡ 0
    → (1 ≤ k) × (k ≤ 5) × (length c ≡ 6) × (is_card c ≡ true) × (w ≡ 6) × (m ≡ 2 * k)
unfolding decode_tests lengths_bad is_card
decode_passed k c w m e =
    let (d, l, r) = tests_passed (k_bad k) _ (any_above 728 c) e in
    let (f, g) = k_good k d in
    let (p, q) = both_equal (length c) 6 (eqb w 6 && eqb m (2 * k)) l in
    let (s, t) = both (eqb w 6) (eqb m (2 * k)) q in
    (f, g, p, fits (length c) 6 728 c p r, eqb-true w 6 s, eqb-true m (2 * k) t)

-- THE ANSWER: refused by a test, or what was found
pub decoded_refused : {A : Type 0} (k : ℕ) (c w m : List ℕ) (r : Result A Refusal) (x : Refusal) → outcome r ≡ decode_tests k c (length w) (length m) → r ≡ Err x
    → Decoded k c w m (Err x) w m
unfolding decode_refusal decoded_word
decoded_refused k c w m r x e q =
    let (s, v, u) = tests_refused k _ (decode k c) w m r x e q in
    record { answers = refused_reply _ _ _ x s; word_is = v; message_is = u }

pub decoded_filled : (k : ℕ) (c w m : List ℕ) → decode_tests k c (length w) (length m) ≡ 0 → length m ≡ 2 * k
    → (near : found.Option Found) → found_message near ≡ decode k c → Consistent k c near
    → (r : Result Weight Refusal) (w-now m-now : List ℕ) → Filled (option_map filling near) w m r w-now m-now → Decoded k c w m r w-now m-now
unfolding decode_refusal decoded_word damage
decoded_filled k c w m z l near e M r w-now m-now F = record {
  answers = filled_weight k _ _ w m z _ l r w-now m-now near e M F;
  word_is = filled_word k _ _ w m z _ l r w-now m-now near e M F;
  message_is = filled_message k _ _ w m z _ l r w-now m-now near e M F;
}
