-- What mending answers: decode is the first message near a card, among all. It says what the answer is, and is never computed.
-- Main: is_near, if_near, near_checks, find, decode, find_answers, decode_answers.
use Rattle.std.specs.Prelude.{◌≡◌, Bool, true, ◌&&◌, cond, List, [], ◌∷◌, ℕ, zero, suc, ◌*◌, ◌<◌, leb, length}
use Rattle.std.proofs.Math.Option.{Option, none, some}
use Rattle.std.proofs.Common.{arith, le-leb, leb-true}
use Rattle.coding.specs.Code.{word, is_message, radius, Near}
use Rattle.rank.specs.Definitions.{apart}
use Rattle.algebra.specs.Lists.{All}
use Rattle.algebra.specs.Tests.{both, passed}
use Rattle.coding.specs.Options.{first_of, Good, good_first, Got, got_first}
use Rattle.coding.specs.Answers.{Checks, test_checks, Answers}

-- THE TEST of a message
unfoldable pub is_near : (k : ℕ) → (card m : List ℕ) → Bool
is_near k c m = is_message k m && leb (apart (word k m) c) (radius k)

unfoldable pub if_near : (k : ℕ) → (card m : List ℕ) → Option (List ℕ)
if_near k c m = cond (is_near k c m) (some m) none

pub near_checks : (k : ℕ) (c : List ℕ) → Checks (Near k c) (if_near k c)
unfolding if_near is_near
near_checks k c = test_checks (Near k c) (is_near k c)
    (λ m e. let h = both (is_message k m) _ e in record { message = h.0; within = leb-true _ _ h.1 })
    (λ m h. rw (h.message, le-leb (apart (word k m) c) (radius k) h.within))

-- DECODE: the first message near a card, among all in rising order
unfoldable pub find : (left : ℕ) → (List ℕ → Option (List ℕ)) → Option (List ℕ)
find zero f = f []
find (suc n) f = first_of 27 (λ x. find n (λ m. f (x ∷ m)))

unfoldable pub decode : (k : ℕ) → (card : List ℕ) → Option (List ℕ)
decode k c = find (2 * k) (if_near k c)

-- what is found among all messages of a length is an answer
find_good : (P : List ℕ → Type 0) (n : ℕ) (f : List ℕ → Option (List ℕ)) → ((m : List ℕ) → Good P (f m)) → Good P (find n f)
unfolding find
find_good P zero f h = h []
find_good P (suc n) f h = good_first P 27 _ (λ x. find_good P n _ (λ m. h (x ∷ m)))

find_got : (n : ℕ) (f : List ℕ → Option (List ℕ)) (m : List ℕ) → length m ≡ n → All (λ x. x < 27) m → Got (f m) → Got (find n f)
unfolding find
find_got zero f [] l h g = g
find_got zero f (x ∷ m) l h g = absurd (omega arith)
find_got (suc n) f [] l h g = absurd (omega arith)
find_got (suc n) f (x ∷ m) l h g = got_first 27 x _ h.0 (find_got n (λ w. f (x ∷ w)) m (omega arith) h.1 g)

pub find_answers : {P : List ℕ → Type 0} {check : List ℕ → Option (List ℕ)} → Checks P check → (k : ℕ) → ((m : List ℕ) → P m → is_message k m ≡ true)
    → Answers P (find (2 * k) check)
unfolding is_message
find_answers {P} {check} C k message = record {
  right = find_good P (2 * k) check C.good;
  all = λ m h. let t = passed (2 * k) 26 m (message m h) in find_got (2 * k) check m t.0 t.1 (C.got m h);
}

pub decode_answers : (k : ℕ) (c : List ℕ) → Answers (Near k c) (decode k c)
unfolding decode
decode_answers k c = find_answers (near_checks k c) k (λ m h. h.message)
