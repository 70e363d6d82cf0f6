-- What mending with dead lines answers: decode_dead is the first message near a card with dead lines, among all. It says what the answer is, and
-- is never computed. It tells the message near the card, or that there is none, and with no dead line it is decode.
-- Main: is_near_dead, if_near_dead, decode_dead, near_dead_checks, decode_dead_answers, decoded_dead, decode_dead_none, answered_dead,
-- live_rank_none, blanked_none, no_dead_line.
use Rattle.std.specs.Prelude.{◌≡◌, refl, ◌↔◌, Bool, true, ◌&&◌, cond, List, [], ◌∷◌, map, ℕ, suc, ◌+◌, ◌*◌, ◌-◌, ◌/◌, ◌%◌, ◌^◌, ◌≤◌, leb}
use Rattle.std.proofs.Common.{sym, ap, ◌∙◌, arith}
use Rattle.std.proofs.Math.Path.{fun_ext}
use Rattle.std.proofs.Math.Option.{Option, none, some}
use Rattle.std.proofs.Math.Decide.{dec_le}
use Rattle.std.proofs.Math.Nat.{zero-div}
use borrow.Author.Tests.{eq-eqb, le-leb, lt-leb, leb-true}
use Rattle.algebra.specs.Field.{digits, minus}
use Rattle.algebra.specs.Lists.{cons}
use Rattle.algebra.specs.Tests.{both}
use Rattle.algebra.specs.Digits.{number_digits}
use Rattle.algebra.specs.Sums.{add_whole}
use Rattle.rank.specs.Definitions.{is_card, rank, difference, apart}
use Rattle.rank.specs.Mask.{ones}
use Rattle.coding.specs.Code.{word, is_message, radius}
use Rattle.coding.specs.Answers.{Checks, test_checks, Answers, answer_holds, answer_none, none_answer, one_answer, same_answer}
use Rattle.coding.specs.Decode.{is_near, if_near, find, find_answers, decode}
use Rattle.dead_lines.specs.Struck.{bit, dead_lines, struck_from, struck_column, struck_out, live_rank, NearDead, OneNearDead}
use Rattle.dead_lines.specs.Blanked.{blanked_from, kept, blanked}
use Rattle.dead_lines.specs.OneNear.{one_near_dead}

-- THE TEST of a message
unfoldable pub is_near_dead : (k ρ σ : ℕ) → (card m : List ℕ) → Bool
is_near_dead k ρ σ c m = is_message k m && leb (2 * live_rank ρ σ (word k m) c + dead_lines ρ + dead_lines σ) (6 - k)

unfoldable pub if_near_dead : (k ρ σ : ℕ) → (card m : List ℕ) → Option (List ℕ)
if_near_dead k ρ σ c m = cond (is_near_dead k ρ σ c m) (some m) none

-- DECODE: the first message near a card with dead lines, among all in rising order
unfoldable pub decode_dead : (k ρ σ : ℕ) → (card : List ℕ) → Option (List ℕ)
decode_dead k ρ σ c = find (2 * k) (if_near_dead k ρ σ c)

-- WHAT IT ANSWERS
module _ (k ρ σ : ℕ) (c : List ℕ) where
  pub near_dead_checks : Checks (NearDead k ρ σ c) (if_near_dead k ρ σ c)
  unfolding if_near_dead is_near_dead
  near_dead_checks = test_checks (NearDead k ρ σ c) (is_near_dead k ρ σ c)
      (λ m e. let h = both (is_message k m) _ e in record { message = h.0; within = leb-true _ _ h.1 })
      (λ m h. rw (h.message, le-leb (2 * live_rank ρ σ (word k m) c + dead_lines ρ + dead_lines σ) (6 - k) h.within))

  pub decode_dead_answers : Answers (NearDead k ρ σ c) (decode_dead k ρ σ c)
  unfolding decode_dead
  decode_dead_answers = find_answers near_dead_checks k (λ m h. h.message)

  pub decode_dead_none : (decode_dead k ρ σ c ≡ none) ↔ ((m : List ℕ) → NearDead k ρ σ c m → ⊥)
  decode_dead_none = (answer_none decode_dead_answers, none_answer decode_dead_answers)

module _ (k : ℕ) (p : 1 ≤ k) (q : k ≤ 5) (ρ σ : ℕ) (c : List ℕ) (card : is_card c ≡ true) where
  near_one : (m n : List ℕ) → NearDead k ρ σ c m → NearDead k ρ σ c n → m ≡ n
  unfolding OneNearDead
  near_one m n = one_near_dead k ρ σ c m n p q card

  pub decoded_dead : (m : List ℕ) → (decode_dead k ρ σ c ≡ some m) ↔ NearDead k ρ σ c m
  decoded_dead m = (answer_holds (decode_dead_answers k ρ σ c), one_answer near_one (decode_dead_answers k ρ σ c))

  pub answered_dead : (o : Option (List ℕ)) → Answers (NearDead k ρ σ c) o → o ≡ decode_dead k ρ σ c
  answered_dead o a = same_answer near_one o (decode_dead k ρ σ c) a (decode_dead_answers k ρ σ c)

-- WITH NO DEAD LINE striking out leaves a list and its symbols as they are
bit_none : (i : ℕ) → bit 0 i ≡ 0
unfolding bit
bit_none i = ap (λ (x : ℕ). x % 2) (zero-div (2 ^ i))

struck_none : (i : ℕ) (xs : List ℕ) → struck_from i 0 xs ≡ xs
unfolding struck_from
struck_none i [] = refl
struck_none i (x ∷ xs) =
    ap (λ (b : Bool). cond b (x ∷ struck_from (suc i) 0 xs) (struck_from (suc i) 0 xs)) (eq-eqb (bit 0 i) 0 (bit_none i))
    ∙ cons refl (struck_none (suc i) xs)

column_none : (v : ℕ) → struck_column 0 v ≡ v % 729
unfolding struck_column
column_none v = rw (struck_none 0 (digits v)) (number_digits v)

columns_none : (f : ℕ → ℕ) → ((v : ℕ) → f v ≡ v % 729) → (c d : List ℕ) → map f (difference c d) ≡ difference c d
unfolding difference minus
columns_none f e [] d = refl
columns_none f e (x ∷ c) [] = refl
columns_none f e (x ∷ c) (y ∷ d) = cons (e (minus x y) ∙ add_whole _ _) (columns_none f e c d)

pub live_rank_none : (c d : List ℕ) → live_rank 0 0 c d ≡ apart c d
unfolding live_rank struck_out apart
live_rank_none c d = ap rank (ap (map (struck_column 0)) (struck_none 0 (difference c d)) ∙ columns_none (struck_column 0) column_none c d)

-- and so does making dead lines 0
entries_none : (i : ℕ) (xs : List ℕ) → blanked_from i 0 xs ≡ xs
unfolding blanked_from
entries_none i [] = refl
entries_none i (x ∷ xs) = cons (ap (λ (b : Bool). cond b x 0) (eq-eqb (bit 0 i) 0 (bit_none i))) (entries_none (suc i) xs)

kept_none : (v : ℕ) → kept 0 v ≡ v % 729
unfolding kept
kept_none v = rw (entries_none 0 (digits v)) (number_digits v)

pub blanked_none : (c d : List ℕ) → blanked 0 0 (difference c d) ≡ difference c d
unfolding blanked
blanked_none c d = entries_none 0 (map (kept 0) (difference c d)) ∙ columns_none (kept 0) kept_none c d

-- so it is decode
same_test : (p k : ℕ) → leb (2 * p + 0 + 0) (6 - k) ≡ leb p ((6 - k) / 2)
same_test p k = elim (dec_le (2 * p + 0 + 0) (6 - k)) [
  | yes l ↦ le-leb (2 * p + 0 + 0) (6 - k) l ∙ sym (le-leb p ((6 - k) / 2) (omega arith))
  | no n ↦ lt-leb (2 * p + 0 + 0) (6 - k) (omega arith) ∙ sym (lt-leb p ((6 - k) / 2) (omega arith))
]

one_test : (k : ℕ) (c m : List ℕ) → if_near_dead k 0 0 c m ≡ if_near k c m
unfolding if_near_dead is_near_dead if_near is_near dead_lines radius ones
one_test k c m =
    rw (live_rank_none (word k m) c) (ap (λ (b : Bool). cond (is_message k m && b) (some m) none) (same_test (apart (word k m) c) k))

pub no_dead_line : (k : ℕ) (c : List ℕ) → decode_dead k 0 0 c ≡ decode k c
unfolding decode_dead decode
no_dead_line k c = ap (find (2 * k)) (fun_ext (one_test k c))
