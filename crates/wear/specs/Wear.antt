-- The wear of cards, of runs of cards, and the run with the most (SPECIFICATION 8.23; document 02: P7).
-- Main: reading_wear, card_wear, run_sum, runs_in, largest, first_largest, worst_run, width_bad, wear_refusal, wear_reply.
use Rattle.std.specs.Prelude.{Bool, ◌||◌, cond, List, ℕ, zero, suc, ◌+◌, ◌-◌, ltb, eqb, Result}
use Rattle.algebra.specs.Search.{first_from, or_zero}
use Rattle.refusal.specs.Replies.{number, Reply, reply_or}
use Rattle.refusal.specs.declared.Refusal.{Refusal}
use Rattle.refusal.specs.declared.Refusal.TheVariants.{Length, Width}
use Rattle.book.specs.Layout.{body_good}
use Rattle.book.specs.Reading.{CardValue, cards_in, reading}
use Rattle.wear.specs.declared.runs.Run.{Run}

-- A CARD wears by the rank of its damage, or by 3 if Read refuses it
unfoldable pub reading_wear : Reply CardValue → ℕ
reading_wear r = cond (eqb r.refusal 0) r.value.damage.rank 3

unfoldable pub card_wear : (body : List ℕ) → (n : ℕ) → ℕ
card_wear bs n = reading_wear (reading bs n)

-- A RUN: the sum of f over w cards in a row from card n on
unfoldable pub run_sum : (f : ℕ → ℕ) → (w n : ℕ) → ℕ
run_sum f zero n = 0
run_sum f (suc w) n = run_sum f w n + f (n + w)

-- how many runs of w cards a body has: they begin at card 1, 2 and so on
abbrev pub runs_in : (body : List ℕ) → (w : ℕ) → ℕ
runs_in bs w = cards_in bs + 1 - w

-- the largest of f 1 .. f k, and the first n of which f n is that
unfoldable pub largest : (k : ℕ) → (ℕ → ℕ) → ℕ
largest zero f = 0
largest (suc k) f = cond (ltb (largest k f) (f (suc k))) (f (suc k)) (largest k f)

unfoldable pub first_largest : (k : ℕ) → (ℕ → ℕ) → ℕ
first_largest k f = or_zero (first_from k 1 (λ n. eqb (f n) (largest k f)))

-- the largest sum over w cards in a row, and the first card at which a run with that sum begins
unfoldable pub worst_run : (body : List ℕ) → (w : ℕ) → Run
worst_run bs w =
    let sums = run_sum (card_wear bs) w in
    record { sum = largest (runs_in bs w) sums; first = first_largest (runs_in bs w) sums }

-- REFUSALS: 2 for the body; then 12 for a width of 0, above 64, or above the count of cards
unfoldable pub width_bad : (body : List ℕ) → (w : ℕ) → Bool
width_bad bs w = eqb w 0 || ltb 64 w || ltb (cards_in bs) w

unfoldable pub wear_refusal : (body : List ℕ) → (w : ℕ) → ℕ
wear_refusal bs w = cond (body_good bs) (cond (width_bad bs w) (number Width) 0) (number Length)

-- what an answer says
abbrev pub no_run : Run
no_run = record { sum = 0; first = 0 }

abbrev pub wear_reply : Result Run Refusal → Reply Run
wear_reply r = reply_or no_run r
