-- What Length and Worn say of a body (SPECIFICATION 8.10 and 8.11).
-- Main: body_refusal, body_refused; add_delay, delays, total_delay; is_damaged, first_damaged, worn_reply.
use Rattle.std.specs.Prelude.{◌≡◌, refl, Bool, true, false, ◌||◌, not, cond, List, ℕ, zero, suc, ◌+◌, eqb, Result}
use Rattle.std.specs.Result.{result_map_both}
use Rattle.std.specs.Prelude as code
use Rattle.std.proofs.Math.Option.{Option, none}
use Rattle.algebra.specs.Search.{first_from}
use Rattle.refusal.specs.Replies.{number, refusal_some, Reply, reply_or, reply_with}
use Rattle.refusal.specs.declared.Refusal.{Refusal}
use Rattle.refusal.specs.declared.Refusal.TheVariants.{Length}
use Rattle.book.specs.Options.{option_of}
use Rattle.book.specs.Layout.{body_good}
use Rattle.book.specs.Reading.{CardValue, cards_in, reading}

-- 2 as Read, for Length and Worn alike
unfoldable pub body_refusal : (body : List ℕ) → ℕ
body_refusal bs = cond (body_good bs) 0 (number Length)

pub body_refused : (bs : List ℕ) (why : Refusal) → number why ≡ body_refusal bs → (body_good bs ≡ false) × (number why ≡ number Length)
unfolding body_refusal
body_refused bs why e = go (body_good bs) refl e
  where
    go : (b : Bool) → body_good bs ≡ b → number why ≡ cond b 0 (number Length) → (body_good bs ≡ false) × (number why ≡ number Length)
    go true g q = absurd (refusal_some why q)
    go false g q = (g, q)

-- LENGTH. One card more: a refusal that was there stays, else the card's own is said, or its delay is added to the sum
unfoldable pub add_delay : (so_far : Reply ℕ) → (read : Reply CardValue) → Reply ℕ
add_delay t r = cond (eqb t.refusal 0) (reply_with 0 r.refusal (t.value + r.value.strike.delay)) t

-- of the bytes and the first k cards: the first refusal, or the sum of the delays
unfoldable pub delays : (k : ℕ) → (body : List ℕ) → Reply ℕ
delays zero bs = reply_with 0 (body_refusal bs) 0
delays (suc k) bs = add_delay (delays k bs) (reading bs (suc k))

-- of all cards
unfoldable pub total_delay : (body : List ℕ) → Reply ℕ
total_delay bs = delays (cards_in bs) bs

-- WORN. A card that Read refuses, or mends with rank 1 or more
unfoldable pub flawed : Reply CardValue → Bool
flawed r = not (eqb r.refusal 0) || not (eqb r.value.damage.rank 0)

unfoldable pub is_damaged : (body : List ℕ) → (n : ℕ) → Bool
is_damaged bs n = flawed (reading bs n)

-- the first of all cards that is damaged, if any
unfoldable pub first_damaged : (body : List ℕ) → Option ℕ
first_damaged bs = first_from (cards_in bs) 1 (is_damaged bs)

-- what an answer says: the number of a card, or none
abbrev pub worn_reply : Result (code.Option ℕ) Refusal → Reply (Option ℕ)
worn_reply r = reply_or none (result_map_both option_of (λ why. why) r)
