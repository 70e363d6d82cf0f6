-- How long a body is, and how large the numbers are that Read and Open say.
-- Main: good_length; Bounded, reading_bounded, open_bounded.
use Rattle.std.specs.Prelude.{◌≡◌, refl, Bool, true, false, not, cond, List, ℕ, ◌%◌, ◌≤◌, ◌<◌, leb, eqb, length}
use Rattle.std.proofs.Math.Option.{Option, none, some}
use Rattle.std.proofs.Common.{arith, leb-true, eqb-true}
use Rattle.algebra.specs.Tests.{any_above, both}
use Rattle.refusal.specs.Replies.{number, Reply, reply_with}
use Rattle.refusal.specs.declared.Refusal.TheVariants.{Length, Range, BookSize, TuneNumber, Layout, NoSuchCard, NoSuchBell}
use Rattle.rank.specs.Definitions.{difference}
use Rattle.rank.specs.Echelon.{rank_at_most}
use Rattle.rank.specs.Weight.{weight_of}
use Rattle.coding.specs.Decode.{decode}
use Rattle.decoder.specs.Filling.{or_empty}
use Rattle.decoder.specs.Decoding.{decoded_word, damage}
use Rattle.strike.specs.Strikes.{bell_most, force_most, delay_most, in_range, no_bell, strike_of, strike_good, range_parts}
use Rattle.book.specs.Layout.{body_good, card}
use Rattle.book.specs.Open.{size_bad, numbers_bad, bodies_bad, contents_refusal, is_empty, open_refusal}
use Rattle.book.specs.Reading.{CardValue, no_value, strike_refusal, card_refusal, value_of_card, card_reading, no_card, read_refusal, reading}
use Rattle.book.specs.CardReading.{Passed, read_passed, decoded_message}

-- A BODY
pub good_length : (bs : List ℕ) → body_good bs ≡ true → length bs ≤ 65532
unfolding body_good
good_length bs e = leb-true (length bs) 65532 (both (leb (length bs) 65532) (eqb (length bs % 12) 0) e).0

-- WHAT READ SAYS: a refusal of two digits at most, or a strike within its ranges and a rank
pub record Bounded (r : Reply CardValue) : Type 0 where
  pub refusal : r.refusal < 100
  pub bell : r.value.strike.bell ≤ bell_most
  pub force : r.value.strike.force ≤ force_most
  pub delay : r.value.strike.delay ≤ delay_most
  pub damage : r.value.damage.rank ≤ 6

-- the strike of a card that is read is in range
value_range : (c : List ℕ) → Passed c → in_range (value_of_card c).strike ≡ true
unfolding value_of_card or_empty
value_range c p = rw p.is_near (strike_good p.message (decoded_message c p.message p.is_near) p.has_bell)

refusal_bounded : (bs : List ℕ) (n : ℕ) → read_refusal bs n < 100
unfolding read_refusal card_refusal strike_refusal
refusal_bounded bs n = go (body_good bs) (no_card bs n) (any_above 728 (card bs n)) (decode 2 (card bs n))
  where
    bell : (b : Bool) → cond b (number NoSuchBell) 0 < 100
    bell true = omega arith
    bell false = omega arith

    go : (g p a : Bool) (o : Option (List ℕ))
        → cond (not g) (number Length) (cond p (number NoSuchCard) (cond a (number Range) (strike_refusal o))) < 100
    go false p a o = omega arith
    go true true a o = omega arith
    go true false true o = omega arith
    go true false false none = omega arith
    go true false false (some m) = bell (no_bell (strike_of m))

pub reading_bounded : (bs : List ℕ) (n : ℕ) → Bounded (reading bs n)
unfolding reading card_reading value_of_card damage weight_of reply_with
reading_bounded bs n = go (eqb (read_refusal bs n) 0) refl
  where
    c : List ℕ
    c = card bs n

    go : (b : Bool) → eqb (read_refusal bs n) 0 ≡ b → Bounded (record { refusal = read_refusal bs n; value = cond b (value_of_card c) no_value })
    go true e =
        let (b, f, d) = range_parts _ (value_range c (read_passed bs n (eqb-true (read_refusal bs n) 0 e))) in
        record { refusal = refusal_bounded bs n; bell = b; force = f; delay = d; damage = rank_at_most (difference (decoded_word 2 c) c) }
    go false e = record { refusal = refusal_bounded bs n; bell = omega arith; force = omega arith; delay = omega arith; damage = omega arith }

-- OPEN: a refusal of two digits at most
pub open_bounded : (bs : List ℕ) → open_refusal bs < 100
unfolding open_refusal contents_refusal
open_bounded bs = go (is_empty bs) (size_bad bs) (numbers_bad bs) (bodies_bad bs)
  where
    go : (z s n b : Bool) → cond z 0 (cond s (number BookSize) (cond n (number TuneNumber) (cond b (number Layout) 0))) < 100
    go true s n b = omega arith
    go false true n b = omega arith
    go false false true b = omega arith
    go false false false true = omega arith
    go false false false false = omega arith
