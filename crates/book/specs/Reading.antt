-- What Read says of a card of a body (document 01: Read): a strike with its damage, or a refusal with its number.
-- Main: CardValue, read_reply, strike_refusal, card_refusal, value_of_card, read_refusal, reading.
use Rattle.std.specs.Prelude.{Bool, ◌||◌, not, cond, List, ℕ, ◌/◌, ltb, eqb, length, Result}
use Rattle.std.proofs.Math.Option.{Option, none, some}
use Rattle.algebra.specs.Tests.{any_above}
use Rattle.refusal.specs.Replies.{number, Reply, reply_or, reply_with}
use Rattle.refusal.specs.declared.Refusal.{Refusal}
use Rattle.refusal.specs.declared.Refusal.TheVariants.{Length, Range, Undecodable, NoSuchCard, NoSuchBell}
use Rattle.rank.specs.Weight.{no_weight}
use Rattle.coding.specs.Decode.{decode}
use Rattle.decoder.specs.Filling.{or_empty}
use Rattle.decoder.specs.Decoding.{damage}
use Rattle.strike.specs.Strikes.{no_bell, no_strike, strike_of}
use Rattle.book.specs.declared.reading.Reading.{Reading}
use Rattle.book.specs.Layout.{body_good, card}

-- WHAT A CARD IS READ AS: a strike with its damage; and what a refusal has in its place
abbrev pub CardValue : Type 0
CardValue = Reading

abbrev pub no_value : CardValue
no_value = record { strike = no_strike; damage = no_weight }

-- what an answer says
abbrev pub read_reply : Result Reading Refusal → Reply CardValue
read_reply r = reply_or no_value r

-- A CARD, whose strike has k = 2: 3 and 4 of Decode, 13 for a bell above the last, or its message's strike
unfoldable pub strike_refusal : Option (List ℕ) → ℕ
strike_refusal none = number Undecodable
strike_refusal (some m) = cond (no_bell (strike_of m)) (number NoSuchBell) 0

unfoldable pub card_refusal : (card : List ℕ) → ℕ
card_refusal c = cond (any_above 728 c) (number Range) (strike_refusal (decode 2 c))

unfoldable pub value_of_card : (card : List ℕ) → CardValue
value_of_card c = record { strike = strike_of (or_empty (decode 2 c)); damage = damage 2 c }

-- what is said of it where the refusal is n, 0 if there is none
unfoldable pub card_reading : (refusal : ℕ) → (card : List ℕ) → Reply CardValue
card_reading n c = reply_with no_value n (value_of_card c)

-- A BODY has a card for every twelve bytes. A card number is 0, or past the last
abbrev pub cards_in : (body : List ℕ) → ℕ
cards_in bs = length bs / 12

unfoldable pub no_card : (body : List ℕ) → (n : ℕ) → Bool
no_card bs n = eqb n 0 || ltb (cards_in bs) n

-- READ: 2 for the body, 9 for the card number, then 3, 4 and 13
unfoldable pub read_refusal : (body : List ℕ) → (n : ℕ) → ℕ
read_refusal bs n =
    cond (not (body_good bs)) (number Length) (cond (no_card bs n) (number NoSuchCard) (card_refusal (card bs n)))

unfoldable pub reading : (body : List ℕ) → (n : ℕ) → Reply CardValue
reading bs n = card_reading (read_refusal bs n) (card bs n)
