-- The second body of SPECIFICATION 12.6, of bells 47 and 48: what Read, Length, Worn and wear say of it, and its lines to the byte.
-- Main: body, read_last, read_none, no_length, worn_second, worst_second, bells_listed.
use Rattle.std.specs.Prelude.{◌≡◌, refl, true, false, List, [], ◌∷◌, ◌++◌, ℕ}
use Rattle.std.proofs.Common.{◌∙◌, ap, lit≤}
use Rattle.std.proofs.Math.Option.{some}
use Rattle.algebra.specs.Linear.{computing}
use Rattle.algebra.specs.Field.{power}
use Rattle.algebra.specs.Search.{first_from}
use Rattle.algebra.specs.Tests.{any_above}
use Rattle.refusal.specs.Replies.{number, refused_with, reply_with}
use Rattle.refusal.specs.declared.Refusal.TheVariants.{NoSuchBell}
use Rattle.rank.specs.Definitions.{at}
use Rattle.rank.specs.Weight.{no_weight}
use Rattle.coding.specs.Code.{inner, inner_sum, value, word_from, word, is_message}
use Rattle.strike.specs.Strikes.{no_bell, strike_of}
use Rattle.book.specs.Layout.{big, body_good, symbols_from, card}
use Rattle.book.specs.Reading.{no_value, reading}
use Rattle.book.specs.Bodies.{body_refusal, add_delay, delays, total_delay, flawed, is_damaged, first_damaged}
use Rattle.book.specs.CardReading.{struck}
use Rattle.book.specs.ReadBack.{word_read, word_refused}
use Rattle.wear.specs.Wear.{reading_wear, card_wear, run_sum, largest, first_largest, worst_run}
use Rattle.text.specs.Text.{ascii, decimal_from, decimal, spaced, word_line, joined}
use Rattle.listing.specs.Listing.{strike_line, refused_line, card_line, card_lines, ticks_line, body_text}

-- cards 651 22 375 269 16 662; 327 648 74 10 216 398
abbrev pub body : List ℕ
body = 2 ∷ 139 ∷ 0 ∷ 22 ∷ 1 ∷ 119 ∷ 1 ∷ 13 ∷ 0 ∷ 16 ∷ 2 ∷ 150 ∷ 1 ∷ 71 ∷ 2 ∷ 136 ∷ 0 ∷ 74 ∷ 0 ∷ 10 ∷ 0 ∷ 216 ∷ 1 ∷ 142 ∷ []

-- register 1 and force 5 are value 14; bells 47 and 48 have 20 and 21 in value 0
pub last_message : List ℕ
last_message = 20 ∷ 14 ∷ 0 ∷ 1 ∷ []

pub none_message : List ℕ
none_message = 21 ∷ 14 ∷ 0 ∷ 1 ∷ []

-- the two cards are words, of messages, and only the first has a bell
cards : (card body 1 ≡ word 2 last_message) × (card body 2 ≡ word 2 none_message)
unfolding computing card symbols_from big power word word_from value inner_sum inner at last_message none_message
cards = (refl, refl)

messages : (is_message 2 last_message ≡ true) × (is_message 2 none_message ≡ true)
unfolding is_message any_above last_message none_message
messages = (refl, refl)

bells : (no_bell (strike_of last_message) ≡ false) × (no_bell (strike_of none_message) ≡ true)
unfolding no_bell strike_of at last_message none_message
bells = (refl, refl)

good : body_good body ≡ true
unfolding body_good
good = refl

pub read_last : reading body 1 ≡ struck last_message no_weight
read_last = word_read body 1 good (lit≤ tt) (lit≤ tt) last_message messages.0 cards.0 bells.0

pub read_none : reading body 2 ≡ refused_with no_value (number NoSuchBell)
read_none = word_refused body 2 good (lit≤ tt) (lit≤ tt) none_message messages.1 cards.1 bells.1

-- LENGTH is refused by its number, WORN names it, and it wears by 3
pub no_length : total_delay body ≡ refused_with 0 (number NoSuchBell)
unfolding total_delay delays body_refusal body_good add_delay reply_with
no_length = rw (read_last, read_none)

pub worn_second : first_damaged body ≡ some 2
unfolding first_damaged first_from is_damaged flawed
worn_second = rw (read_last, read_none)

pub worst_second : worst_run body 1 ≡ record { sum = 3; first = 2 }
unfolding worst_run largest first_largest first_from run_sum card_wear reading_wear
worst_second = rw (read_last, read_none)

-- ITS LINES
lines : (b : List ℕ) → card_lines 2 b ≡ card_line 1 (reading b 1) ++ card_line 2 (reading b 2)
unfolding joined
lines b = refl

line_texts : card_line 1 (struck last_message no_weight) ++ card_line 2 (refused_with no_value (number NoSuchBell))
    ++ ticks_line (refused_with 0 (number NoSuchBell))
    ≡ ascii "1 47 5 1 0\n2 refused 13\nticks unknown\n"
unfolding card_line strike_line refused_line ticks_line word_line spaced decimal decimal_from strike_of at last_message
line_texts = refl

pub bells_listed : body_text body ≡ ascii "1 47 5 1 0\n2 refused 13\nticks unknown\n"
unfolding body_text
bells_listed = ap (λ (l : List ℕ). l ++ ticks_line (total_delay body)) (lines body) ∙ rw (read_last, read_none, no_length) line_texts
