-- The example of SPECIFICATION 12.6, and its listing to the byte, from the definitions.
-- Main: body, example, read_first to read_fourth, accepted; example_listed.
use Rattle.std.specs.Prelude.{◌≡◌, refl, true, false, List, [], ◌∷◌, ◌++◌, ℕ, ◌≤◌, take, drop}
use Rattle.std.proofs.Common.{sym, ◌∙◌, ap, lit≤}
use Rattle.algebra.specs.Linear.{computing}
use Rattle.algebra.specs.Lists.{table}
use Rattle.algebra.specs.Field.{power, minus}
use Rattle.algebra.specs.Tests.{any_above}
use Rattle.refusal.specs.Replies.{number, refused_with, reply_with}
use Rattle.refusal.specs.declared.Refusal.TheVariants.{Range}
use Rattle.rank.specs.Definitions.{at, is_card, difference, columns, subtract, pivot, cleared, rank_with, rank_from, rank, apart}
use Rattle.coding.specs.Code.{inner, inner_sum, value, word_from, word, is_message, radius}
use Rattle.book.specs.Layout.{big, big_four, tunes, tune_numbers, part_of, body_good, symbols_from, card}
use Rattle.book.specs.Open.{size_bad, rising, numbers_bad, bodies_good, bodies_bad, contents_refusal, is_empty, open_refusal}
use Rattle.rank.specs.Weight.{weight_of, no_weight}
use Rattle.strike.specs.Strikes.{no_bell, strike_of}
use Rattle.book.specs.Reading.{no_value, reading}
use Rattle.book.specs.Bodies.{body_refusal, add_delay, delays, total_delay}
use Rattle.book.specs.CardReading.{struck, card_range, read_there, there_card}
use Rattle.book.specs.ReadBack.{near_read, word_read}
use Rattle.text.specs.Text.{ascii, decimal_from, decimal, spaced, word_line, joined}
use Rattle.listing.specs.Listing.{strike_line, refused_line, card_line, card_lines, tune_line, ticks_line, body_text, tune_text}
use Rattle.report.specs.declared.Kind.TheVariants.{Listing}
use Rattle.report.specs.Reports.{tune_report, report}
use Rattle.report.specs.Answers.{report_accepted}

-- cards 1 3 9 27 81 243; 3 279 233 650 423 163; 2 3 9 27 81 243; 729 3 9 27 81 243
abbrev pub body : List ℕ
body =
    0 ∷ 1 ∷ 0 ∷ 3 ∷ 0 ∷ 9 ∷ 0 ∷ 27 ∷ 0 ∷ 81 ∷ 0 ∷ 243
    ∷ 0 ∷ 3 ∷ 1 ∷ 23 ∷ 0 ∷ 233 ∷ 2 ∷ 138 ∷ 1 ∷ 167 ∷ 0 ∷ 163
    ∷ 0 ∷ 2 ∷ 0 ∷ 3 ∷ 0 ∷ 9 ∷ 0 ∷ 27 ∷ 0 ∷ 81 ∷ 0 ∷ 243
    ∷ 2 ∷ 217 ∷ 0 ∷ 3 ∷ 0 ∷ 9 ∷ 0 ∷ 27 ∷ 0 ∷ 81 ∷ 0 ∷ 243
    ∷ []

abbrev pub example : List ℕ
example = 0 ∷ 1 ∷ 0 ∷ 7 ∷ 0 ∷ 0 ∷ 0 ∷ 10 ∷ 0 ∷ 4 ∷ body

abbrev pub example_text : List ℕ
example_text = ascii "tune 7 4\n1 1 0 0 0\n2 0 0 1 0\n3 1 0 0 1\n4 refused 3\nticks unknown\n"

pub first_message : List ℕ
first_message = 1 ∷ 0 ∷ 0 ∷ 0 ∷ []

pub second_message : List ℕ
second_message = 0 ∷ 0 ∷ 0 ∷ 1 ∷ []

-- what is read of the four cards
good : body_good body ≡ true
unfolding body_good
good = refl

first_card : card body 1 ≡ word 2 first_message
unfolding computing card symbols_from big power word word_from value inner_sum inner at first_message
first_card = refl

second_card : card body 2 ≡ word 2 second_message
unfolding computing card symbols_from big power word word_from value inner_sum inner at second_message
second_card = refl

first_whole : is_message 2 first_message ≡ true
unfolding is_message any_above first_message
first_whole = refl

second_whole : is_message 2 second_message ≡ true
unfolding is_message any_above second_message
second_whole = refl

bells : (no_bell (strike_of first_message) ≡ false) × (no_bell (strike_of second_message) ≡ false)
unfolding no_bell strike_of at first_message second_message
bells = (refl, refl)

third_card : is_card (card body 3) ≡ true
unfolding card symbols_from big is_card any_above
third_card = refl

third_apart : apart (word 2 first_message) (card body 3) ≡ 1
unfolding computing card symbols_from big power word word_from value inner_sum inner at first_message difference columns subtract pivot cleared rank_with rank_from rank apart minus
third_apart = refl

fourth_range : any_above 728 (card body 4) ≡ true
unfolding card symbols_from big any_above
fourth_range = refl

pub read_first : reading body 1 ≡ struck first_message no_weight
read_first = word_read body 1 good (lit≤ tt) (lit≤ tt) first_message first_whole first_card bells.0

pub read_second : reading body 2 ≡ struck second_message no_weight
read_second = word_read body 2 good (lit≤ tt) (lit≤ tt) second_message second_whole second_card bells.1

near_enough : apart (word 2 first_message) (card body 3) ≤ radius 2
unfolding radius
near_enough = rw third_apart (lit≤ tt)

pub read_third : reading body 3 ≡ struck first_message (record { rank = 1 })
unfolding weight_of apart
read_third =
    near_read body 3 good (lit≤ tt) (lit≤ tt) first_message third_card (record { message = first_whole; within = near_enough }) bells.0
    ∙ rw third_apart

pub read_fourth : reading body 4 ≡ refused_with no_value (number Range)
read_fourth = sym (card_range (card body 4) fourth_range ∙ read_there body 4 good (there_card body 4 (lit≤ tt) (lit≤ tt)))

-- its lines, in the terms of what is read
lines : (b : List ℕ) → card_lines 4 b ≡ card_line 1 (reading b 1) ++ card_line 2 (reading b 2) ++ card_line 3 (reading b 3) ++ card_line 4 (reading b 4)
unfolding joined
lines b = refl

-- the fourth is the first that is refused
unknown : total_delay body ≡ refused_with 0 (number Range)
unfolding total_delay delays body_refusal body_good add_delay reply_with
unknown = rw (read_first, read_second, read_third, read_fourth)

card_texts : card_line 1 (struck first_message no_weight) ++ card_line 2 (struck second_message no_weight)
    ++ card_line 3 (struck first_message (record { rank = 1 })) ++ card_line 4 (refused_with no_value (number Range)) ++ ticks_line (refused_with 0 (number Range))
    ≡ drop 9 example_text
unfolding card_line strike_line refused_line ticks_line word_line spaced decimal decimal_from strike_of at first_message second_message
card_texts = refl

body_listed : body_text body ≡ drop 9 example_text
unfolding body_text
body_listed = ap (λ (l : List ℕ). l ++ ticks_line (total_delay body)) (lines body) ∙ rw (read_first, read_second, read_third, read_fourth, unknown) card_texts

pub accepted : open_refusal example ≡ 0
unfolding open_refusal is_empty contents_refusal size_bad numbers_bad rising tune_numbers table bodies_bad bodies_good big big_four
accepted = refl

its_part : part_of example 0 ≡ body
unfolding part_of big big_four
its_part = refl

one_tune : joined (tune_report Listing example) (tunes example) ≡ tune_line 7 4 ++ body_text (part_of example 0)
unfolding joined tune_report tune_text big
one_tune = refl

first_line : tune_line 7 4 ≡ take 9 example_text
unfolding tune_line spaced decimal decimal_from
first_line = refl

-- THE LISTING is the text of the example
pub example_listed : report Listing example ≡ example_text
example_listed = report_accepted Listing example accepted ∙ one_tune ∙ rw (its_part, body_listed, first_line)
