-- Reading gives back strikes: a card near a word is read as the strike of that word's message, if it has a bell.
-- Main: near_read, bell_read, lost_read, word_read, word_refused.
use Rattle.std.specs.Prelude.{◌≡◌, true, false, not, List, ℕ, ◌≤◌, eqb, length}
use Rattle.std.proofs.Common.{sym, ◌∙◌, ap, arith}
use Rattle.std.proofs.Math.Option.{some}
use Rattle.std.proofs.lemmas.Bool.{not-true}
use Rattle.algebra.specs.Tests.{any_above, both}
use Rattle.refusal.specs.Replies.{number, refused_with}
use Rattle.refusal.specs.declared.Refusal.TheVariants.{Undecodable, NoSuchBell}
use Rattle.rank.specs.Definitions.{is_card, difference, apart}
use Rattle.rank.specs.Distance.{apart_self}
use Rattle.rank.specs.Weight.{weight_of, no_weight, weight_self}
use Rattle.coding.specs.Code.{word, is_message, Near}
use Rattle.coding.specs.Decode.{decode}
use Rattle.coding.specs.Promise.{WordsCards}
use Rattle.coding.specs.Proved.{words_cards, decoded, decode_none}
use Rattle.strike.specs.Strikes.{no_bell, strike_of}
use Rattle.book.specs.Layout.{body_good, card}
use Rattle.book.specs.Reading.{no_value, card_refusal, card_reading, cards_in, reading}
use Rattle.book.specs.CardReading.{struck, card_lost, card_bell, card_strike, read_there, there_card}

-- six symbols, none above 728
inside : (c : List ℕ) → is_card c ≡ true → any_above 728 c ≡ false
unfolding is_card
inside c e = not-true (any_above 728 c) (both (eqb (length c) 6) (not (any_above 728 c)) e).1

module _ (bs : List ℕ) (n : ℕ) (good : body_good bs ≡ true) (low : 1 ≤ n) (high : n ≤ cards_in bs) where
  -- what is said of the card is said by Read
  said : card_reading (card_refusal (card bs n)) (card bs n) ≡ reading bs n
  said = read_there bs n good (there_card bs n low high)

  module _ (m : List ℕ) (e : is_card (card bs n) ≡ true) (h : Near 2 (card bs n) m) where
    found : decode 2 (card bs n) ≡ some m
    found = (decoded 2 (omega arith) (omega arith) (card bs n) e m).1 h

    -- THE STRIKE of the message whose word is near the card, with how far that is
    pub near_read : no_bell (strike_of m) ≡ false → reading bs n ≡ struck m (weight_of (difference (word 2 m) (card bs n)))
    near_read b = sym (card_strike (card bs n) m (inside (card bs n) e) found b ∙ said)

    -- refusal 13 where that message means no bell
    pub bell_read : no_bell (strike_of m) ≡ true → reading bs n ≡ refused_with no_value (number NoSuchBell)
    bell_read b = sym (card_bell (card bs n) m (inside (card bs n) e) found b ∙ said)

  -- refusal 4 where no word is near
  pub lost_read : is_card (card bs n) ≡ true → ((m : List ℕ) → Near 2 (card bs n) m → ⊥) → reading bs n ≡ refused_with no_value (number Undecodable)
  lost_read e h = sym (card_lost (card bs n) (inside (card bs n) e) ((decode_none 2 (card bs n)).1 h) ∙ said)

  -- A WORD is near itself, so it is read as the strike that it was encoded from, with damage 0, or refused for its bell
  module _ (m : List ℕ) (e : is_message 2 m ≡ true) (w : card bs n ≡ word 2 m) where
    word_card : is_card (card bs n) ≡ true
    unfolding WordsCards
    word_card = rw w (words_cards 2 m (omega arith) (omega arith) e)

    word_near : Near 2 (card bs n) m
    word_near =
        let zero : apart (word 2 m) (card bs n) ≡ 0 = rw w (apart_self (word 2 m)) in
        record { message = e; within = rw zero (omega arith) }

    pub word_read : no_bell (strike_of m) ≡ false → reading bs n ≡ struck m no_weight
    word_read b = near_read m word_card word_near b ∙ ap (struck m) (sym (rw w (weight_self (word 2 m))))

    pub word_refused : no_bell (strike_of m) ≡ true → reading bs n ≡ refused_with no_value (number NoSuchBell)
    word_refused b = bell_read m word_card word_near b
