-- Cards and bodies that are read with damage 0: they are the cards of their strikes.
-- Main: clean_card, clean_body.
use Rattle.std.specs.Prelude.{◌≡◌, refl, List, drop}
use Rattle.std.proofs.Common.{sym, ◌∙◌}
use Prim.Native.Nat.{ℕ, zero, suc, ◌+◌, ◌*◌, ◌-◌, ◌≤◌, ◌<◌}
use native.Mathlib.Omega.{arith}
use Rattle.std.proofs.Math.ListN.{length, length-drop}
use Rattle.std.proofs.Math.Seq.{drop-drop, drop-length}
use Rattle.algebra.specs.Lists.{all_drop}
use Rattle.refusal.specs.Replies.{reply_with}
use Rattle.rank.specs.Definitions.{difference, apart}
use Rattle.rank.specs.Distance.{apart_zero}
use Rattle.rank.specs.Weight.{weight_rank}
use Rattle.coding.specs.Code.{word}
use Rattle.coding.specs.Promise.{WordsCards}
use Rattle.coding.specs.Proved.{words_cards}
use Rattle.decoder.specs.Filling.{or_empty}
use Rattle.decoder.specs.Decoding.{decoded_word, damage}
use Rattle.strike.specs.Strikes.{strike_message, strike_message_back}
use Rattle.book.specs.Layout.{symbols_from, card}
use Rattle.book.specs.Reading.{value_of_card, card_reading, cards_in, reading}
use Rattle.book.specs.CardReading.{read_passed, card_passes, decoded_message}
use Rattle.writer.specs.Writing.{card_bytes, cards_bytes}
use Rattle.writer.specs.Holding.{strikes_from, body_strikes, Bytes}
use Rattle.writer.specs.Layouts.{symbols_written}

-- A CARD that is read with damage 0 is the word of its strike's message
pub clean_card : (b : List ℕ) (n : ℕ) → (reading b n).refusal ≡ 0 → (reading b n).value.damage.rank ≡ 0
    → word 2 (strike_message (reading b n).value.strike) ≡ card b n
unfolding reading card_reading reply_with value_of_card or_empty decoded_word damage card symbols_from apart WordsCards
clean_card b n e d =
    let c = card b n in
    let p = read_passed b n e in
    let m = p.message in
    let t = p.is_near in
    let i = decoded_message c m t in
    let z : apart (word 2 m) c ≡ 0 = sym (weight_rank (difference (word 2 m) c)) ∙ (rw (e, t) at d) in
    rw (e, t, strike_message_back m i)
    (apart_zero (word 2 m) c (words_cards 2 m (omega arith) (omega arith) i) (card_passes c refl p.inside) z)

-- A BODY of clean cards is the cards of its strikes
module _ (b : List ℕ) (bytes : Bytes b)
    (clean : (n : ℕ) → 1 ≤ n → n ≤ cards_in b → ((reading b n).refusal ≡ 0) × ((reading b n).value.damage.rank ≡ 0)) where
  cards_again : (k j : ℕ) → length b ≡ 12 * (j + k) → cards_bytes (strikes_from k (suc j) b) ≡ drop (12 * j) b
  unfolding cards_bytes strikes_from card_bytes card
  cards_again zero j l = let z : 12 * j ≡ length b = omega arith in rw z (sym (drop-length b))
  cards_again (suc k) j l =
      let (r, d) = clean (suc j) (omega arith) (omega arith) in
      let y : 12 * suc j ≡ 12 * j + 12 = omega arith in
      let z : suc j - 1 ≡ j = omega arith in
      rw (cards_again k (suc j) (omega arith), clean_card b (suc j) r d, z, y, ← drop-drop 12 (12 * j) b)
      (symbols_written 6 (drop (12 * j) b) (all_drop (λ x. x < 256) (12 * j) b bytes) (rw length-drop (omega arith)))

  pub clean_body : length b ≡ 12 * cards_in b → cards_bytes (body_strikes b) ≡ b
  unfolding body_strikes
  clean_body l = cards_again (cards_in b) 0 (omega arith)
