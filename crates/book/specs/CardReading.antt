-- Cards where they lie, and what is read of them, in the terms of the code.
-- Main: big_drop, twelve_bytes, card_part, card_range, card_lost, card_bell, card_strike, found_none, found_near, found_bell, found_strike,
-- card_passes, read_bad, read_past, read_there, read_passed, refused_reading, card_there, there_card, decoded_message.
use Rattle.std.specs.Prelude.{◌≡◌, refl, Bool, true, false, not, cond, List, [], ◌∷◌, ℕ, suc, ◌+◌, ◌*◌, ◌-◌, ◌≤◌, ◌<◌, ltb, eqb, length, take, drop, Some, None}
use Rattle.std.proofs.Common.{sym, ◌∙◌, ap, arith, get_or-take, get_or-drop, ltb-false, le-ltb, eq-eqb, ne_eqb}
use Rattle.std.proofs.Math.Option.{Option, none, some}
use Rattle.std.proofs.lemmas.Bool.{eqb-false}
use Rattle.algebra.specs.Tests.{any_above, neither}
use Rattle.refusal.specs.Replies.{number, Reply, replied, refused_with, reply_with}
use Rattle.refusal.specs.declared.Refusal.TheVariants.{Length, Range, Undecodable, NoSuchCard, NoSuchBell}
use Rattle.rank.specs.declared.Weight.{Weight}
use Rattle.rank.specs.Definitions.{is_card, difference}
use Rattle.rank.specs.Weight.{weight_of}
use Rattle.coding.specs.Code.{word, is_message}
use Rattle.coding.specs.Answers.{answer_holds}
use Rattle.coding.specs.Decode.{decode, decode_answers}
use Rattle.decoder.specs.Filling.{or_empty}
use Rattle.decoder.specs.Decoding.{decoded_word, damage}
use Rattle.strike.specs.Strikes.{no_bell, strike_of}
use Rattle.candidate.specs.declared.found.Found.{Found}
use Rattle.candidate.specs.Finding.{found_message, Consistent, message_some, message_none}
use Rattle.book.specs.Layout.{big, body_good, symbols_from, card}
use Rattle.book.specs.Reading.{CardValue, no_value, strike_refusal, card_refusal, value_of_card, card_reading, cards_in, no_card, read_refusal, reading}

-- TWELVE BYTES
pub big_drop : (a : ℕ) (l : List ℕ) (i : ℕ) → big (drop a l) i ≡ big l (a + i)
unfolding big
big_drop a l i = let e : a + suc i ≡ suc (a + i) = omega arith in rw (get_or-drop a l i 0, get_or-drop a l (suc i) 0, e)

big_take : (n : ℕ) (l : List ℕ) (i : ℕ) → suc i < n → big (take n l) i ≡ big l i
unfolding big
big_take n l i h = rw (get_or-take n l i 0 (omega arith), get_or-take n l (suc i) 0 h)

pub twelve_bytes : (l : List ℕ) → symbols_from 6 l ≡ big l 0 ∷ big l 2 ∷ big l 4 ∷ big l 6 ∷ big l 8 ∷ big l 10 ∷ []
unfolding symbols_from
twelve_bytes l = simp big_drop

pub card_part : (bs : List ℕ) (n : ℕ) → symbols_from 6 (take 12 (drop (12 * (n - 1)) bs)) ≡ card bs n
unfolding card
card_part bs n =
    let l = drop (12 * (n - 1)) bs in
    rw (twelve_bytes (take 12 l), twelve_bytes l)
    (rw (big_take 12 l 0 (omega arith), big_take 12 l 2 (omega arith), big_take 12 l 4 (omega arith), big_take 12 l 6 (omega arith), big_take 12 l 8 (omega arith), big_take 12 l 10 (omega arith)))

-- A CARD: out of range, beyond mending, of no bell, or a strike
pub card_range : (c : List ℕ) → any_above 728 c ≡ true → refused_with no_value (number Range) ≡ card_reading (card_refusal c) c
unfolding card_refusal card_reading reply_with
card_range c e = rw e

pub card_lost : (c : List ℕ) → any_above 728 c ≡ false → decode 2 c ≡ none → refused_with no_value (number Undecodable) ≡ card_reading (card_refusal c) c
unfolding card_refusal card_reading strike_refusal reply_with
card_lost c e d = rw (e, d)

pub card_bell : (c m : List ℕ) → any_above 728 c ≡ false → decode 2 c ≡ some m → no_bell (strike_of m) ≡ true
    → refused_with no_value (number NoSuchBell) ≡ card_reading (card_refusal c) c
unfolding card_refusal card_reading strike_refusal reply_with
card_bell c m e d b = rw (e, d, b)

-- what is said of a strike with its damage
abbrev pub struck : (message : List ℕ) → (damage : Weight) → Reply CardValue
struck m d = replied (record { strike = strike_of m; damage = d })

pub card_strike : (c m : List ℕ) → any_above 728 c ≡ false → decode 2 c ≡ some m → no_bell (strike_of m) ≡ false
    → struck m (weight_of (difference (word 2 m) c)) ≡ card_reading (card_refusal c) c
unfolding card_refusal card_reading value_of_card strike_refusal or_empty decoded_word damage reply_with
card_strike c m e d b = rw (e, d, b)

-- what decoding found: none, or a message with its word's weight
module _ (c : List ℕ) (inside : any_above 728 c ≡ false) where
  pub found_none : found_message None ≡ decode 2 c → refused_with no_value (number Undecodable) ≡ card_reading (card_refusal c) c
  found_none a = card_lost c inside (sym a ∙ message_none)

  module _ (f : Found) (a : found_message (Some f) ≡ decode 2 c) (w : Consistent 2 c (Some f)) where
    pub found_near : decode 2 c ≡ some (take 4 f.message.numbers)
    found_near = sym a ∙ message_some f ∙ ap (λ (k : ℕ). some (take (2 * k) f.message.numbers)) w.0

    pub found_bell : no_bell (strike_of (take 4 f.message.numbers)) ≡ true → refused_with no_value (number NoSuchBell) ≡ card_reading (card_refusal c) c
    found_bell b = card_bell c (take 4 f.message.numbers) inside found_near b

    pub found_strike : no_bell (strike_of (take 4 f.message.numbers)) ≡ false → struck (take 4 f.message.numbers) f.weight ≡ card_reading (card_refusal c) c
    found_strike b =
        let v = f.word_is ∙ ap (λ (k : ℕ). word k (take (2 * k) f.message.numbers)) w.0 in
        let e = w.1 ∙ ap (λ (x : List ℕ). weight_of (difference x c)) v in
        rw e (card_strike c (take 4 f.message.numbers) inside found_near b)

pub card_passes : (c : List ℕ) → length c ≡ 6 → any_above 728 c ≡ false → is_card c ≡ true
unfolding is_card
card_passes c l e = rw (eq-eqb (length c) 6 l, e)

-- READ
pub read_bad : (bs : List ℕ) (n : ℕ) (t : Bool) → t ≡ body_good bs → not t ≡ true → refused_with no_value (number Length) ≡ reading bs n
unfolding reading read_refusal card_reading reply_with
read_bad bs n t e h = rw (← e, h)

pub read_past : (bs : List ℕ) (n : ℕ) → body_good bs ≡ true → no_card bs n ≡ true → refused_with no_value (number NoSuchCard) ≡ reading bs n
unfolding reading read_refusal card_reading reply_with
read_past bs n e p = rw (e, p)

pub read_there : (bs : List ℕ) (n : ℕ) → body_good bs ≡ true → no_card bs n ≡ false → card_reading (card_refusal (card bs n)) (card bs n) ≡ reading bs n
unfolding reading read_refusal
read_there bs n e p = rw (e, p)

-- what is known of a card that is read: its symbols are in range, and a message near it means a bell
pub record Passed (c : List ℕ) : Type 0 where
  pub inside : any_above 728 c ≡ false
  pub message : List ℕ
  pub is_near : decode 2 c ≡ some message
  pub has_bell : no_bell (strike_of message) ≡ false

pub read_passed : (bs : List ℕ) (n : ℕ) → read_refusal bs n ≡ 0 → Passed (card bs n)
unfolding read_refusal card_refusal strike_refusal
read_passed bs n e = go (body_good bs) (no_card bs n) (any_above 728 c) refl (decode 2 c) refl e
  where
    c : List ℕ
    c = card bs n

    near : any_above 728 c ≡ false → (m : List ℕ) → decode 2 c ≡ some m → (b : Bool) → no_bell (strike_of m) ≡ b → cond b (number NoSuchBell) 0 ≡ 0 → Passed c
    near s m t true w e = absurd (omega arith)
    near s m t false w e = record { inside = s; message = m; is_near = t; has_bell = w }

    go : (g p a : Bool) → any_above 728 c ≡ a → (o : Option (List ℕ)) → decode 2 c ≡ o
        → cond (not g) (number Length) (cond p (number NoSuchCard) (cond a (number Range) (strike_refusal o))) ≡ 0 → Passed c
    go false p a s o t e = absurd (omega arith)
    go true true a s o t e = absurd (omega arith)
    go true false true s o t e = absurd (omega arith)
    go true false false s none t e = absurd (omega arith)
    go true false false s (some m) t e = near s m t (no_bell (strike_of m)) refl e

-- a refusal has no value
pub refused_reading : (bs : List ℕ) (n : ℕ) → ((reading bs n).refusal ≡ 0 → ⊥) → reading bs n ≡ refused_with no_value (reading bs n).refusal
unfolding reading card_reading reply_with
refused_reading bs n h = rw (ne_eqb (read_refusal bs n) 0 h)

pub card_there : (bs : List ℕ) (n : ℕ) → no_card bs n ≡ false → (1 ≤ n) × (n ≤ cards_in bs)
unfolding no_card
card_there bs n e =
    let t = neither (eqb n 0) (ltb (cards_in bs) n) e in
    let p = eqb-false n 0 t.0 in
    (omega arith, ltb-false (cards_in bs) n t.1)

pub there_card : (bs : List ℕ) (n : ℕ) → 1 ≤ n → n ≤ cards_in bs → no_card bs n ≡ false
unfolding no_card
there_card bs n a b = rw (ne_eqb n 0 (λ e. omega arith), le-ltb (cards_in bs) n b)

-- a message that was found
pub decoded_message : (c m : List ℕ) → decode 2 c ≡ some m → is_message 2 m ≡ true
decoded_message c m e = (answer_holds (decode_answers 2 c) e).message
