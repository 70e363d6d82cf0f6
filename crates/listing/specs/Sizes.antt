-- How long the text of a tune is: at most two bytes for each byte of its entry and its body.
-- Main: strike_line_length, refused_line_length, tune_line_length, body_text_length, tune_text_length; tune_text_short.
use Rattle.std.specs.Prelude.{◌≡◌, Bool, true, false, cond, List, ◌++◌, ℕ, zero, suc, ◌+◌, ◌*◌, ◌-◌, ◌≤◌, ◌<◌, eqb, length}
use Rattle.std.proofs.Math.Decide.{dec_lt}
use Rattle.std.proofs.Common.{arith, length-append}
use Rattle.book.specs.Layout.{tunes, tune_number, cards, part_of}
use Rattle.refusal.specs.Replies.{Reply}
use Rattle.rank.specs.declared.Weight.{Weight}
use Rattle.strike.specs.declared.Strike.{Strike}
use Rattle.book.specs.Reading.{CardValue, cards_in, reading}
use Rattle.book.specs.Bodies.{total_delay}
use Rattle.book.specs.Accepted.{Accepted}
use Rattle.book.proofs.Accepted.{part_length, cards_some, number_range, part_good}
use Rattle.book.specs.Bounds.{good_length, Bounded, reading_bounded}
use Rattle.book.specs.Delays.{total_bounded}
use Rattle.text.specs.Text.{ascii, line_end, decimal, spaced, word_line, joined}
use Rattle.text.specs.Decimal.{one_digit, two_digits, three_digits, four_digits, seven_digits, spaced_length, word_line_length}
use Rattle.listing.specs.Listing.{strike_line, refused_line, card_line, card_lines, tune_line, ticks_line, body_text, tune_text}

-- LENGTHS of the lines, part by part
pub strike_line_length : (n : ℕ) (s : Strike) (d : Weight)
    → length (strike_line n s d) ≡ length (decimal n) + length (spaced s.bell) + length (spaced s.force) + length (spaced s.delay) + length (spaced d.rank) + 1
unfolding strike_line
strike_line_length n s d = simp length-append

pub refused_line_length : (n m : ℕ) → length (refused_line n m) ≡ length (decimal n) + 8 + length (spaced m) + 1
unfolding refused_line
refused_line_length n m = simp length-append

pub tune_line_length : (t c : ℕ) → length (tune_line t c) ≡ 4 + length (spaced t) + length (spaced c) + 1
unfolding tune_line
tune_line_length t c = simp length-append

pub body_text_length : (bs : List ℕ) → length (body_text bs) ≡ length (card_lines (cards_in bs) bs) + length (ticks_line (total_delay bs))
unfolding body_text
body_text_length bs = simp length-append

pub tune_text_length : (bs : List ℕ) (e : ℕ)
    → length (tune_text bs e) ≡ length (tune_line (tune_number bs e) (cards bs e)) + length (body_text (part_of bs e))
unfolding tune_text
tune_text_length bs e = simp length-append

-- A CARD LINE has at most 13 bytes beside its number
strike_line_short : (n : ℕ) (r : Reply CardValue) → Bounded r → length (strike_line n r.value.strike r.value.damage) ≤ length (decimal n) + 13
strike_line_short n r l =
    let s = r.value.strike in
    let d = r.value.damage in
    let bell = two_digits s.bell (omega (arith, l.bell)) in
    let force = two_digits s.force (omega (arith, l.force)) in
    let delay = three_digits s.delay (omega (arith, l.delay)) in
    let damage = one_digit d.rank (omega (arith, l.damage)) in
    omega (arith, strike_line_length n s d, spaced_length s.bell, spaced_length s.force, spaced_length s.delay, spaced_length d.rank)

refused_line_short : (n m : ℕ) → m < 100 → length (refused_line n m) ≤ length (decimal n) + 13
refused_line_short n m h = omega (arith, refused_line_length n m, spaced_length m, two_digits m h)

card_line_short : (n : ℕ) (r : Reply CardValue) → Bounded r → length (card_line n r) ≤ length (decimal n) + 13
unfolding card_line
card_line_short n r l = go (eqb r.refusal 0)
  where
    go : (b : Bool) → length (cond b (strike_line n r.value.strike r.value.damage) (refused_line n r.refusal)) ≤ length (decimal n) + 13
    go true = strike_line_short n r l
    go false = refused_line_short n r.refusal l.refusal

-- that of card 1 at most 14 bytes, and any other 17, as card numbers have at most four digits
card_lines_short : (k : ℕ) (bs : List ℕ) → suc k < 10000 → length (card_lines (suc k) bs) ≤ 14 + 17 * k
unfolding joined
card_lines_short zero bs h = omega (arith, card_line_short 1 (reading bs 1) (reading_bounded bs 1), one_digit 1 (omega arith))
card_lines_short (suc k) bs h =
    let n = suc (suc k) in
    let l = length-append (card_lines (suc k) bs) (card_line n (reading bs n)) in
    omega (arith, card_lines_short k bs (omega arith), card_line_short n (reading bs n) (reading_bounded bs n), four_digits n h)

-- THE LAST LINE has at most 14 bytes
ticks_line_short : (t : Reply ℕ) → t.value < 10000000 → length (ticks_line t) ≤ 14
unfolding ticks_line
ticks_line_short t h = go (eqb t.refusal 0)
  where
    go : (b : Bool) → length (cond b (word_line (ascii "ticks") t.value) (ascii "ticks unknown" ++ line_end)) ≤ 14
    go true = omega (arith, word_line_length (ascii "ticks") t.value, spaced_length t.value, seven_digits t.value h)
    go false = omega arith

-- A TUNE's text has at most two bytes for each byte of its entry and its body
tune_short : (t c : ℕ) (r : Reply ℕ) (l : ℕ) → t < 10000 → 1 ≤ c → c ≤ 5461 → r.value ≤ 728 * c → l + 3 ≤ 17 * c
    → length (tune_line t c) + (l + length (ticks_line r)) ≤ 2 * (8 + 12 * c)
tune_short t c r l ht h1 hc hr hl = go (dec_lt c 2)
  where
    last : length (ticks_line r) ≤ 14
    last = ticks_line_short r (omega arith)

    go : Dec (c < 2) → length (tune_line t c) + (l + length (ticks_line r)) ≤ 2 * (8 + 12 * c)
    go (yes one) = omega (arith, tune_line_length t c, spaced_length t, spaced_length c, four_digits t ht, one_digit c (omega arith), last)
    go (no more) = omega (arith, tune_line_length t c, spaced_length t, spaced_length c, four_digits t ht, four_digits c (omega arith), last)

pub tune_text_short : (bs : List ℕ) → Accepted bs → (e : ℕ) → e < tunes bs → length (tune_text bs e) ≤ 2 * (8 + 12 * cards bs e)
tune_text_short bs a e h =
    let b = part_of bs e in
    let c = cards bs e in
    let n = part_length bs a e h in
    let m : cards_in b ≡ c = omega (arith, n) in
    let k : c ≤ 5461 = omega (arith, good_length b (part_good bs a e h), n) in
    let t = (number_range bs a e h).1 in
    let s = cards_some bs a e h in
    let d = total_bounded b in
    let p : cards_in b ≡ suc (c - 1) = omega arith in
    let l : length (card_lines (cards_in b) b) + 3 ≤ 17 * c = rw p (omega (arith, card_lines_short (c - 1) b (omega arith))) in
    let f = tune_short (tune_number bs e) c (total_delay b) (length (card_lines (cards_in b) b)) (omega arith) s k (omega arith) l in
    omega (arith, tune_text_length bs e, body_text_length b)
