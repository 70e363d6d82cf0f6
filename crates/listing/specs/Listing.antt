-- The text of a tune in a listing (SPECIFICATION 9.1), as the list of its bytes.
-- Main: card_line, card_lines, tune_line, ticks_line, body_text, tune_text.
use Rattle.std.specs.Prelude.{cond, List, ◌++◌, ℕ, suc, eqb}
use Rattle.refusal.specs.Replies.{Reply}
use Rattle.rank.specs.declared.Weight.{Weight}
use Rattle.strike.specs.declared.Strike.{Strike}
use Rattle.book.specs.Layout.{tune_number, cards, part_of}
use Rattle.book.specs.Reading.{CardValue, cards_in, reading}
use Rattle.book.specs.Bodies.{total_delay}
use Rattle.text.specs.Text.{ascii, line_end, decimal, spaced, word_line, joined}

-- CARD LINES: card, bell, force, delay, rank of damage
unfoldable pub strike_line : (n : ℕ) → Strike → (damage : Weight) → List ℕ
strike_line n s d = decimal n ++ spaced s.bell ++ spaced s.force ++ spaced s.delay ++ spaced d.rank ++ line_end

-- or card and refusal
unfoldable pub refused_line : (n : ℕ) → (refusal : ℕ) → List ℕ
refused_line n m = decimal n ++ ascii " refused" ++ spaced m ++ line_end

-- of card n, of which this is said
unfoldable pub card_line : (n : ℕ) → Reply CardValue → List ℕ
card_line n r = cond (eqb r.refusal 0) (strike_line n r.value.strike r.value.damage) (refused_line n r.refusal)

-- of the first k cards of a body
abbrev pub card_lines : (k : ℕ) → (body : List ℕ) → List ℕ
card_lines k bs = joined (λ i. card_line (suc i) (reading bs (suc i))) k

-- A TUNE. First line: tune number, cards
unfoldable pub tune_line : (tune cards : ℕ) → List ℕ
tune_line t c = ascii "tune" ++ spaced t ++ spaced c ++ line_end

-- last: Length, or that it is unknown
unfoldable pub ticks_line : Reply ℕ → List ℕ
ticks_line t = cond (eqb t.refusal 0) (word_line (ascii "ticks") t.value) (ascii "ticks unknown" ++ line_end)

-- the lines of a body: of its cards, and the last
unfoldable pub body_text : (body : List ℕ) → List ℕ
body_text bs = card_lines (cards_in bs) bs ++ ticks_line (total_delay bs)

-- of entry e of the contents
unfoldable pub tune_text : List ℕ → (e : ℕ) → List ℕ
tune_text bs e = tune_line (tune_number bs e) (cards bs e) ++ body_text (part_of bs e)
