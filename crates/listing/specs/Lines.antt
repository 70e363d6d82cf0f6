-- The lines of cards so far, in the terms of a loop that counts them; and the kinds of a line.
-- Main: line_strike, line_refused, ticks_value, ticks_refused; CardsSo, cards_start, cards_room, cards_next, cards_end.
use Rattle.std.specs.Prelude.{◌≡◌, true, List, ℕ, suc, ◌+◌, ◌-◌, ◌≤◌, ◌<◌, length, Result, Ok, Err}
use Rattle.std.proofs.Common.{arith}
use Rattle.refusal.specs.Replies.{Reply, number, number_not_zero, replied, reply}
use Rattle.refusal.specs.declared.Refusal.{Refusal}
use Rattle.book.specs.declared.reading.Reading.{Reading}
use Rattle.book.specs.Layout.{body_good}
use Rattle.book.specs.Reading.{CardValue, read_reply, cards_in, reading}
use Rattle.book.specs.Bodies.{add_delay, total_delay}
use Rattle.book.specs.Delays.{Adding, adding_start, adding_next, adding_end}
use Rattle.text.specs.declared.lent.Lent.{Lent}
use Rattle.text.specs.Text.{ascii, word_line}
use Rattle.text.specs.Writing.{HasRoom, Writes, Joins}
use Rattle.text.proofs.WritingLaws.{joins_start, joins_room, joins_next, joins_end}
use Rattle.listing.specs.Listing.{strike_line, refused_line, card_line, card_lines, ticks_line}

-- THE TWO KINDS OF A CARD LINE
pub line_strike : (n : ℕ) (r : Result Reading Refusal) (x : Reading) → r ≡ Ok x → card_line n (read_reply r) ≡ strike_line n x.strike x.damage
unfolding card_line
line_strike n r x e = rw e

pub line_refused : (n : ℕ) (r : Result Reading Refusal) (why : Refusal) (m : ℕ) → r ≡ Err why → m ≡ number why
    → card_line n (read_reply r) ≡ refused_line n m
unfolding card_line
line_refused n r why m e f = rw (e, f, number_not_zero why)

-- the same of the last line
pub ticks_value : (a : Result ℕ Refusal) (v : ℕ) → a ≡ Ok v → ticks_line (reply a) ≡ word_line (ascii "ticks") v
unfolding ticks_line
ticks_value a v e = rw e

pub ticks_refused : (a : Result ℕ Refusal) (x : Refusal) → a ≡ Err x → ticks_line (reply a) ≡ ascii "ticks unknown\n"
unfolding ticks_line
ticks_refused a x e = rw (e, number_not_zero x)

-- CARDS: those before card n were written, and their delays added
pub record CardsSo (body : List ℕ) (old new : Lent ℕ) (ticks : Reply ℕ) (n : ℕ) : Type 0 where
  pub adding : Adding body ticks n
  pub lines : Joins (λ i. card_line (suc i) (reading body (suc i))) old new (n - 1)

pub cards_start : (body : List ℕ) (old : Lent ℕ) → body_good body ≡ true → old.at ≤ length old.list.now → CardsSo body old old (replied 0) 1
cards_start body old g h = record { adding = adding_start body g; lines = joins_start _ old h }

module _ {body : List ℕ} {old new : Lent ℕ} {ticks : Reply ℕ} {n : ℕ} (g : CardsSo body old new ticks n) where
  -- this card
  line_is : (s : Reply CardValue) → s ≡ reading body n → card_line (suc (n - 1)) (reading body (suc (n - 1))) ≡ card_line n s
  line_is s e = let f : suc (n - 1) ≡ n = omega (arith, g.adding.low) in rw (f, e)

  pub cards_room : n ≤ cards_in body → HasRoom old (card_lines (cards_in body) body) → (s : Reply CardValue) → s ≡ reading body n
      → HasRoom new (card_line n s)
  cards_room h r s e = rw (← line_is s e) (joins_room g.lines (cards_in body) (omega (arith, g.adding.low)) r)

  pub cards_next : n ≤ cards_in body → (s : Reply CardValue) → s ≡ reading body n → (t : Reply ℕ) → t ≡ add_delay ticks s
      → {next : Lent ℕ} → Writes new (card_line n s) next → CardsSo body old next t (n + 1)
  cards_next h s e t f w =
      let l = g.adding.low in
      let p : n + 1 - 1 ≡ n - 1 + 1 = omega arith in
      record {
        adding = adding_next body ticks n g.adding s t h e f;
        lines = rw p (joins_next g.lines (rw (line_is s e) w));
      }

  pub cards_end : cards_in body < n → Writes old (card_lines (cards_in body) body) new × (ticks ≡ total_delay body)
  cards_end h =
      let a = g.adding in
      (joins_end g.lines (cards_in body) (omega (arith, a.low, a.within)), adding_end body ticks n a h)
