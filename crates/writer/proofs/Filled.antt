-- A book filled as the code does it: bytes stored one after another, what each loop has written so far, and the whole.
-- Main: two_is, four_is; symbols_at, symbols_end; count_room, entries_start, entries_room, entries_next, entries_end; cards_room, cards_good,
-- cards_next, cards_end; written_refused, whole_fits, written_done.
use Rattle.std.specs.Prelude.{◌≡◌, refl, true, List, [], ◌∷◌, ◌++◌, ℕ, ◌+◌, ◌*◌, ◌≤◌, ◌<◌, length, get_or, drop, Ok, Err}
use Rattle.std.specs.Int.{w16, w32, to_be_bytes}
use Rattle.std.proofs.Common.{sym, ◌∙◌, ap, arith, add-one, drop-cons, drop_of_length-le}
use Rattle.std.proofs.lemmas.List.{nil_from_length}
use Rattle.algebra.specs.Lists.{All, cons}
use Rattle.text.specs.declared.lent.Lent.{Lent}
use Rattle.text.specs.Writing.{HasRoom, Writes}
use Rattle.text.proofs.WritingLaws.{part_start, part_room, part_next, part_end, wrote_whole}
use Rattle.refusal.specs.Replies.{number, number_not_zero, unless_refused, unless_done}
use Rattle.refusal.specs.declared.Refusal.{Refusal}
use Rattle.strike.specs.declared.Strike.{Strike}
use Rattle.strike.specs.Strikes.{in_range}
use Rattle.strike.specs.Turns.{strikes, strikes_end}
use Rattle.book.specs.Layout.{contents_end, two_bytes, four_bytes, entry_bytes, symbols_bytes}
use Rattle.writer.specs.Writing.{all_cards, card_bytes, cards_bytes, entries_bytes, contents_bytes, book_bytes, book_length, write_refusal, Written}
use Rattle.writer.specs.Layouts.{length_book}
use Rattle.writer.proofs.Writable.{writable}
use Rattle.writer.specs.declared.tests.Lists.{Lists}
use Rattle.writer.specs.Filled.{EntriesSoFar, CardsSoFar}

-- BYTES of a number, as the library has them
pub two_is : (n : ℕ) → n < 65536 → to_be_bytes w16 n ≡ two_bytes n
unfolding two_bytes
two_is n h = cons (omega arith) refl

pub four_is : (n : ℕ) → n < 4294967296 → to_be_bytes w32 n ≡ four_bytes n
unfolding four_bytes two_bytes
four_is n h = cons (omega arith) (cons (omega arith) (cons (omega arith) (cons (omega arith) refl)))

-- SYMBOLS from symbol i on
module _ (w : List ℕ) (i : ℕ) where
  pub symbols_at : i < length w → symbols_bytes (drop i w) ≡ two_bytes (get_or w i 0) ++ symbols_bytes (drop (i + 1) w)
  unfolding symbols_bytes
  symbols_at h = rw (add-one i, drop-cons w i 0 h)

  pub symbols_end : length w ≤ i → symbols_bytes (drop i w) ≡ []
  unfolding symbols_bytes
  symbols_end h = rw (drop_of_length-le w h)

-- THE CONTENTS: the count of tunes, and then the entries, all of which are left
module _ (l : Lists) (bytes : List ℕ) (b : bytes ≡ to_be_bytes w16 (length l.numbers.now)) where
  few : length l.numbers.now < 65536
  unfolding book_length
  few = let f = l.book_fits in let e = l.same_length in omega arith

  count_first : contents_bytes l.numbers.now l.counts.now ≡ bytes ++ entries_bytes l.numbers.now l.counts.now (contents_end (length l.numbers.now))
  unfolding contents_bytes
  count_first = rw (b ∙ two_is (length l.numbers.now) few)

  module _ (old : Lent ℕ) (h : HasRoom old (contents_bytes l.numbers.now l.counts.now)) where
    pub count_room : HasRoom old bytes
    count_room = part_room (part_start old _ (omega arith)) bytes _ count_first h

    pub entries_start : {new : Lent ℕ} → Writes old bytes new
        → EntriesSoFar (contents_bytes l.numbers.now l.counts.now) l.numbers.now l.counts.now (contents_end (length l.numbers.now)) (book_length l.counts.now) old new
    unfolding book_length
    entries_start w = record {
      paired = l.same_length;
      ends = let e = l.same_length in omega arith;
      parts = part_next (part_start old _ (omega arith)) bytes _ count_first w;
    }

-- ENTRIES: those of the numbers ns and the counts cs are left
module _ {whole ns cs : List ℕ} {start size : ℕ} {old new : Lent ℕ} (s : EntriesSoFar whole ns cs start size old new) where
  -- the next one
  module _ {n c : ℕ} {ms ds : List ℕ} (e : ns ≡ n ∷ ms) (f : cs ≡ c ∷ ds) where
    entries_first : entries_bytes ns cs start ≡ entry_bytes n start c ++ entries_bytes ms ds (start + 12 * c)
    unfolding entries_bytes
    entries_first = rw (e, f)

    counts_first : all_cards cs ≡ c + all_cards ds
    unfolding all_cards
    counts_first = rw f

    pub entries_room : HasRoom old whole → HasRoom new (entry_bytes n start c)
    entries_room h = part_room s.parts _ _ entries_first h

    pub entries_within : start + 12 * c ≤ size
    entries_within = omega (arith, counts_first, s.ends)

    pub entries_next : {mid : Lent ℕ} → Writes new (entry_bytes n start c) mid → EntriesSoFar whole ms ds (start + 12 * c) size old mid
    entries_next w = record {
      paired = omega (arith, s.paired, ap length e, ap length f);
      ends = omega (arith, counts_first, s.ends);
      parts = part_next s.parts _ _ entries_first w;
    }

  pub entries_end : length ns ≡ 0 → Writes old whole new
  unfolding entries_bytes
  entries_end e = part_end s.parts (rw (nil_from_length ns e))

-- CARDS: those of the strikes of ns are left
abbrev pub strike_of_numbers : List ℕ → Strike
strike_of_numbers ms = record { bell = get_or ms 0 0; force = get_or ms 1 0; delay = get_or ms 2 0 }

strikes_first : (ms ss : List ℕ) → length ms ≡ 3 → strikes (ms ++ ss) ≡ strike_of_numbers ms ∷ strikes ss
unfolding strikes
strikes_first [] ss l = absurd (omega arith)
strikes_first (b ∷ []) ss l = absurd (omega arith)
strikes_first (b ∷ f ∷ []) ss l = absurd (omega arith)
strikes_first (b ∷ f ∷ d ∷ []) ss l = refl
strikes_first (b ∷ f ∷ d ∷ x ∷ ms) ss l = absurd (omega arith)

module _ {whole ns : List ℕ} {old new : Lent ℕ} (c : CardsSoFar whole ns old new) where
  -- the next one
  module _ (ms ss : List ℕ) (e : ns ≡ ms ++ ss) (l : length ms ≡ 3) where
    cards_first : cards_bytes (strikes ns) ≡ card_bytes (strike_of_numbers ms) ++ cards_bytes (strikes ss)
    unfolding cards_bytes
    cards_first = rw (e, strikes_first ms ss l)

    ranges : All (λ s. in_range s ≡ true) (strike_of_numbers ms ∷ strikes ss)
    ranges = rw (e, strikes_first ms ss l) at c.ranged

    pub cards_room : HasRoom old whole → HasRoom new (card_bytes (strike_of_numbers ms))
    cards_room h = part_room c.parts _ _ cards_first h

    pub cards_good : in_range (strike_of_numbers ms) ≡ true
    cards_good = ranges.0

    pub cards_next : {mid : Lent ℕ} → Writes new (card_bytes (strike_of_numbers ms)) mid → CardsSoFar whole ss old mid
    cards_next w = record { ranged = ranges.1; parts = part_next c.parts _ _ cards_first w }

  pub cards_end : length ns < 3 → Writes old whole new
  unfolding cards_bytes
  cards_end h = part_end c.parts (rw (strikes_end ns 0 (omega arith)))

-- THE WHOLE, by what the tests answered
module _ (ns cs ss bs : List ℕ) where
  pub written_refused : (why : Refusal) → number why ≡ write_refusal ns cs ss (length bs) → Written ns cs ss bs (Err why) bs
  written_refused why e = record { answers = e; book_is = unless_refused _ _ _ (rw (← e) (number_not_zero why)) }

  module _ (e : 0 ≡ write_refusal ns cs ss (length bs)) where
    -- the book is as long as what is written
    pub whole_fits : length bs ≡ length (book_bytes ns cs ss)
    whole_fits =
        let w = writable ns cs ss (length bs) (sym e) in
        w.fits ∙ sym (length_book ns cs w.paired ss w.numbers)

    pub written_done : {lent : Lent ℕ} {new : List ℕ} → lent.list.now ≡ bs → lent.at ≡ 0 → {filled : Lent ℕ} → Writes lent (book_bytes ns cs ss) filled
        → new ≡ filled.list.now → Written ns cs ss bs (Ok tt) new
    written_done p q w f = record {
      answers = e;
      book_is = unless_done _ (book_bytes ns cs ss) bs _ (sym e) (f ∙ wrote_whole (rw (p, q) at w.wrote) whole_fits);
    }
