-- The tests and the search of the contents from entry e on, in the terms of a loop that counts entries.
-- Main: rising_next, numbers_count, counts_count, number_at, count_at, numbers_next, bodies_next, and the laws for the start and the end beside
-- them, numbers_loop and bodies_loop, which name them; entry_first, entry_none.
use Rattle.std.specs.Prelude.{◌≡◌, refl, Bool, true, ◌&&◌, not, List, ◌↔◌, ℕ, suc, ◌+◌, ◌*◌, ◌-◌, ◌≤◌, ◌<◌, leb, eqb, length, get_or, drop}
use Rattle.std.proofs.Math.Option.{none, some}
use Rattle.std.proofs.Common.{arith, add-one, drop_of_length-le, drop-cons}
use Rattle.std.proofs.Math.Nat.{sub-zero}
use Rattle.algebra.specs.Lists.{length_table, at_table}
use Rattle.algebra.specs.Search.{First, NoneIn, search_first, search_none}
use Rattle.book.specs.Layout.{tunes, contents_end, tune_number, offset, cards, tune_numbers, card_counts}
use Rattle.book.specs.Open.{rising, bodies_good, numbers_bad, bodies_bad}
use Rattle.book.specs.Pull.{bears, entry_of}

-- what is left of n entries: one more than after the next, and none at the end
left_next : (n e : ℕ) → e < n → n - e ≡ suc (n - suc e)
left_next n e h = omega arith

left_end : (n e : ℕ) → n ≤ e → n - e ≡ 0
left_end n e h = omega arith

-- TUNE NUMBERS of a list
pub rising_next : (ns : List ℕ) (e l : ℕ) → e < length ns
    → rising l (drop e ns) ≡ (leb l (get_or ns e 0) && leb (get_or ns e 0) 9999) && rising (get_or ns e 0 + 1) (drop (e + 1) ns)
unfolding rising
rising_next ns e l h = rw (add-one e, add-one (get_or ns e 0), drop-cons ns e 0 h)

pub rising_end : (ns : List ℕ) (e l : ℕ) → length ns ≤ e → rising l (drop e ns) ≡ true
unfolding rising
rising_end ns e l h = rw (drop_of_length-le ns h)

-- THE LISTS of a book have a number and a count for each entry
module _ (bs : List ℕ) where
  pub numbers_count : length (tune_numbers bs) ≡ tunes bs
  unfolding tune_numbers
  numbers_count = length_table (tunes bs) (λ e. tune_number bs e)

  pub counts_count : length (card_counts bs) ≡ tunes bs
  unfolding card_counts
  counts_count = length_table (tunes bs) (λ e. cards bs e)

  pub number_at : (e : ℕ) → e < tunes bs → get_or (tune_numbers bs) e 0 ≡ tune_number bs e
  unfolding tune_numbers
  number_at e h = at_table (tunes bs) (λ e. tune_number bs e) e h

  pub count_at : (e : ℕ) → e < tunes bs → get_or (card_counts bs) e 0 ≡ cards bs e
  unfolding card_counts
  count_at e h = at_table (tunes bs) (λ e. cards bs e) e h

-- TUNE NUMBERS of a book
unfoldable pub numbers_on : List ℕ → (e least : ℕ) → Bool
numbers_on bs e l = rising l (drop e (tune_numbers bs))

pub numbers_start : (bs : List ℕ) → numbers_bad bs ≡ not (numbers_on bs 0 1)
unfolding numbers_bad numbers_on
numbers_start bs = refl

pub numbers_next : (bs : List ℕ) (e l : ℕ) → e < tunes bs
    → numbers_on bs e l ≡ (leb l (tune_number bs e) && leb (tune_number bs e) 9999) && numbers_on bs (e + 1) (tune_number bs e + 1)
unfolding numbers_on
numbers_next bs e l h = rw (← number_at bs e h) (rising_next (tune_numbers bs) e l (rw (numbers_count bs) h))

pub numbers_end : (bs : List ℕ) (e l : ℕ) → tunes bs ≤ e → numbers_on bs e l ≡ true
unfolding numbers_on
numbers_end bs e l h = rising_end (tune_numbers bs) e l (rw (numbers_count bs) h)

pub ruleset numbers_loop = (numbers_start, numbers_next, numbers_end)

-- BODIES
unfoldable pub bodies_on : List ℕ → (e end : ℕ) → Bool
bodies_on bs e x = bodies_good (tunes bs - e) e x bs

pub bodies_start : (bs : List ℕ) → bodies_bad bs ≡ not (bodies_on bs 0 (contents_end (tunes bs)))
unfolding bodies_bad bodies_on
bodies_start bs = rw sub-zero

pub bodies_next : (bs : List ℕ) (e x : ℕ) → e < tunes bs
    → bodies_on bs e x ≡ (leb 1 (cards bs e) && eqb (offset bs e) x) && bodies_on bs (e + 1) (x + 12 * cards bs e)
unfolding bodies_on bodies_good
bodies_next bs e x h = rw (left_next (tunes bs) e h, add-one e)

pub bodies_end : (bs : List ℕ) (e x : ℕ) → tunes bs ≤ e → bodies_on bs e x ≡ eqb x (length bs)
unfolding bodies_on bodies_good
bodies_end bs e x h = rw (left_end (tunes bs) e h)

pub ruleset bodies_loop = (bodies_start, bodies_next, bodies_end)

-- THE SEARCH. The entry is the first that bears the number, and there is none exactly if none bears it
pub entry_first : (bs : List ℕ) (t e : ℕ) → (entry_of bs t ≡ some e) ↔ First (bears bs t) 0 (tunes bs) e
unfolding entry_of
entry_first bs t e = search_first (bears bs t) (tunes bs) 0 (tunes bs) (omega arith) e

pub entry_none : (bs : List ℕ) (t : ℕ) → (entry_of bs t ≡ none) ↔ NoneIn (bears bs t) 0 (tunes bs)
unfolding entry_of
entry_none bs t = search_none (bears bs t) (tunes bs) 0 (tunes bs) (omega arith)
