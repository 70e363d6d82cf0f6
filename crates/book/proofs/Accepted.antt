-- A book that Open accepts: it is empty and has no tunes, or its bodies lie one after another and fill the file; and its tune numbers rise.
-- Main: empty_tunes, some_bytes, parts_adjoin, parts_apart, part_within, part_length, part_some, last_ends, numbers_rise, one_entry.
use Rattle.std.specs.Prelude.{◌≡◌, refl, Bool, true, false, ◌&&◌, ◌||◌, cond, List, [], ◌∷◌, ltb, leb, eqb, drop}
use Rattle.std.proofs.Common.{sym, ◌∙◌, ap, add-one, arith}
use Rattle.std.proofs.Math.Bool.{and-eq-true_iff}
use Prim.Native.Nat.{ℕ, zero, suc, ◌+◌, ◌*◌, ◌%◌, ◌≤◌, ◌<◌}
use Rattle.std.proofs.Math.Decide.{ℕ_discrete, dec_lt}
use Rattle.std.proofs.Math.ListN.{length, length-drop}
use Rattle.std.proofs.Math.Seq.{length-take-le}
use borrow.Author.Tests.{ltb-false, leb-true, eqb-true, not-false, le-leb, eq-eqb, ne_eqb}
use Rattle.algebra.specs.Tests.{neither}
use Rattle.refusal.specs.Replies.{number}
use Rattle.refusal.specs.declared.Refusal.TheVariants.{BookSize, TuneNumber, Layout}
use Rattle.book.specs.Layout.{longest_book, big, tunes, contents_end, EntriesWithin, tune_number, offset, cards, part_of, body_good}
use Rattle.book.specs.Open.{size_bad, numbers_bad, bodies_bad, contents_refusal, is_empty, open_refusal}
use Rattle.book.specs.ContentsLoops.{numbers_on, numbers_start, numbers_next, bodies_on, bodies_start, bodies_next, bodies_end}
use Rattle.book.specs.Accepted.{Accepted, AcceptedEntry, Passed, body_start, least_number}

-- THE EMPTY FILE is accepted, and has no tunes
pub empty_accepted : (bs : List ℕ) → length bs ≡ 0 → Accepted bs
unfolding open_refusal is_empty
empty_accepted bs z = rw (eq-eqb (length bs) 0 z)

pub empty_tunes : (bs : List ℕ) → length bs ≡ 0 → tunes bs ≡ 0
unfolding big
empty_tunes [] z = refl
empty_tunes (b ∷ bs) z = absurd (omega arith)

-- ANY OTHER, as every book with a tune is: the tests decide
pub some_bytes : (bs : List ℕ) (e : ℕ) → e < tunes bs → 1 ≤ length bs
some_bytes bs e h = elim (ℕ_discrete (length bs) 0) [ yes z ↦ omega (arith, empty_tunes bs z) | no n ↦ omega arith ]

pub some_tested : (bs : List ℕ) → 1 ≤ length bs → open_refusal bs ≡ contents_refusal bs
unfolding open_refusal is_empty
some_tested bs l = rw (ne_eqb (length bs) 0 (λ z. omega arith))

pub open_passed : (bs : List ℕ) → Accepted bs → 1 ≤ length bs → Passed bs
unfolding contents_refusal
open_passed bs a l = go (size_bad bs) refl (numbers_bad bs) refl (bodies_bad bs) refl (sym (some_tested bs l) ∙ a)
  where
    go : (s : Bool) → size_bad bs ≡ s → (n : Bool) → numbers_bad bs ≡ n → (b : Bool) → bodies_bad bs ≡ b
        → cond s (number BookSize) (cond n (number TuneNumber) (cond b (number Layout) 0)) ≡ 0 → Passed bs
    go true p n q b r e = absurd (omega arith)
    go false p true q b r e = absurd (omega arith)
    go false p false q true r e = absurd (omega arith)
    go false p false q false r e = record { size = p; numbers = q; bodies = r }

-- at most 65,536 bytes, the count of tunes is there, and so is each entry
pub size_within : (bs : List ℕ) → size_bad bs ≡ false → (length bs ≤ longest_book) × (2 ≤ length bs) × EntriesWithin bs
unfolding size_bad
size_within bs e =
    let short = ltb (length bs) (contents_end (tunes bs)) in
    let f = neither (ltb longest_book (length bs)) (ltb (length bs) 2 || short) e in
    let g = neither (ltb (length bs) 2) short f.1 in
    let h = ltb-false (length bs) (contents_end (tunes bs)) g.1 in
    (ltb-false longest_book (length bs) f.0, ltb-false (length bs) 2 g.0, λ i k. omega arith)

pub book_within : (bs : List ℕ) → Accepted bs → length bs ≤ longest_book
book_within bs a =
    elim (ℕ_discrete (length bs) 0) [ yes z ↦ omega arith | no n ↦ (size_within bs (open_passed bs a (omega arith)).size).0 ]

pub entries_within : (bs : List ℕ) → Accepted bs → EntriesWithin bs
entries_within bs a e h = (size_within bs (open_passed bs a (some_bytes bs e h)).size).2 e h

pub entry_within : (bs : List ℕ) (e : ℕ) → AcceptedEntry bs e → contents_end (e + 1) ≤ length bs
entry_within bs e h = entries_within bs h.0 e h.1

-- what the tests say, one after another
pub ruleset tested = (empty_accepted, empty_tunes, some_tested, size_within)

-- bodies that pass from entry e on: entry e passes, and those after it
bodies_step : (bs : List ℕ) (e x : ℕ) → e < tunes bs → bodies_on bs e x ≡ true
    → (1 ≤ cards bs e) × (offset bs e ≡ x) × (bodies_on bs (suc e) (x + 12 * cards bs e) ≡ true)
bodies_step bs e x h g =
    let here = leb 1 (cards bs e) && eqb (offset bs e) x in
    let b = (and-eq-true_iff here (bodies_on bs (suc e) (x + 12 * cards bs e))).0 (rw (bodies_next bs e x h, add-one e) at g) in
    let p = (and-eq-true_iff (leb 1 (cards bs e)) (eqb (offset bs e) x)).0 b.0 in
    (leb-true 1 (cards bs e) p.0, eqb-true (offset bs e) x p.1, b.1)

bodies_pass : (bs : List ℕ) → Accepted bs → 1 ≤ length bs → (e : ℕ) → e ≤ tunes bs → bodies_on bs e (body_start bs e) ≡ true
unfolding body_start
bodies_pass bs a l zero h = not-false (bodies_on bs 0 (contents_end (tunes bs))) (rw bodies_start at (open_passed bs a l).bodies)
bodies_pass bs a l (suc e) h = (bodies_step bs e (body_start bs e) (omega arith) (bodies_pass bs a l e (omega arith))).2

pub start_rises : (bs : List ℕ) (e f : ℕ) → e ≤ f → body_start bs e ≤ body_start bs f
unfolding body_start
start_rises bs e zero h = let z : e ≡ 0 = omega arith in rw z (omega arith)
start_rises bs e (suc f) h =
    elim (ℕ_discrete e (suc f)) [ yes p ↦ rw p (omega arith) | no n ↦ omega (arith, start_rises bs e f (omega arith)) ]

module _ (bs : List ℕ) (a : Accepted bs) where
  -- each body begins where those before it end, and has cards
  pub offset_is : (e : ℕ) → e < tunes bs → offset bs e ≡ body_start bs e
  offset_is e h = (bodies_step bs e (body_start bs e) h (bodies_pass bs a (some_bytes bs e h) e (omega arith))).1

  pub cards_some : (e : ℕ) → e < tunes bs → 1 ≤ cards bs e
  cards_some e h = (bodies_step bs e (body_start bs e) h (bodies_pass bs a (some_bytes bs e h) e (omega arith))).0

  -- the first body begins where the contents ends
  pub first_begins : 0 < tunes bs → offset bs 0 ≡ contents_end (tunes bs)
  unfolding body_start
  first_begins h = offset_is 0 h

  -- the bodies end with the file
  pub bodies_fill : 1 ≤ length bs → body_start bs (tunes bs) ≡ length bs
  bodies_fill l =
      eqb-true (body_start bs (tunes bs)) (length bs)
      (sym (bodies_end bs (tunes bs) (body_start bs (tunes bs)) (omega arith)) ∙ bodies_pass bs a l (tunes bs) (omega arith))

  part_end : (e : ℕ) → e < tunes bs → offset bs e + 12 * cards bs e ≡ body_start bs (suc e)
  unfolding body_start
  part_end e h = rw (offset_is e h)

  -- a part ends where the next begins
  pub parts_adjoin : (e : ℕ) → suc e < tunes bs → offset bs e + 12 * cards bs e ≡ offset bs (suc e)
  parts_adjoin e h = part_end e (omega arith) ∙ sym (offset_is (suc e) h)

  -- parts do not overlap
  pub parts_apart : (e f : ℕ) → e < f → f < tunes bs → offset bs e + 12 * cards bs e ≤ offset bs f
  parts_apart e f h k = rw (part_end e (omega arith), offset_is f k) (start_rises bs (suc e) f h)

  -- the last part ends with the file
  pub last_ends : (e : ℕ) → suc e ≡ tunes bs → offset bs e + 12 * cards bs e ≡ length bs
  last_ends e h = part_end e (omega arith) ∙ ap (body_start bs) h ∙ bodies_fill (some_bytes bs e (omega arith))

  -- each part lies within the file, and is as long as twelve bytes for each of its cards, of which there is at least one
  pub part_within : (e : ℕ) → e < tunes bs → offset bs e + 12 * cards bs e ≤ length bs
  part_within e h = rw (part_end e h, ← bodies_fill (some_bytes bs e h)) (start_rises bs (suc e) (tunes bs) h)

  pub part_length : (e : ℕ) → e < tunes bs → length (part_of bs e) ≡ 12 * cards bs e
  unfolding part_of
  part_length e h =
      length-take-le (12 * cards bs e) (drop (offset bs e) bs) (rw length-drop (omega (arith, part_within e h)))

  pub part_some : (e : ℕ) → e < tunes bs → 12 ≤ length (part_of bs e)
  part_some e h = omega (arith, part_length e h, cards_some e h)

  -- so it is a body that Read takes
  pub part_good : (e : ℕ) → e < tunes bs → body_good (part_of bs e) ≡ true
  unfolding body_good body_start
  part_good e h =
      let n = length (part_of bs e) in
      let c = cards bs e in
      let k : n ≡ 12 * c = part_length e h in
      let w = part_within e h in
      let s = book_within bs a in
      let f : 10 ≤ offset bs e = rw (offset_is e h) (omega (arith, start_rises bs 0 e (omega arith))) in
      rw (le-leb n 65532 (omega arith), eq-eqb (n % 12) 0 (omega arith))

least_some : (bs : List ℕ) (e : ℕ) → 1 ≤ least_number bs e
unfolding least_number
least_some bs zero = omega arith
least_some bs (suc e) = omega arith

-- tune numbers that pass from entry e on: that of entry e passes, and those after it
numbers_step : (bs : List ℕ) (e l : ℕ) → e < tunes bs → numbers_on bs e l ≡ true
    → (l ≤ tune_number bs e) × (tune_number bs e ≤ 9999) × (numbers_on bs (suc e) (suc (tune_number bs e)) ≡ true)
numbers_step bs e l h g =
    let n = tune_number bs e in
    let b = (and-eq-true_iff (leb l n && leb n 9999) (numbers_on bs (suc e) (suc n))).0 (rw (numbers_next bs e l h, add-one e, add-one n) at g) in
    let p = (and-eq-true_iff (leb l n) (leb n 9999)).0 b.0 in
    (leb-true l n p.0, leb-true n 9999 p.1, b.1)

numbers_pass : (bs : List ℕ) → Accepted bs → 1 ≤ length bs → (e : ℕ) → e ≤ tunes bs → numbers_on bs e (least_number bs e) ≡ true
unfolding least_number
numbers_pass bs a l zero h = not-false (numbers_on bs 0 1) (rw numbers_start at (open_passed bs a l).numbers)
numbers_pass bs a l (suc e) h = (numbers_step bs e (least_number bs e) (omega arith) (numbers_pass bs a l e (omega arith))).2

module _ (bs : List ℕ) (a : Accepted bs) where
  number_least : (e : ℕ) → e < tunes bs → least_number bs e ≤ tune_number bs e
  number_least e h = (numbers_step bs e (least_number bs e) h (numbers_pass bs a (some_bytes bs e h) e (omega arith))).0

  -- tune numbers rise strictly
  pub numbers_rise : (e f : ℕ) → e < f → f < tunes bs → tune_number bs e < tune_number bs f
  unfolding least_number
  numbers_rise e zero h k = absurd (omega arith)
  numbers_rise e (suc f) h k =
      elim (ℕ_discrete e f)
      [ yes p ↦ rw p (number_least (suc f) k) | no n ↦ omega (arith, numbers_rise e f (omega arith) (omega arith), number_least (suc f) k) ]

  -- tune numbers are 1 to 9,999
  pub number_range : (e : ℕ) → e < tunes bs → (1 ≤ tune_number bs e) × (tune_number bs e ≤ 9999)
  number_range e h =
      let s = numbers_step bs e (least_number bs e) h (numbers_pass bs a (some_bytes bs e h) e (omega arith)) in
      (omega (arith, s.0, least_some bs e), s.1)

  -- at most one entry has a tune number
  pub one_entry : (e f : ℕ) → e < tunes bs → f < tunes bs → tune_number bs e ≡ tune_number bs f → e ≡ f
  one_entry e f h k p =
      elim (dec_lt e f) [
        | yes l ↦ omega (arith, numbers_rise e f l k)
        | no m ↦ elim (dec_lt f e) [ yes l ↦ omega (arith, numbers_rise f e l h) | no n ↦ omega arith ]
      ]
