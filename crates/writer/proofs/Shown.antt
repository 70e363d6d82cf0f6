-- A book that is written from lists which are not refused shows them: Open accepts it, its entries have the tune numbers and counts given, and
-- Pull and Read give back each strike in its place, with damage 0.
-- Main: written_shows.
use Rattle.std.specs.Prelude.{◌≡◌, true, false, take, drop}
use Rattle.std.proofs.Math.Path.{refl, ap}
use Rattle.std.proofs.Common.{sym, ◌∙◌, length-drop, get_or-take, get_or-drop, length-take-le, take_all}
use mathlib.Core.List.{List, ◌++◌, append_assoc}
use Prim.Native.Nat.{ℕ, zero, suc, ◌+◌, ◌*◌, ◌-◌, ◌≤◌, ◌<◌}
use native.Mathlib.Omega.{arith}
use Rattle.std.proofs.Math.ListN.{length, get_or}
use Rattle.std.proofs.Math.Seq.{drop-cons, drop-append-le}
use borrow.Author.Tests.{le-ltb, le-leb, eq-eqb}
use Rattle.algebra.specs.Lists.{all_at, table_same, table_at}
use Rattle.coding.specs.Code.{word}
use Rattle.strike.specs.declared.Strike.{Strike}
use Rattle.strike.specs.Strikes.{in_range, strike_message, no_strike, strike_back, message_good, range_bell}
use Rattle.strike.specs.Turns.{strikes, length_strikes, strikes_range}
use Rattle.book.specs.Layout.{longest_book, tunes, contents_end, tune_number, offset, cards, two_bytes, entry_bytes, tune_numbers, card_counts, part_of, body_good, card}
use Rattle.book.specs.Open.{size_bad, bodies_good, numbers_bad, bodies_bad, contents_refusal, open_refusal}
use Rattle.book.specs.Pull.{pull_refusal, pulled}
use Rattle.book.specs.Reading.{reading}
use Rattle.book.proofs.Accepted.{some_tested}
use Rattle.book.proofs.Pulled.{pulls_each, pulled_good}
use Rattle.book.specs.ReadBack.{word_read}
use Rattle.writer.specs.Writing.{all_cards, cards_bytes, entries_bytes, contents_bytes, book_bytes, book_length, write_refusal}
use Rattle.writer.specs.Layouts.{length_entries, length_cards, length_contents, length_book, all_cards_take, all_cards_part, drop_past, entries_at, entries_drop, cards_drop, cards_take, two_read, entry_read, card_read}
use Rattle.writer.specs.Writable.{Writable}
use Rattle.writer.proofs.Writable.{writable, counts_some}
use Rattle.writer.specs.Shown.{undamaged, Shows}

-- CARDS of strikes in a body: each is read as its strike
module _ (ts : List Strike) (j : ℕ) (h : j < length ts) where
  card_is : card (cards_bytes ts) (suc j) ≡ word 2 (strike_message (get_or ts j no_strike))
  unfolding card cards_bytes
  card_is =
      let z : suc j - 1 ≡ j = omega arith in
      rw (z, cards_drop j ts, drop-cons ts j no_strike h) (card_read (get_or ts j no_strike) (cards_bytes (drop (suc j) ts)))

  strike_read : body_good (cards_bytes ts) ≡ true → in_range (get_or ts j no_strike) ≡ true
      → reading (cards_bytes ts) (suc j) ≡ undamaged (get_or ts j no_strike)
  strike_read g r =
      let s = get_or ts j no_strike in
      let l = length_cards ts in
      let b = strike_back s r in
      word_read (cards_bytes ts) (suc j) g (omega arith) (omega arith) (strike_message s) (message_good s r) card_is (rw b (range_bell s r))
      ∙ ap undamaged b

-- THE STRIKES of tune e, among those of all tunes
abbrev tune_strikes : (cs ss : List ℕ) → (e : ℕ) → List Strike
tune_strikes cs ss e = take (get_or cs e 0) (drop (all_cards (take e cs)) (strikes ss))

module _ (ns cs ss : List ℕ) (r : ℕ) (w : Writable ns cs ss r) where
  abbrev bs : List ℕ
  bs = book_bytes ns cs ss

  -- where the body of tune e begins
  abbrev start : (e : ℕ) → ℕ
  start e = contents_end (length ns) + 12 * all_cards (take e cs)

  -- THE CONTENTS: how many entries, and the bytes and fields of each
  tunes_is : tunes bs ≡ length ns
  unfolding book_bytes contents_bytes two_bytes
  tunes_is = two_read (length ns) (entries_bytes ns cs (contents_end (length ns)) ++ cards_bytes (strikes ss))

  abbrev after : (e : ℕ) → List ℕ
  after e = entries_bytes (drop (e + 1) ns) (drop (e + 1) cs) (start e + 12 * get_or cs e 0) ++ cards_bytes (strikes ss)

  entry_stands : (e : ℕ) → e < length ns → drop (contents_end e) bs ≡ entry_bytes (get_or ns e 0) (start e) (get_or cs e 0) ++ after e
  unfolding book_bytes contents_bytes two_bytes
  entry_stands e h =
      let p = w.paired in
      let x = contents_end (length ns) in
      let bodies = cards_bytes (strikes ss) in
      let l = length_entries ns cs x p in
      drop_past 2 (8 * e) (two_bytes (length ns)) (entries_bytes ns cs x ++ bodies) refl
      ∙ drop-append-le (8 * e) (entries_bytes ns cs x) bodies (omega arith)
      ∙ ap (λ (t : List ℕ). t ++ bodies) (entries_drop e ns cs x p (omega arith) ∙ entries_at ns cs e (start e) h (omega arith))
      ∙ append_assoc (entry_bytes (get_or ns e 0) (start e) (get_or cs e 0)) _ bodies

  entry_is : (e : ℕ) → e < length ns → (tune_number bs e ≡ get_or ns e 0) × (offset bs e ≡ start e) × (cards bs e ≡ get_or cs e 0)
  entry_is e h = entry_read bs (after e) e (get_or ns e 0) (start e) (get_or cs e 0) (entry_stands e h)

  numbers_back : tune_numbers bs ≡ ns
  unfolding tune_numbers
  numbers_back = rw tunes_is (table_same (length ns) _ _ (λ e h. (entry_is e h).0) ∙ table_at ns)

  counts_back : card_counts bs ≡ cs
  unfolding card_counts
  counts_back =
      let p = w.paired in
      rw (tunes_is, ← p) (table_same (length cs) _ _ (λ e h. (entry_is e (omega arith)).2) ∙ table_at cs)

  -- OPEN accepts it
  book_is : length bs ≡ contents_end (length ns) + 12 * all_cards cs
  unfolding book_length
  book_is = let p = w.paired in rw (← p) (length_book ns cs p ss w.numbers)

  size_good : size_bad bs ≡ false
  unfolding size_bad book_length
  size_good =
      let n = length bs in
      let l = book_is in
      let most : n ≤ longest_book = omega (arith, w.paired, w.size) in
      rw (tunes_is, le-ltb longest_book n most, le-ltb n 2 (omega arith), le-ltb n (contents_end (length ns)) (omega arith))

  bodies_pass : (k e : ℕ) → e + k ≡ length ns → bodies_good k e (start e) bs ≡ true
  unfolding bodies_good
  bodies_pass zero e h =
      let p = w.paired in
      rw (take_all e cs (omega arith)) (eq-eqb _ (length bs) (sym book_is))
  bodies_pass (suc k) e h =
      let p = w.paired in
      let (n, o, c) = entry_is e (omega arith) in
      let s = all_at (λ c. 1 ≤ c) 0 cs (counts_some cs w.counted) e (omega arith) in
      let z : start e + 12 * get_or cs e 0 ≡ start (suc e) = omega (arith, all_cards_take cs e (omega arith)) in
      rw (c, le-leb 1 (get_or cs e 0) s, eq-eqb (offset bs e) (start e) o, z) (bodies_pass k (suc e) (omega arith))

  opens : open_refusal bs ≡ 0
  unfolding contents_refusal numbers_bad bodies_bad all_cards
  opens =
      let z : start 0 ≡ contents_end (length ns) = omega arith in
      rw (some_tested bs (omega (arith, book_is)), size_good, numbers_back, w.rise, tunes_is, rw z at (bodies_pass (length ns) 0 (omega arith)))

  -- PULL gives back the cards of the tune's strikes
  part_is : (e : ℕ) → e < length ns → part_of bs e ≡ cards_bytes (tune_strikes cs ss e)
  unfolding part_of book_bytes
  part_is e h =
      let p = all_cards (take e cs) in
      let (n, o, c) = entry_is e h in
      let x = contents_end (length ns) in
      let skip = drop_past x (12 * p) (contents_bytes ns cs) (cards_bytes (strikes ss)) (length_contents ns cs w.paired) in
      rw (c, o) (ap (take (12 * get_or cs e 0)) (skip ∙ cards_drop p (strikes ss)) ∙ cards_take (get_or cs e 0) (drop p (strikes ss)))

  pulls : (e : ℕ) → e < length ns → (pull_refusal bs (get_or ns e 0) ≡ 0) × (pulled bs (get_or ns e 0) ≡ cards_bytes (tune_strikes cs ss e))
  pulls e h =
      let (f, b) = rw (entry_is e h).0 at (pulls_each bs opens e (rw tunes_is h)) in
      (f, b ∙ part_is e h)

  pulled_strikes : (e : ℕ) → e < length ns → pulled bs (get_or ns e 0) ≡ cards_bytes (tune_strikes cs ss e)
  pulled_strikes e h = (pulls e h).1

  -- as many as the count says
  length_tune : (e : ℕ) → e < length ns → length (tune_strikes cs ss e) ≡ get_or cs e 0
  length_tune e h =
      let l = length_strikes (all_cards cs) ss w.numbers in
      let t = all_cards_part cs e (omega (arith, w.paired)) in
      length-take-le (get_or cs e 0) (drop (all_cards (take e cs)) (strikes ss)) (rw length-drop (omega arith))

  body_passes : (e : ℕ) → e < length ns → body_good (cards_bytes (tune_strikes cs ss e)) ≡ true
  body_passes e h = rw (← pulled_strikes e h) (pulled_good bs (get_or ns e 0))

  -- READ gives back each strike
  reads : (e j : ℕ) → e < length ns → j < get_or cs e 0
      → reading (pulled bs (get_or ns e 0)) (suc j) ≡ undamaged (get_or (strikes ss) (all_cards (take e cs) + j) no_strike)
  reads e j h k =
      let c = get_or cs e 0 in
      let p = all_cards (take e cs) in
      let l = length_tune e h in
      let n = length_strikes (all_cards cs) ss w.numbers in
      let t = all_cards_part cs e (omega (arith, w.paired)) in
      let s : get_or (tune_strikes cs ss e) j no_strike ≡ get_or (strikes ss) (p + j) no_strike =
      get_or-take c (drop p (strikes ss)) j no_strike k ∙ get_or-drop p (strikes ss) j no_strike in
      let i = all_at (λ s. in_range s ≡ true) no_strike (strikes ss) (strikes_range ss w.strikes_in) (p + j) (omega arith) in
      rw (pulled_strikes e h) (strike_read (tune_strikes cs ss e) j (omega arith) (body_passes e h) (rw s i) ∙ ap undamaged s)

-- WHAT IS WRITTEN IS SHOWN
pub written_shows : (ns cs ss : List ℕ) (room : ℕ) → write_refusal ns cs ss room ≡ 0 → Shows ns cs ss (book_bytes ns cs ss)
written_shows ns cs ss r e =
    let w = writable ns cs ss r e in
    record {
      opened = opens ns cs ss r w;
      tunes_are = tunes_is ns cs ss r w;
      numbers_are = numbers_back ns cs ss r w;
      counts_are = counts_back ns cs ss r w;
      found = λ e h. (pulls ns cs ss r w e h).0;
      cards_are = λ e h.
          let l = length_tune ns cs ss r w e h in
          let n = length_cards (tune_strikes cs ss e) in
          rw (pulled_strikes ns cs ss r w e h) (omega arith);
      strikes_are = reads ns cs ss r w;
    }
