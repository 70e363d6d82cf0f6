-- A clean book that Open accepts is the book that is written from its own tune numbers, counts and strikes, and the writer does not refuse
-- these; but for the empty file, which the writer never makes (`never_empty` of `Held`).
-- Main: written_again.
use Rattle.std.specs.Prelude.{◌≡◌, true, ◌≢◌, take}
use Rattle.std.proofs.Math.Path.{refl, sym, ap}
use Rattle.std.proofs.Common.{◌∙◌, length-drop, take-append-drop, take_all}
use mathlib.Core.List.{List, [], ◌∷◌, ◌++◌, append_assoc}
use Prim.Native.Nat.{ℕ, zero, suc, ◌+◌, ◌*◌, ◌-◌, ◌≤◌, ◌<◌}
use Rattle.std.proofs.Math.Numerals.{add-one}
use native.Mathlib.Omega.{arith}
use Rattle.std.proofs.Math.ListN.{length, get_or, drop}
use Rattle.std.proofs.Math.Seq.{drop-drop, drop-length}
use borrow.Author.Tests.{not-false}
use Rattle.algebra.specs.Lists.{All, all_take, all_drop, all_append, all_each}
use Rattle.strike.specs.Strikes.{in_range, parts_range}
use Rattle.strike.specs.Turns.{strike_numbers, strikes_numbers, length_numbers, range_numbers}
use Rattle.book.specs.Layout.{tunes, contents_end, tune_number, offset, cards, two_bytes, entry_bytes, tune_numbers, card_counts, part_of}
use Rattle.book.specs.Open.{rising, numbers_bad, open_refusal}
use Rattle.book.specs.Pull.{pulled}
use Rattle.book.specs.Reading.{cards_in}
use Rattle.book.specs.ContentsLoops.{numbers_count, counts_count, number_at, count_at}
use Rattle.book.specs.Accepted.{Accepted, body_start}
use Rattle.book.proofs.Accepted.{open_passed, size_within, book_within, entries_within, offset_is, cards_some, bodies_fill, part_length}
use Rattle.book.proofs.Pulled.{pulls_each}
use Rattle.book.specs.Bounds.{reading_bounded}
use Rattle.writer.specs.Writing.{all_cards, cards_bytes, entries_bytes, contents_bytes, book_bytes, book_length}
use Rattle.writer.specs.Holding.{strikes_from, body_strikes, tunes_strikes, book_strikes, Bytes, Clean}
use Rattle.writer.specs.Layouts.{length_cards, all_cards_take, entries_at, entries_end, cards_append, two_written, entry_written}
use Rattle.writer.specs.Writable.{Writable}
use Rattle.writer.proofs.Writable.{unrefused, some_counts}
use Rattle.writer.specs.CleanCards.{clean_body}
use Rattle.writer.specs.Again.{Again}

-- STRIKES that are read are in range
body_range : (k n : ℕ) (b : List ℕ) → All (λ s. in_range s ≡ true) (strikes_from k n b)
unfolding strikes_from
body_range zero n b = tt
body_range (suc k) n b = let r = reading_bounded b n in (parts_range _ r.bell r.force r.delay, body_range k (suc n) b)

book_range : (k e : ℕ) (bs : List ℕ) → All (λ s. in_range s ≡ true) (tunes_strikes k e bs)
unfolding tunes_strikes body_strikes
book_range zero e bs = tt
book_range (suc k) e bs =
    let b = pulled bs (tune_number bs e) in
    all_append (λ s. in_range s ≡ true) (strikes_from (cards_in b) 1 b) (tunes_strikes k (suc e) bs)
    (body_range (cards_in b) 1 b)
    (book_range k (suc e) bs)

module _ (bs : List ℕ) (a : Accepted bs) (some : 1 ≤ length bs) where
  abbrev ns : List ℕ
  ns = tune_numbers bs

  abbrev cs : List ℕ
  cs = card_counts bs

  -- where bodies begin, by the counts before them
  start_is : (e : ℕ) → e ≤ tunes bs → body_start bs e ≡ contents_end (tunes bs) + 12 * all_cards (take e cs)
  unfolding body_start all_cards
  start_is zero h = omega arith
  start_is (suc e) h =
      let l = counts_count bs in
      omega (arith, start_is e (omega arith), count_at bs e h, all_cards_take cs e (omega arith))

  book_is : length bs ≡ contents_end (tunes bs) + 12 * all_cards cs
  book_is = sym (bodies_fill bs a some) ∙ (rw (take_all (tunes bs) cs (omega (arith, counts_count bs))) at (start_is (tunes bs) (omega arith)))

  module _ (bytes : Bytes bs) where
    -- THE CONTENTS: entry e and those after it
    entries_again : (k e : ℕ) → e + k ≡ tunes bs
        → entries_bytes (drop e ns) (drop e cs) (body_start bs e) ++ drop (contents_end (tunes bs)) bs ≡ drop (contents_end e) bs
    unfolding body_start
    entries_again zero e h =
        let z : e ≡ tunes bs = omega arith in
        rw (entries_end ns cs e (body_start bs e) (omega (arith, numbers_count bs)), z)
    entries_again (suc k) e h =
        let g : e < tunes bs = omega arith in
        let x = body_start bs e in
        let entry = entry_bytes (tune_number bs e) x (cards bs e) in
        rw (
          entries_at ns cs e x (omega (arith, numbers_count bs)) (omega (arith, counts_count bs)),
          number_at bs e g,
          count_at bs e g,
          append_assoc entry (entries_bytes (drop (e + 1) ns) (drop (e + 1) cs) (x + 12 * cards bs e)) (drop (contents_end (tunes bs)) bs),
          add-one e,
        )
        (ap (λ (t : List ℕ). entry ++ t) (entries_again k (suc e) (omega arith))
        ∙ ap (λ (y : ℕ). entry_bytes (tune_number bs e) y (cards bs e) ++ drop (contents_end (suc e)) bs) (sym (offset_is bs a e g))
        ∙ sym (entry_written bs bytes e (omega (arith, entries_within bs a e g))))

    contents_again : contents_bytes ns cs ++ drop (contents_end (tunes bs)) bs ≡ bs
    unfolding contents_bytes body_start
    contents_again =
        rw (numbers_count bs, append_assoc (two_bytes (tunes bs)) (entries_bytes ns cs (contents_end (tunes bs))) (drop (contents_end (tunes bs)) bs))
        (ap (λ (t : List ℕ). two_bytes (tunes bs) ++ t) (entries_again (tunes bs) 0 (omega arith))
        ∙ sym (two_written bs bytes 0 2 refl (size_within bs (open_passed bs a some).size).1))

    module _ (clean : Clean bs) where
      -- THE BODIES: the body of entry e, and those after it
      body_again : (e : ℕ) → e < tunes bs → cards_bytes (body_strikes (pulled bs (tune_number bs e))) ≡ part_of bs e
      unfolding Clean part_of
      body_again e h =
          let b = pulled bs (tune_number bs e) in
          let is = (pulls_each bs a e h).1 in
          let l : length b ≡ 12 * cards bs e = rw is (part_length bs a e h) in
          let small : Bytes b = rw is (all_take (λ x. x < 256) (12 * cards bs e) (drop (offset bs e) bs) (all_drop (λ x. x < 256) (offset bs e) bs bytes)) in
          clean_body b small (λ n p q. clean e n h p q) (omega arith) ∙ is

      bodies_again : (k e : ℕ) → e + k ≡ tunes bs → cards_bytes (tunes_strikes k e bs) ≡ drop (body_start bs e) bs
      unfolding tunes_strikes cards_bytes part_of body_start
      bodies_again zero e h = let z : e ≡ tunes bs = omega arith in rw (z, bodies_fill bs a some) (sym (drop-length bs))
      bodies_again (suc k) e h =
          let g : e < tunes bs = omega arith in
          rw (
            cards_append (body_strikes (pulled bs (tune_number bs e))) (tunes_strikes k (suc e) bs),
            body_again e g,
            bodies_again k (suc e) (omega arith),
            offset_is bs a e g,
            ← drop-drop (12 * cards bs e) (body_start bs e) bs,
          )
          (take-append-drop (12 * cards bs e) (drop (body_start bs e) bs))

      all_again : cards_bytes (book_strikes bs) ≡ drop (contents_end (tunes bs)) bs
      unfolding book_strikes body_start
      all_again = bodies_again (tunes bs) 0 (omega arith)

      -- THE SAME BYTES
      same_bytes : book_bytes ns cs (strike_numbers (book_strikes bs)) ≡ bs
      unfolding book_bytes
      same_bytes = rw (strikes_numbers (book_strikes bs), all_again) contents_again

      -- AND NOTHING REFUSED
      strikes_length : length (book_strikes bs) ≡ all_cards cs
      strikes_length =
          let l : length (drop (contents_end (tunes bs)) bs) ≡ length bs - contents_end (tunes bs) = length-drop (contents_end (tunes bs)) bs in
          omega (arith, book_is, length_cards (book_strikes bs), ap (λ (t : List ℕ). length t) all_again)

      writable_again : Writable ns cs (strike_numbers (book_strikes bs)) (length bs)
      unfolding book_length book_strikes numbers_bad
      writable_again =
          let l = counts_count bs in
          let counts : (e : ℕ) → e < length cs → 1 ≤ get_or cs e 0 = λ e h. rw (count_at bs e (omega arith)) (cards_some bs a e (omega arith)) in
          record {
            strikes_in = range_numbers (book_strikes bs) (book_range (tunes bs) 0 bs);
            paired = l ∙ sym (numbers_count bs);
            size = omega (arith, book_is, book_within bs a);
            rise = not-false (rising 1 ns) (open_passed bs a some).numbers;
            counted = some_counts cs (all_each (λ c. 1 ≤ c) 0 cs counts);
            numbers = length_numbers (book_strikes bs) ∙ omega (arith, strikes_length);
            fits = omega (arith, book_is);
          }

-- WHAT IS CLEAN IS WRITTEN AGAIN
pub written_again : (bs : List ℕ) → open_refusal bs ≡ 0 → Bytes bs → Clean bs → bs ≢ [] → Again bs
written_again [] a b c n = absurd (n refl)
written_again (x ∷ bs) a b c n =
    let l : 1 ≤ length (x ∷ bs) = omega arith in
    record { taken = unrefused _ _ _ _ (writable_again (x ∷ bs) a l b c); same = same_bytes (x ∷ bs) a l b c }
