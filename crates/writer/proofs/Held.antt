-- A written book is bytes, is clean, and holds the strikes that it was written from; so no two triples of lists are written to the same book.
-- With `Again`: the writer makes exactly the clean books that Open accepts, but for the empty file, each from one triple of lists.
-- Main: written_held, never_empty, no_tunes_written.
use Rattle.std.specs.Prelude.{◌≡◌, ◌≢◌, true, ◌&&◌, leb, take, drop}
use Rattle.std.proofs.Math.Path.{refl, sym, ap}
use Rattle.std.proofs.Common.{◌∙◌, take-append-drop, drop_of_length-le, drop-cons, take_all, leb-true}
use mathlib.Core.List.{List, [], ◌∷◌}
use Prim.Native.Nat.{ℕ, zero, suc, ◌+◌, ◌*◌, ◌≤◌, ◌<◌}
use native.Mathlib.Omega.{arith}
use Rattle.std.proofs.Math.ListN.{length, get_or}
use Rattle.std.proofs.Math.Seq.{drop-drop}
use Rattle.algebra.specs.Lists.{All, cons, all_append}
use Rattle.algebra.specs.Tests.{both, passed}
use Rattle.rank.specs.Definitions.{is_card}
use Rattle.coding.specs.Code.{word}
use Rattle.coding.specs.Promise.{WordsCards}
use Rattle.coding.specs.Proved.{words_cards}
use Rattle.strike.specs.declared.Strike.{Strike}
use Rattle.strike.specs.Strikes.{in_range, strike_message, no_strike, message_good}
use Rattle.strike.specs.Turns.{any_beyond, strikes, strike_numbers, numbers_strikes, length_strikes, strikes_range}
use Rattle.book.specs.Layout.{longest_book, contents_end, tune_number, two_bytes, four_bytes, entry_bytes, tune_numbers, card_counts, symbols_bytes}
use Rattle.book.specs.Open.{rising}
use Rattle.book.specs.Pull.{pulled}
use Rattle.book.specs.Reading.{cards_in}
use Rattle.book.specs.ContentsLoops.{number_at}
use Rattle.book.proofs.Accepted.{empty_tunes}
use Rattle.writer.specs.Writing.{all_cards, card_bytes, cards_bytes, entries_bytes, contents_bytes, book_bytes, book_length, any_zero, lengths_good, write_refusal}
use Rattle.writer.specs.Holding.{strikes_from, body_strikes, tunes_strikes, book_strikes, Bytes, Clean}
use Rattle.writer.specs.Layouts.{all_cards_take, all_cards_part}
use Rattle.writer.specs.Writable.{Writable}
use Rattle.writer.proofs.Writable.{writable}
use Rattle.writer.specs.Shown.{Shows}
use Rattle.writer.proofs.Shown.{written_shows}
use Rattle.writer.specs.Held.{Held}

-- BYTES of a number, the entries, the symbols, the cards
two_small : (n : ℕ) → n < 65536 → Bytes (two_bytes n)
unfolding two_bytes
two_small n h = (omega arith, (omega arith, tt))

entry_small : (n x c : ℕ) → n < 65536 → x ≤ longest_book → c < 65536 → Bytes (entry_bytes n x c)
unfolding entry_bytes four_bytes two_bytes
entry_small n x c h k l =
    (omega arith, (omega arith, (omega arith, (omega arith, (omega arith, (omega arith, (omega arith, (omega arith, tt))))))))

entries_small : (l : ℕ) (ns cs : List ℕ) (x : ℕ) → rising l ns ≡ true → x + 12 * all_cards cs ≤ longest_book → Bytes (entries_bytes ns cs x)
unfolding entries_bytes rising all_cards
entries_small l [] cs x e h = tt
entries_small l (n ∷ ns) [] x e h = tt
entries_small l (n ∷ ns) (c ∷ cs) x e h =
    let (here, rest) = both (leb l n && leb n 9999) (rising (suc n) ns) e in
    let most = leb-true n 9999 (both (leb l n) (leb n 9999) here).1 in
    all_append (λ x. x < 256) (entry_bytes n x c) (entries_bytes ns cs (x + 12 * c)) (entry_small n x c (omega arith) (omega arith) (omega arith))
    (entries_small (suc n) ns cs (x + 12 * c) rest (omega arith))

symbols_small : (w : List ℕ) → All (λ s. s < 729) w → Bytes (symbols_bytes w)
unfolding symbols_bytes
symbols_small [] a = tt
symbols_small (s ∷ w) a =
    let l = a.0 in all_append (λ x. x < 256) (two_bytes s) (symbols_bytes w) (two_small s (omega arith)) (symbols_small w a.1)

cards_small : (ss : List Strike) → All (λ s. in_range s ≡ true) ss → Bytes (cards_bytes ss)
unfolding cards_bytes card_bytes WordsCards is_card
cards_small [] a = tt
cards_small (s ∷ ss) a =
    let w = word 2 (strike_message s) in
    let c = words_cards 2 (strike_message s) (omega arith) (omega arith) (message_good s a.0) in
    all_append (λ x. x < 256) (symbols_bytes w) (cards_bytes ss) (symbols_small w (passed 6 728 w c).1) (cards_small ss a.1)

book_small : (ns cs ss : List ℕ) (r : ℕ) → Writable ns cs ss r → Bytes (book_bytes ns cs ss)
unfolding book_bytes contents_bytes book_length
book_small ns cs ss r w =
    let p = w.paired in
    let s = w.size in
    let x = contents_end (length ns) in
    let entries = entries_small 1 ns cs x w.rise (omega arith) in
    all_append (λ x. x < 256) (contents_bytes ns cs) (cards_bytes (strikes ss))
    (all_append (λ x. x < 256) (two_bytes (length ns)) (entries_bytes ns cs x) (two_small (length ns) (omega arith)) entries)
    (cards_small (strikes ss) (strikes_range ss w.strikes_in))

-- A BOOK THAT SHOWS LISTS
module _ (ns cs ss bs : List ℕ) (s : Shows ns cs ss bs) where
  number_is : (e : ℕ) → e < length ns → tune_number bs e ≡ get_or ns e 0
  unfolding tune_numbers
  number_is e h =
      let t = s.tunes_are in
      sym (number_at bs e (omega arith)) ∙ ap (λ (l : List ℕ). get_or l e 0) s.numbers_are

  -- is clean
  shown_clean : Clean bs
  unfolding Clean
  shown_clean e zero h low high = absurd (omega arith)
  shown_clean e (suc j) h low high =
      let t = s.tunes_are in
      let g : e < length ns = omega arith in
      let n = number_is e g in
      let c = s.cards_are e g in
      let k : suc j ≤ cards_in (pulled bs (get_or ns e 0)) = rw n at high in
      rw (n, s.strikes_are e j g (omega arith)) (refl, refl)

  -- and holds their strikes: those of `k` cards of tune e from card j + 1 on, and those of `k` tunes from tune e on
  module _ (paired : length cs ≡ length ns) (numbers : length ss ≡ 3 * all_cards cs) where
    body_held : (e k j : ℕ) → e < length ns → j + k ≡ get_or cs e 0
        → strikes_from k (suc j) (pulled bs (get_or ns e 0)) ≡ take k (drop (all_cards (take e cs) + j) (strikes ss))
    unfolding strikes_from
    body_held e zero j h l = refl
    body_held e (suc k) j h l =
        let p = all_cards (take e cs) + j in
        let z : all_cards (take e cs) + suc j ≡ suc p = omega arith in
        let n = length_strikes (all_cards cs) ss numbers in
        let t = all_cards_part cs e (omega arith) in
        rw (drop-cons (strikes ss) p no_strike (omega arith))
        (cons (rw (s.strikes_are e j h (omega arith))) (rw z at (body_held e k (suc j) h (omega arith))))

    tunes_held : (k e : ℕ) → e + k ≡ length ns → tunes_strikes k e bs ≡ drop (all_cards (take e cs)) (strikes ss)
    unfolding tunes_strikes body_strikes
    tunes_held zero e h =
        let n = length_strikes (all_cards cs) ss numbers in
        rw (take_all e cs (omega arith)) (sym (drop_of_length-le (strikes ss) {i = all_cards cs} (omega arith)))
    tunes_held (suc k) e h =
        let g : e < length ns = omega arith in
        let p = all_cards (take e cs) in
        let c = get_or cs e 0 in
        let z : p + 0 ≡ p = omega arith in
        rw (
          number_is e g,
          s.cards_are e g,
          body_held e c 0 g (omega arith),
          tunes_held k (suc e) (omega arith),
          all_cards_take cs e (omega arith),
          z,
          ← drop-drop c p (strikes ss),
        )
        (take-append-drop c (drop p (strikes ss)))

    book_held : strike_numbers (book_strikes bs) ≡ ss
    unfolding book_strikes all_cards
    book_held = rw (s.tunes_are, tunes_held (length ns) 0 (omega arith)) (numbers_strikes (all_cards cs) ss numbers)

-- WHAT IS WRITTEN IS HELD
pub written_held : (ns cs ss : List ℕ) (room : ℕ) → write_refusal ns cs ss room ≡ 0 → Held ss (book_bytes ns cs ss)
written_held ns cs ss r e =
    let w = writable ns cs ss r e in
    let s = written_shows ns cs ss r e in
    record {
      bytes = book_small ns cs ss r w;
      clean = shown_clean ns cs ss (book_bytes ns cs ss) s;
      strikes_held = book_held ns cs ss (book_bytes ns cs ss) s w.paired w.numbers;
    }

-- ONE TRIPLE OF LISTS for a book
pub written_once : (ns cs ss ms ds ts : List ℕ) (r q : ℕ) → write_refusal ns cs ss r ≡ 0 → write_refusal ms ds ts q ≡ 0
    → book_bytes ns cs ss ≡ book_bytes ms ds ts → (ns ≡ ms) × (cs ≡ ds) × (ss ≡ ts)
written_once ns cs ss ms ds ts r q e f b =
    let s = written_shows ns cs ss r e in
    let t = written_shows ms ds ts q f in
    let h = written_held ns cs ss r e in
    let i = written_held ms ds ts q f in (
      sym s.numbers_are ∙ ap tune_numbers b ∙ t.numbers_are,
      sym s.counts_are ∙ ap card_counts b ∙ t.counts_are,
      sym h.strikes_held ∙ ap (λ (l : List ℕ). strike_numbers (book_strikes l)) b ∙ i.strikes_held,
    )

-- THE EMPTY FILE is clean, but never written: a book begins with its count of tunes, and of no tunes that is all of it
pub empty_clean : Clean []
unfolding Clean
empty_clean e n h low high = absurd (omega (arith, empty_tunes [] refl, h))

pub never_empty : (ns cs ss : List ℕ) → book_bytes ns cs ss ≢ []
unfolding book_bytes contents_bytes two_bytes
never_empty ns cs ss e = let z : ◌≡◌ {A = ℕ} (length (book_bytes ns cs ss)) 0 = ap length e in omega arith

pub no_tunes_written : (write_refusal [] [] [] 2 ≡ 0) × (book_bytes [] [] [] ≡ 0 ∷ 0 ∷ [])
unfolding write_refusal any_beyond rising any_zero lengths_good book_length all_cards book_bytes contents_bytes entries_bytes cards_bytes strikes two_bytes
no_tunes_written = (refl, refl)
