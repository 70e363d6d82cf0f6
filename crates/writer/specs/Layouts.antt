-- Laws of the bytes of a book: how long its pieces are, where the entries and the cards begin, and that numbers, entries and cards are read
-- back from their bytes and written back to them.
-- Main: length_entry, length_card, length_entries, length_cards, length_contents, length_book; all_cards_take, all_cards_part; drop_past;
-- entries_at, entries_end, entries_drop, cards_drop, cards_take, cards_append; two_read, entry_read, card_read; two_written, entry_written,
-- symbols_written.
use Rattle.std.specs.Prelude.{◌≡◌, length, get_or, take, drop}
use Rattle.std.proofs.Math.Path.{refl, ap}
use Rattle.std.proofs.Common.{sym, ◌∙◌, add-one, length-drop, drop_of_length-le, drop-drop}
use mathlib.Core.List.{List, [], ◌∷◌, ◌++◌, append_assoc}
use Prim.Native.Nat.{ℕ, zero, suc, ◌+◌, ◌*◌, ◌/◌, ◌%◌, ◌≤◌, ◌<◌}
use native.Mathlib.Omega.{arith}
use Rattle.std.proofs.Math.ListN.{length-append}
use Rattle.std.proofs.Math.Seq.{drop-cons, drop-nil, take-nil, take-append-add, drop-append-add}
use Rattle.algebra.specs.Lists.{cons, all_at, all_drop}
use Rattle.coding.specs.Code.{word, word_from}
use Rattle.strike.specs.declared.Strike.{Strike}
use Rattle.strike.specs.Strikes.{strike_message}
use Rattle.strike.specs.Turns.{strikes, length_strikes}
use Rattle.book.specs.Layout.{big, big_four, two_bytes, four_bytes, contents_end, tune_number, offset, cards, entry_bytes, symbols_from, symbols_bytes}
use Rattle.book.specs.CardReading.{big_drop}
use Rattle.writer.specs.Writing.{all_cards, card_bytes, cards_bytes, entries_bytes, contents_bytes, book_bytes, book_length}
use Rattle.writer.specs.Holding.{Bytes}

-- LENGTHS
pub length_entry : (n x c : ℕ) → length (entry_bytes n x c) ≡ 8
unfolding entry_bytes two_bytes four_bytes
length_entry n x c = refl

pub length_card : (s : Strike) → length (card_bytes s) ≡ 12
unfolding card_bytes symbols_bytes two_bytes word word_from
length_card s = refl

pub length_entries : (ns cs : List ℕ) (x : ℕ) → length cs ≡ length ns → length (entries_bytes ns cs x) ≡ 8 * length ns
unfolding entries_bytes
length_entries [] cs x e = refl
length_entries (n ∷ ns) [] x e = absurd (omega arith)
length_entries (n ∷ ns) (c ∷ cs) x e =
    length-append (entry_bytes n x c) (entries_bytes ns cs (x + 12 * c))
    ∙ omega (arith, length_entry n x c, length_entries ns cs (x + 12 * c) (omega arith))

pub length_cards : (ss : List Strike) → length (cards_bytes ss) ≡ 12 * length ss
unfolding cards_bytes
length_cards [] = refl
length_cards (s ∷ ss) = length-append (card_bytes s) (cards_bytes ss) ∙ omega (arith, length_card s, length_cards ss)

module _ (ns cs : List ℕ) (paired : length cs ≡ length ns) where
  pub length_contents : length (contents_bytes ns cs) ≡ contents_end (length ns)
  unfolding contents_bytes two_bytes
  length_contents = omega (arith, length_entries ns cs (contents_end (length ns)) paired)

  pub length_book : (ss : List ℕ) → length ss ≡ 3 * all_cards cs → length (book_bytes ns cs ss) ≡ book_length cs
  unfolding book_bytes book_length
  length_book ss e =
      length-append (contents_bytes ns cs) (cards_bytes (strikes ss))
      ∙ omega (arith, paired, length_contents, length_cards (strikes ss), length_strikes (all_cards cs) ss e)

-- COUNTS: those before entry e, with its own
pub all_cards_take : (cs : List ℕ) (e : ℕ) → e < length cs → all_cards (take (suc e) cs) ≡ all_cards (take e cs) + get_or cs e 0
unfolding all_cards
all_cards_take [] e h = absurd (omega arith)
all_cards_take (c ∷ cs) zero h = omega arith
all_cards_take (c ∷ cs) (suc e) h = omega (arith, all_cards_take cs e (omega arith))

pub all_cards_part : (cs : List ℕ) (e : ℕ) → e < length cs → all_cards (take e cs) + get_or cs e 0 ≤ all_cards cs
unfolding all_cards
all_cards_part [] e h = absurd (omega arith)
all_cards_part (c ∷ cs) zero h = omega arith
all_cards_part (c ∷ cs) (suc e) h = omega (arith, all_cards_part cs e (omega arith))

-- LISTS. Past the first of two
pub drop_past : (k n : ℕ) (xs ys : List ℕ) → length xs ≡ k → drop (k + n) (xs ++ ys) ≡ drop n ys
drop_past k n xs ys e = rw (← e) (drop-append-add xs ys n)

take_past : (k n : ℕ) (xs ys : List ℕ) → length xs ≡ k → take (k + n) (xs ++ ys) ≡ xs ++ take n ys
take_past k n xs ys e = rw (← e) (take-append-add xs ys n)

-- ENTRIES: entry e and those after it, none after the last, and those from entry e on
module _ (ns cs : List ℕ) (e x : ℕ) where
  pub entries_at : e < length ns → e < length cs → entries_bytes (drop e ns) (drop e cs) x
      ≡ entry_bytes (get_or ns e 0) x (get_or cs e 0) ++ entries_bytes (drop (e + 1) ns) (drop (e + 1) cs) (x + 12 * get_or cs e 0)
  unfolding entries_bytes
  entries_at h k = rw (add-one e, drop-cons ns e 0 h, drop-cons cs e 0 k)

  pub entries_end : length ns ≤ e → entries_bytes (drop e ns) (drop e cs) x ≡ []
  unfolding entries_bytes
  entries_end h = rw (drop_of_length-le ns h)

pub entries_drop : (e : ℕ) (ns cs : List ℕ) (x : ℕ) → length cs ≡ length ns → e ≤ length ns
    → drop (8 * e) (entries_bytes ns cs x) ≡ entries_bytes (drop e ns) (drop e cs) (x + 12 * all_cards (take e cs))
unfolding entries_bytes all_cards
entries_drop zero ns cs x p h = let z : x + 12 * 0 ≡ x = omega arith in rw z
entries_drop (suc e) [] cs x p h = absurd (omega arith)
entries_drop (suc e) (n ∷ ns) [] x p h = absurd (omega arith)
entries_drop (suc e) (n ∷ ns) (c ∷ cs) x p h =
    let y : 8 * suc e ≡ 8 + 8 * e = omega arith in
    let z : x + 12 * (c + all_cards (take e cs)) ≡ x + 12 * c + 12 * all_cards (take e cs) = omega arith in
    rw (y, z)
    (drop_past 8 (8 * e) (entry_bytes n x c) (entries_bytes ns cs (x + 12 * c)) (length_entry n x c)
    ∙ entries_drop e ns cs (x + 12 * c) (omega arith) (omega arith))

-- CARDS: those from card n on, the first n, and those of two lists
twelve_more : (n : ℕ) → 12 * suc n ≡ 12 + 12 * n
twelve_more n = omega arith

pub cards_drop : (n : ℕ) (ss : List Strike) → drop (12 * n) (cards_bytes ss) ≡ cards_bytes (drop n ss)
unfolding cards_bytes
cards_drop zero ss = refl
cards_drop (suc n) [] = drop-nil (12 * suc n)
cards_drop (suc n) (s ∷ ss) =
    rw (twelve_more n) (drop_past 12 (12 * n) (card_bytes s) (cards_bytes ss) (length_card s) ∙ cards_drop n ss)

pub cards_take : (n : ℕ) (ss : List Strike) → take (12 * n) (cards_bytes ss) ≡ cards_bytes (take n ss)
unfolding cards_bytes
cards_take zero ss = refl
cards_take (suc n) [] = take-nil (12 * suc n)
cards_take (suc n) (s ∷ ss) =
    rw (twelve_more n)
    (take_past 12 (12 * n) (card_bytes s) (cards_bytes ss) (length_card s) ∙ ap (λ (t : List ℕ). card_bytes s ++ t) (cards_take n ss))

pub cards_append : (ss ts : List Strike) → cards_bytes (ss ++ ts) ≡ cards_bytes ss ++ cards_bytes ts
unfolding cards_bytes
cards_append [] ts = refl
cards_append (s ∷ ss) ts =
    ap (λ (t : List ℕ). card_bytes s ++ t) (cards_append ss ts) ∙ sym (append_assoc (card_bytes s) (cards_bytes ss) (cards_bytes ts))

-- READ BACK: a number, an entry, symbols, a card, from where their bytes stand
module _ (l r : List ℕ) (i : ℕ) (stands : drop i l ≡ r) where
  big_there : (j k : ℕ) → i + j ≡ k → big l k ≡ big r j
  big_there j k e = rw (← stands, ← e) (sym (big_drop i l j))

  four_there : (j k : ℕ) → i + j ≡ k → big_four l k ≡ big_four r j
  unfolding big_four
  four_there j k e = rw (big_there j k e, big_there (j + 2) (k + 2) (omega arith))

pub two_read : (n : ℕ) (r : List ℕ) → big (two_bytes n ++ r) 0 ≡ n
unfolding big two_bytes
two_read n r = omega arith

pub entry_read : (bs r : List ℕ) (e n x c : ℕ) → drop (contents_end e) bs ≡ entry_bytes n x c ++ r
    → (tune_number bs e ≡ n) × (offset bs e ≡ x) × (cards bs e ≡ c)
unfolding entry_bytes two_bytes four_bytes big big_four
entry_read bs r e n x c h = (
  big_there bs _ (contents_end e) h 0 (2 + 8 * e) (omega arith) ∙ omega arith,
  four_there bs _ (contents_end e) h 2 (4 + 8 * e) (omega arith) ∙ omega arith,
  big_there bs _ (contents_end e) h 6 (8 + 8 * e) (omega arith) ∙ omega arith,
)

symbols_read : (w r : List ℕ) → symbols_from (length w) (symbols_bytes w ++ r) ≡ w
unfolding symbols_from symbols_bytes two_bytes
symbols_read [] r = refl
symbols_read (s ∷ w) r = cons (two_read s (symbols_bytes w ++ r)) (symbols_read w r)

pub card_read : (s : Strike) (r : List ℕ) → symbols_from 6 (card_bytes s ++ r) ≡ word 2 (strike_message s)
unfolding card_bytes word word_from
card_read s r = symbols_read (word 2 (strike_message s)) r

-- WRITTEN BACK: where there are bytes, they are those of the number, the entry and the symbols that are read of them
module _ (l : List ℕ) (bytes : Bytes l) where
  big_small : (i : ℕ) → i + 2 ≤ length l → big l i < 65536
  unfolding big
  big_small i h =
      let x = all_at (λ x. x < 256) 0 l bytes i (omega arith) in
      let y = all_at (λ x. x < 256) 0 l bytes (suc i) (omega arith) in
      omega arith

  pub two_written : (i j : ℕ) → i + 2 ≡ j → j ≤ length l → drop i l ≡ two_bytes (big l i) ++ drop j l
  unfolding two_bytes big
  two_written i j e h =
      let x = all_at (λ x. x < 256) 0 l bytes i (omega arith) in
      let y = all_at (λ x. x < 256) 0 l bytes (suc i) (omega arith) in
      let z : j ≡ suc (suc i) = omega arith in
      rw z (drop-cons l i 0 (omega arith) ∙ cons (omega arith) (drop-cons l (suc i) 0 (omega arith) ∙ cons (omega arith) refl))

  four_written : (i j : ℕ) → i + 4 ≡ j → j ≤ length l → drop i l ≡ four_bytes (big_four l i) ++ drop j l
  unfolding four_bytes big_four
  four_written i j e h =
      let v = big_small (i + 2) (omega arith) in
      let p : (65536 * big l i + big l (i + 2)) / 65536 ≡ big l i = omega arith in
      let q : (65536 * big l i + big l (i + 2)) % 65536 ≡ big l (i + 2) = omega arith in
      rw (p, q, append_assoc (two_bytes (big l i)) (two_bytes (big l (i + 2))) (drop j l))
      (two_written i (i + 2) refl (omega arith) ∙ ap (λ (t : List ℕ). two_bytes (big l i) ++ t) (two_written (i + 2) j (omega arith) h))

  pub entry_written : (e : ℕ) → contents_end (suc e) ≤ length l
      → drop (contents_end e) l ≡ entry_bytes (tune_number l e) (offset l e) (cards l e) ++ drop (contents_end (suc e)) l
  unfolding entry_bytes two_bytes four_bytes
  entry_written e h =
      two_written (2 + 8 * e) (4 + 8 * e) (omega arith) (omega arith)
      ∙ ap (λ (t : List ℕ). two_bytes (tune_number l e) ++ t) (four_written (4 + 8 * e) (8 + 8 * e) (omega arith) (omega arith)
      ∙ ap (λ (t : List ℕ). four_bytes (offset l e) ++ t) (two_written (8 + 8 * e) (contents_end (suc e)) (omega arith) h))

pub symbols_written : (k : ℕ) (l : List ℕ) → Bytes l → 2 * k ≤ length l → symbols_bytes (symbols_from k l) ++ drop (2 * k) l ≡ l
unfolding symbols_bytes symbols_from
symbols_written zero l b h = refl
symbols_written (suc k) l b h =
    let z : 2 * suc k ≡ 2 + 2 * k = omega arith in
    let s = symbols_bytes (symbols_from k (drop 2 l)) in
    rw (z, ← drop-drop (2 * k) 2 l, append_assoc (two_bytes (big l 0)) s (drop (2 * k) (drop 2 l)))
    (ap (λ (t : List ℕ). two_bytes (big l 0) ++ t) (symbols_written k (drop 2 l) (all_drop (λ x. x < 256) 2 l b) (rw length-drop (omega arith)))
    ∙ sym (two_written l b 0 2 refl (omega arith)))
