-- A book pressed from lists: how long a book is lent to the writer, and what comes of it.
-- Main: BothWrote, lists_book, lists_line, ListsWrote; room_for, room_within; refused_within; part_within, part_length, lists_number, lists_done,
-- lists_refused.
use Rattle.std.specs.Prelude.{◌≡◌, refl, Bool, true, false, cond, not, List, [], ◌++◌, ℕ, ◌+◌, ◌≤◌, ◌<◌, ltb, eqb, drop, Result, Ok, Err}
use Rattle.std.specs.Result.{result_unwrap_or}
use Rattle.std.proofs.Math.Path.{sym}
use Rattle.std.proofs.Common.{ap, ◌∙◌, length-take-le, ltb-false}
use native.Mathlib.Omega.{arith}
use Rattle.std.proofs.Math.ListN.{length, take, take-append-drop}
use Rattle.refusal.specs.declared.Refusal.{Refusal}
use Rattle.refusal.specs.declared.Refusal.TheVariants.{Length, BookSize, TuneNumber, Layout, StrikeField}
use Rattle.refusal.specs.Replies.{number, Reply, reply, reply_with, outcome, unless, refused_number, no_refusal}
use Rattle.book.specs.Layout.{longest_book}
use Rattle.book.specs.Open.{rising}
use Rattle.strike.specs.Turns.{strikes_bad}
use Rattle.text.specs.Text.{book_refused, written}
use Rattle.text.specs.Decimal.{two_digits, spaced_length, book_refused_length}
use Rattle.text.specs.Writing.{Wrote}
use Rattle.text.proofs.WritingLaws.{wrote_none}
use Rattle.writer.specs.Writing.{book_bytes, book_length, size_refusal, any_zero, lengths_good, write_refusal, Written}
use Rattle.writer.proofs.Filled.{whole_fits}
use Rattle.tune_text.specs.MistakeLines.{longest_line}
use Rattle.pressing.specs.declared.from_lists.Lengths.{Lengths}
use Rattle.pressing.specs.Pressing.{lists_refusal, refusal_line}

-- BOOK AND LINE were written, each from the start of its list, and these are their lengths
pub record BothWrote (bytes said b l : List ℕ) (z : Lengths) (b-now l-now : List ℕ) : Type 0 where
  pub book : Wrote b 0 bytes b-now z.book
  pub line : Wrote l 0 said l-now z.line

-- OF LISTS: the book, none if it is refused, and the line, none if it is not
unfoldable pub lists_book : (numbers counts strikes : List ℕ) → List ℕ
lists_book ns cs ss = cond (eqb (lists_refusal ns cs ss) 0) (book_bytes ns cs ss) []

abbrev pub lists_line : (numbers counts strikes : List ℕ) → List ℕ
lists_line ns cs ss = refusal_line (lists_refusal ns cs ss)

abbrev pub ListsWrote : (numbers counts strikes b l : List ℕ) → Lengths → (b-now l-now : List ℕ) → Type 0
ListsWrote ns cs ss = BothWrote (lists_book ns cs ss) (lists_line ns cs ss)

-- HOW LONG A BOOK is lent to the writer: as needed, or of no bytes if that is too long
unfoldable pub room_for : (counts : List ℕ) → ℕ
room_for cs = unless (size_refusal cs) (book_length cs) 0

pub room_answered : (cs : List ℕ) (r : Result ℕ Refusal) → reply r ≡ reply_with 0 (size_refusal cs) (book_length cs)
    → result_unwrap_or r 0 ≡ room_for cs
unfolding room_for reply_with unless
room_answered cs (Ok n) e = ap (λ (x : Reply ℕ). x.value) e
room_answered cs (Err why) e = ap (λ (x : Reply ℕ). x.value) e

pub room_within : (cs : List ℕ) → room_for cs ≤ longest_book
unfolding room_for size_refusal unless
room_within cs = go (ltb longest_book (book_length cs)) refl
  where
    go : (over : Bool) → ltb longest_book (book_length cs) ≡ over → cond (eqb (cond over (number BookSize) 0) 0) (book_length cs) 0 ≤ longest_book
    go true e = omega arith
    go false e = ltb-false longest_book (book_length cs) e

-- a book that is too long is refused whatever is lent
over_decides : (ns cs ss : List ℕ) (r q : ℕ) → ltb longest_book (book_length cs) ≡ true → write_refusal ns cs ss r ≡ write_refusal ns cs ss q
unfolding write_refusal
over_decides ns cs ss r q e = rw e

room_decides : (ns cs ss : List ℕ) → write_refusal ns cs ss (room_for cs) ≡ lists_refusal ns cs ss
unfolding room_for size_refusal unless lists_refusal
room_decides ns cs ss = go (ltb longest_book (book_length cs)) refl
  where
    go : (over : Bool) → ltb longest_book (book_length cs) ≡ over
        → write_refusal ns cs ss (cond (eqb (cond over (number BookSize) 0) 0) (book_length cs) 0) ≡ write_refusal ns cs ss (book_length cs)
    go true e = over_decides ns cs ss 0 (book_length cs) e
    go false e = refl

-- THE LINE of a refusal is short
refusal_small : (ns cs ss : List ℕ) → lists_refusal ns cs ss < 100
unfolding lists_refusal write_refusal
refusal_small ns cs ss =
    go (strikes_bad ss) (not (eqb (length cs) (length ns))) (ltb longest_book (book_length cs)) (not (rising 1 ns)) (any_zero cs)
    (not (lengths_good cs ss (book_length cs)))
  where
    go : (f p s n z l : Bool) → cond f (number StrikeField) (cond p (number Length) (cond s (number BookSize) (cond n (number TuneNumber)
        (cond z (number Layout) (cond l (number Length) 0))))) < 100
    go true p s n z l = omega arith
    go false true s n z l = omega arith
    go false false true n z l = omega arith
    go false false false true z l = omega arith
    go false false false false true l = omega arith
    go false false false false false true = omega arith
    go false false false false false false = omega arith

pub refused_within : (ns cs ss : List ℕ) → length (book_refused (lists_refusal ns cs ss)) ≤ longest_line
refused_within ns cs ss =
    let n = lists_refusal ns cs ss in
    omega (arith, book_refused_length n, spaced_length n, two_digits n (refusal_small ns cs ss))

-- THE WRITER ANSWERED r, and this is in its part of the book
module _ (cs b : List ℕ) (size : ℕ) (room : size ≡ room_for cs) (enough : longest_book ≤ length b) where
  pub part_within : size ≤ length b
  part_within = omega (arith, room, room_within cs)

  pub part_length : length (take size b) ≡ size
  part_length = length-take-le size b part_within

  module _ (ns ss : List ℕ) (r : Result Unit Refusal) (p : List ℕ) (w : Written ns cs ss (take size b) r p) where
    pub lists_answer : outcome r ≡ lists_refusal ns cs ss
    lists_answer = w.answers ∙ ap (write_refusal ns cs ss) (part_length ∙ room) ∙ room_decides ns cs ss

    pub lists_done : r ≡ Ok tt → (l : List ℕ)
        → ListsWrote ns cs ss b l (record { book = size; line = 0 }) (p ++ drop size b) l
    unfolding lists_book refusal_line written unless
    lists_done e l =
        let z = no_refusal _ r lists_answer e in
        let n = no_refusal _ r w.answers e in
        let f : size ≡ length (book_bytes ns cs ss) = sym part_length ∙ whole_fits ns cs ss (take size b) (sym n) in
        let g : 0 + length (book_bytes ns cs ss) ≡ size = omega arith in
        let k = part_within in
        let q : p ≡ book_bytes ns cs ss = w.book_is ∙ rw n in
        rw z (record {
          book = record { room = omega arith; text = rw (q, g); after = omega arith };
          line = wrote_none l 0 (omega arith);
        })

    -- nothing is said, then
    pub lists_silent : r ≡ Ok tt → lists_line ns cs ss ≡ []
    unfolding refusal_line
    lists_silent e = rw (no_refusal _ r lists_answer e)

    module _ (why : Refusal) (e : r ≡ Err why) where
      pub lists_number : number why ≡ lists_refusal ns cs ss
      lists_number = (refused_number _ r why lists_answer e).0

      -- the refusal is said
      pub lists_said : lists_line ns cs ss ≡ book_refused (number why)
      unfolding refusal_line
      lists_said = rw ((refused_number _ r why lists_answer e).1, lists_number)

      -- and the book is as it was
      pub lists_kept : Wrote b 0 (lists_book ns cs ss) (p ++ drop size b) 0
      unfolding lists_book unless
      lists_kept =
          let n = (refused_number _ r why lists_answer e).1 in
          let q : p ≡ take size b = w.book_is ∙ rw (refused_number _ r why w.answers e).1 in
          rw (n, q, take-append-drop size b) (wrote_none b 0 (omega arith))

      pub lists_refused : {l l-now : List ℕ} {k : ℕ} → Wrote l 0 (book_refused (number why)) l-now k
          → ListsWrote ns cs ss b l (record { book = 0; line = k }) (p ++ drop size b) l-now
      lists_refused v = record { book = lists_kept; line = rw lists_said v }
