-- What Open refuses (document 01: Open), as three tests of a book that is not empty.
-- Main: rising, contents_refusal, is_empty, open_refusal.
use Rattle.std.specs.Prelude.{Bool, true, ◌&&◌, ◌||◌, not, cond, List, [], ◌∷◌, ℕ, zero, suc, ◌+◌, ◌*◌, ltb, leb, eqb, length}
use Rattle.refusal.specs.Replies.{number}
use Rattle.refusal.specs.declared.Refusal.TheVariants.{BookSize, TuneNumber, Layout}
use Rattle.book.specs.Layout.{longest_book, tunes, contents_end, offset, cards, tune_numbers}

-- over 65,536 bytes, under 2, or under 2 + 8N
unfoldable pub size_bad : List ℕ → Bool
size_bad bs = ltb longest_book (length bs) || (ltb (length bs) 2 || ltb (length bs) (contents_end (tunes bs)))

-- tune numbers are at least `least`, at most 9,999, and strictly rising
unfoldable pub rising : (least : ℕ) → (numbers : List ℕ) → Bool
rising l [] = true
rising l (n ∷ ns) = (leb l n && leb n 9999) && rising (suc n) ns

-- `left` bodies from entry e on have cards, each begins where those before it end, the first at `end`, and they end with the file
unfoldable pub bodies_good : (left e : ℕ) → (end : ℕ) → List ℕ → Bool
bodies_good zero e x bs = eqb x (length bs)
bodies_good (suc k) e x bs =
    (leb 1 (cards bs e) && eqb (offset bs e) x) && bodies_good k (suc e) (x + 12 * cards bs e) bs

-- some tune number breaks its range or rise
unfoldable pub numbers_bad : List ℕ → Bool
numbers_bad bs = not (rising 1 (tune_numbers bs))

-- some count is 0, some offset is not where the bodies before it end (for the first entry 2 + 8N), or the bodies do not end with the file
unfoldable pub bodies_bad : List ℕ → Bool
bodies_bad bs = not (bodies_good (tunes bs) 0 (contents_end (tunes bs)) bs)

-- 5, 6 and 7, all entries for 6 before any for 7
unfoldable pub contents_refusal : List ℕ → ℕ
contents_refusal bs =
    cond (size_bad bs) (number BookSize) (cond (numbers_bad bs) (number TuneNumber) (cond (bodies_bad bs) (number Layout) 0))

-- the empty file, of no bytes: a book of no tunes (document 02, P9)
unfoldable pub is_empty : List ℕ → Bool
is_empty bs = eqb (length bs) 0

-- nothing of it is tested
unfoldable pub open_refusal : List ℕ → ℕ
open_refusal bs = cond (is_empty bs) 0 (contents_refusal bs)
