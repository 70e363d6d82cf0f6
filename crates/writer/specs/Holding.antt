-- The strikes that are read of a book, and books that are read without damage. (Its tune numbers and counts are in `book/Layout`.)
-- Main: body_strikes, book_strikes, Bytes, Clean.
use Rattle.std.specs.Prelude.{◌≡◌, List, [], ◌∷◌, ◌++◌, ℕ, zero, suc, ◌≤◌, ◌<◌}
use Rattle.algebra.specs.Lists.{All}
use Rattle.strike.specs.declared.Strike.{Strike}
use Rattle.book.specs.Layout.{tunes, tune_number}
use Rattle.book.specs.Pull.{pulled}
use Rattle.book.specs.Reading.{cards_in, reading}

-- the strikes of `left` cards of a body from card n on, and of all its cards
unfoldable pub strikes_from : (left n : ℕ) → (body : List ℕ) → List Strike
strikes_from zero n b = []
strikes_from (suc k) n b = (reading b n).value.strike ∷ strikes_from k (suc n) b

unfoldable pub body_strikes : (body : List ℕ) → List Strike
body_strikes b = strikes_from (cards_in b) 1 b

-- of `left` tunes from entry e on, and of all tunes
unfoldable pub tunes_strikes : (left e : ℕ) → List ℕ → List Strike
tunes_strikes zero e bs = []
tunes_strikes (suc k) e bs = body_strikes (pulled bs (tune_number bs e)) ++ tunes_strikes k (suc e) bs

unfoldable pub book_strikes : List ℕ → List Strike
book_strikes bs = tunes_strikes (tunes bs) 0 bs

-- bytes
abbrev pub Bytes : List ℕ → Type 0
Bytes bs = All (λ x. x < 256) bs

-- A CLEAN BOOK: each card of each tune is read, with damage 0
unfoldable pub Clean : List ℕ → Type 0
Clean bs = (e n : ℕ) → e < tunes bs → 1 ≤ n → n ≤ cards_in (pulled bs (tune_number bs e))
    → ((reading (pulled bs (tune_number bs e)) n).refusal ≡ 0) × ((reading (pulled bs (tune_number bs e)) n).value.damage.rank ≡ 0)
