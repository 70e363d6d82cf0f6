-- A book that Open accepts: it is empty and has no tunes, or its bodies lie one after another and fill the file; and its tune numbers rise.
use Rattle.std.specs.Prelude.{◌≡◌, false, List}
use Prim.Native.Nat.{ℕ, zero, suc, ◌+◌, ◌*◌, ◌<◌}
use Rattle.book.specs.Layout.{tunes, contents_end, tune_number, cards}
use Rattle.book.specs.Open.{size_bad, numbers_bad, bodies_bad, open_refusal}

-- a book that Open accepts
abbrev pub Accepted : List ℕ → Type 0
Accepted bs = open_refusal bs ≡ 0

-- and an entry of its contents, counted from 0
abbrev pub AcceptedEntry : List ℕ → (e : ℕ) → Type 0
AcceptedEntry bs e = Accepted bs × (e < tunes bs)

-- THE THREE TESTS
pub record Passed (bs : List ℕ) : Type 0 where
  pub size : size_bad bs ≡ false
  pub numbers : numbers_bad bs ≡ false
  pub bodies : bodies_bad bs ≡ false

-- BODIES. Where those before entry e end
unfoldable pub body_start : List ℕ → (e : ℕ) → ℕ
body_start bs zero = contents_end (tunes bs)
body_start bs (suc e) = body_start bs e + 12 * cards bs e

-- TUNE NUMBERS. The least that the tune number of entry e may be
unfoldable pub least_number : List ℕ → (e : ℕ) → ℕ
least_number bs zero = 1
least_number bs (suc e) = suc (tune_number bs e)
