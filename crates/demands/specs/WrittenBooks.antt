-- What is demanded of written books (document 02, P1): a book is read as it was written, and is written as it was read.
-- To be read with Demands, with the definitions of strike/Turns, book/Pull, book/Reading, writer/Writing and writer/Holding, and with the records
-- `Shows` (writer/Shown), `Held` (writer/Held) and `Again` (writer/Again).
-- Main: BooksSay.
use Rattle.std.specs.Prelude.{◌≡◌, ◌≢◌, List, [], ◌∷◌, ℕ}
use Rattle.refusal.specs.Replies.{Reply, replied}
use Rattle.book.specs.Open.{open_refusal}
use Rattle.book.specs.Pull.{pull_refusal, pulled}
use Rattle.book.specs.Reading.{CardValue, reading}
use Rattle.writer.specs.Writing.{book_bytes, write_refusal}
use Rattle.writer.specs.Holding.{Bytes, Clean}
use Rattle.writer.specs.Shown.{Shows}
use Rattle.writer.specs.Held.{Held}
use Rattle.writer.specs.Again.{Again}
use Rattle.demands.specs.Demands.{opening_refusal, PullSays, InRange, ReadSays, writing_refusal}

pub record BooksSay : Type 0 where
  -- THE WORDS in which the rest speaks are what Open, Pull, Read and Write answer
  pub opening_is : (bs : List ℕ) → opening_refusal bs ≡ open_refusal bs
  pub pulled_is : (bs : List ℕ) (t r : ℕ) (p : List ℕ) → PullSays bs t r p → (r ≡ pull_refusal bs t) × (p ≡ pulled bs t)
  pub reading_is : (b : List ℕ) (n : ℕ) (r : Reply CardValue) → ReadSays b n r → r ≡ reading b n
  pub writing_is : (ns cs ss : List ℕ) (room : ℕ) → writing_refusal ns cs ss room ≡ write_refusal ns cs ss room
  -- WHAT IS WRITTEN is shown: Open accepts the book, and Pull and Read give back each strike in its place, with damage 0
  pub shown : (ns cs ss : List ℕ) (room : ℕ) → writing_refusal ns cs ss room ≡ 0 → Shows ns cs ss (book_bytes ns cs ss)
  -- and held: the book is bytes, all its cards are read with damage 0, and its strikes from the first to the last are those given
  pub held : (ns cs ss : List ℕ) (room : ℕ) → writing_refusal ns cs ss room ≡ 0 → Held ss (book_bytes ns cs ss)
  -- WHAT IS READ can be written: each strike is in range
  pub ranged : (b : List ℕ) (n : ℕ) (v : CardValue) → ReadSays b n (replied v) → InRange v.strike
  -- and is written again: bytes that Open accepts and whose cards are all read, with damage 0, come out the same, but for the empty file
  pub again : (bs : List ℕ) → opening_refusal bs ≡ 0 → Bytes bs → Clean bs → bs ≢ [] → Again bs
  -- THE EMPTY FILE (document 02, P9) is one of those, and is never written: no tunes are written as two bytes, hex 00 00
  pub empty : (opening_refusal [] ≡ 0) × Bytes [] × Clean []
  pub never_empty : (ns cs ss : List ℕ) → book_bytes ns cs ss ≢ []
  pub no_tunes : (writing_refusal [] [] [] 2 ≡ 0) × (book_bytes [] [] [] ≡ 0 ∷ 0 ∷ [])
  -- ONE BOOK is written from one triple of lists only
  pub once : (ns cs ss ms ds ts : List ℕ) (room space : ℕ) → writing_refusal ns cs ss room ≡ 0 → writing_refusal ms ds ts space ≡ 0
      → book_bytes ns cs ss ≡ book_bytes ms ds ts → (ns ≡ ms) × (cs ≡ ds) × (ss ≡ ts)
