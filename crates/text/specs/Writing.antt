-- Bytes stored in a list that was lent, from a place on. What is written after what was written is one text.
-- Main: Wrote, HasRoom, Writes, Copying, Joining, Joins, Partway, PartWritten.
use Rattle.std.specs.Prelude.{◌≡◌, List, ◌++◌, ℕ, ◌+◌, ◌≤◌, length, take}
use Rattle.text.specs.declared.lent.Lent.{Lent}
use Rattle.text.specs.Text.{joined, written}

-- the bytes were written and had room, and the next place is behind them
pub record Wrote {A : Type 0} (old : List A) (a : ℕ) (bytes new : List A) (next : ℕ) : Type 0 where
  pub room : a + length bytes ≤ length old
  pub text : new ≡ written old a bytes
  pub after : next ≡ a + length bytes

-- A LENT LIST has room for these elements from its next place on
abbrev pub HasRoom : {A : Type 0} → Lent A → List A → Type 0
HasRoom l x = l.at + length x ≤ length l.list.now

-- they were written there, and it is the same list
pub record Writes {A : Type 0} (old : Lent A) (elements : List A) (new : Lent A) : Type 0 where
  pub same_list : new.list.ghost_name ≡ old.list.ghost_name
  pub wrote : Wrote old.list.now old.at elements new.list.now new.at

-- A WORD BYTE BY BYTE: its first i bytes were written
pub record Copying (old : List ℕ) (a : ℕ) (word new : List ℕ) (i : ℕ) : Type 0 where
  pub within : i ≤ length word
  pub wrote : Wrote old a (take i word) new (a + i)

-- TEXTS ONE AFTER ANOTHER, n in all: the first k were written
pub record Joining (t : ℕ → List ℕ) (n : ℕ) (old : List ℕ) (a : ℕ) (new : List ℕ) (next k : ℕ) : Type 0 where
  pub within : k ≤ n
  pub wrote : Wrote old a (joined t k) new next

-- the same into a lent list
pub record Joins (t : ℕ → List ℕ) (old new : Lent ℕ) (k : ℕ) : Type 0 where
  pub writes : Writes old (joined t k) new

-- A TEXT PART BY PART: what was written so far and what is left are the whole
pub record Partway (old : List ℕ) (a : ℕ) (whole left new : List ℕ) (next : ℕ) : Type 0 where
  pub so_far : List ℕ
  pub wrote : Wrote old a so_far new next
  pub whole_is : so_far ++ left ≡ whole

-- the same into a lent list
pub record PartWritten {A : Type 0} (old : Lent A) (whole left : List A) (new : Lent A) : Type 0 where
  pub so_far : List A
  pub writes : Writes old so_far new
  pub whole_is : so_far ++ left ≡ whole
