-- A count of values at the start of a list.
-- Main: IsPrefixLen.
use Rattle.std.specs.Prelude.{◌≡◌, ℕ, ◌≤◌, List, length, take}

-- the list has so many values, and the part that takes them is as long. The second follows from the first, and is there for whoever takes
-- that part
abbrev pub IsPrefixLen : ℕ → List ℕ → Type 0
IsPrefixLen n xs = (n ≤ length xs) × (n ≡ length (take n xs))
