-- What a message of the code stands for.
-- Main: numbers_of.
use Rattle.std.specs.Prelude.{List, ℕ, ◌*◌, take}
use Rattle.codec.specs.declared.message.Message.{Message}

-- the numbers of a message: the first 2k
abbrev pub numbers_of : Message → List ℕ
numbers_of m = take (2 * m.k.value) m.numbers
