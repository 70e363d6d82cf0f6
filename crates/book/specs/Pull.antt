-- What Pull refuses and gives back (document 01: Pull).
-- Main: entry_of, pull_refusal, pulled, pulled_from.
use Rattle.std.specs.Prelude.{Bool, cond, List, [], ℕ, eqb}
use Rattle.std.proofs.Math.Option.{Option, none, some}
use Rattle.algebra.specs.Search.{first_from}
use Rattle.refusal.specs.Replies.{number}
use Rattle.refusal.specs.declared.Refusal.TheVariants.{NoSuchTune}
use Rattle.book.specs.Layout.{tunes, tune_number, offset, part_of}
use Rattle.book.specs.Open.{open_refusal}

-- whether entry e bears the tune number
unfoldable pub bears : List ℕ → (tune e : ℕ) → Bool
bears bs t e = eqb (tune_number bs e) t

-- the first entry of the contents that bears the tune number, if any
unfoldable pub entry_of : List ℕ → (tune : ℕ) → Option ℕ
entry_of bs t = first_from (tunes bs) 0 (bears bs t)

-- 8 if no entry has the number
abbrev pub missing : Option ℕ → ℕ
missing none = number NoSuchTune
missing (some e) = 0

-- the part of the entry, or nothing
abbrev pub part_at : List ℕ → Option ℕ → List ℕ
part_at bs none = []
part_at bs (some e) = part_of bs e

-- as Open; then 8 if no entry has that number
unfoldable pub pull_refusal : List ℕ → (tune : ℕ) → ℕ
pull_refusal bs t = cond (eqb (open_refusal bs) 0) (missing (entry_of bs t)) (open_refusal bs)

-- the tune's own part of the book, empty on a refusal
unfoldable pub pulled : List ℕ → (tune : ℕ) → List ℕ
pulled bs t = cond (eqb (open_refusal bs) 0) (part_at bs (entry_of bs t)) []

-- where that part begins, 0 on a refusal
abbrev pub offset_at : List ℕ → Option ℕ → ℕ
offset_at bs none = 0
offset_at bs (some e) = offset bs e

unfoldable pub pulled_from : List ℕ → (tune : ℕ) → ℕ
pulled_from bs t = cond (eqb (open_refusal bs) 0) (offset_at bs (entry_of bs t)) 0
