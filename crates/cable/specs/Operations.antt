-- What the operations on levels refuse and answer (SPECIFICATION 8.18 to 8.22). A refusal leaves every list as it was.
use Rattle.std.specs.Prelude.{false, ◌&&◌, not, cond, List, ℕ, eqb, ltb, length, ℤ, pos, Result}
use Rattle.algebra.specs.Tests.{any, any_above}
use Rattle.refusal.specs.declared.Refusal.{Refusal}
use Rattle.refusal.specs.declared.Refusal.TheVariants.{Range}
use Rattle.refusal.specs.Replies.{number, Reply, reply_or}
use Rattle.codec.specs.Operations.{tests}
use Rattle.levels.specs.Levels.{outside}

-- what an answer in one signed number says
abbrev pub signed_reply : Result ℤ Refusal → Reply ℤ
signed_reply r = reply_or (pos 0) r

-- ONE SYMBOL, ONE NUMBER: 3 outside 0 to 728, or -364 to 364
unfoldable pub signed_refusal : (symbol : ℕ) → ℕ
signed_refusal v = cond (ltb 728 v) (number Range) 0

unfoldable pub symbol_refusal : (number : ℤ) → ℕ
symbol_refusal n = cond (outside n) (number Range) 0

-- SIX OF THEM, and room for six: 2 for a length, 3 for a symbol or a number
unfoldable pub levels_refusal : (card : List ℕ) → (room : ℕ) → ℕ
levels_refusal c r = tests false (not (eqb (length c) 6 && eqb r 6)) (any_above 728 c)

unfoldable pub symbols_refusal : (numbers : List ℤ) → (room : ℕ) → ℕ
symbols_refusal ns r = tests false (not (eqb (length ns) 6 && eqb r 6)) (any outside ns)

-- 36 SAMPLES, and room for a card: 2 for a length
unfoldable pub receive_refusal : (samples : List ℤ) → (room : ℕ) → ℕ
receive_refusal s r = tests false (not (eqb (length s) 36 && eqb r 6)) false
