-- `book::reading::Body::card` meets its contract: the symbols of the twelve bytes are the card's, and the body has it.
use mathlib.Core.Path.{◌≡◌, ◌∙◌}
use Prim.Native.Nat.{◌*◌, ◌-◌}
use native.Mathlib.Omega.{arith}
use Rattle.book.specs.CardReading.{card_part, read_there, there_card}
use Rattle.book.proofs.reading.Body.card.Goals as goal

pub returns : goal.returns
returns c =
    let bs = c.args.self.now.bytes.now in
    let n = c.args.n in
    let e : 12 * n - 12 * (n - 1) ≡ 12 = omega arith in
    let s = rw e at c.symbols.ensures in
    rw (s ∙ card_part bs n) at c.read_symbols.ensures ∙ read_there bs n c.args.self.now.good (there_card bs n c.requires.0 c.requires.1)
