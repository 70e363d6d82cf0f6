-- `cable::receiving::received_symbol` meets its contract: six samples, each with its digit.
use Prim.Native.Nat.{◌+◌, ◌*◌}
use Rattle.cable.specs.Steps.{digit_read, received_is}
use Rattle.cable.proofs.receiving.received_symbol.Goals as goal

pub returns : goal.returns
returns c =
    let s = c.args.samples.now in
    let j = c.args.j in
    received_is s j _ _ _ _ _ _
    (digit_read s (6 * j) _ (record { sfits = c.sample_digit-arg-1.given }) c.sample_digit-d0.ensures.0)
    (digit_read s (6 * j + 1) _ (record { sfits = c.sample_digit-arg-2-1.given }) c.sample_digit-d1.ensures.0)
    (digit_read s (6 * j + 2) _ (record { sfits = c.sample_digit-arg-3-1.given }) c.sample_digit-d2.ensures.0)
    (digit_read s (6 * j + 3) _ (record { sfits = c.sample_digit-arg-4-1.given }) c.sample_digit-d3.ensures.0)
    (digit_read s (6 * j + 4) _ (record { sfits = c.sample_digit-arg-5-1.given }) c.sample_digit-d4.ensures.0)
    (digit_read s (6 * j + 5) _ (record { sfits = c.sample_digit-arg-6-1.given }) c.sample_digit-d5.ensures.0)
