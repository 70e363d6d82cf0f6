-- `rank::square::digit_square` meets its contract: six rows, each the lowest digits of what the divisions by 3 leave.
use Rattle.rank.specs.Elimination.{square, square_from}
use Rattle.rank.proofs.square.digit_square.Goals as goal

pub returns : goal.returns
unfolding square square_from
returns c =
    let t1 = c.other_digits-from1.ensures in
    let t2 = c.other_digits-from2.ensures in
    let t3 = c.other_digits-from3.ensures in
    let t4 = c.other_digits-from4.ensures in
    let t5 = c.other_digits-from5.ensures in
    let r0 = c.low_digits.ensures in
    let r1 = c.low_digits-2.ensures in
    let r2 = c.low_digits-3.ensures in
    let r3 = c.low_digits-4.ensures in
    let r4 = c.low_digits-5.ensures in
    let r5 = c.low_digits-6.ensures in
    simp (r0, r1, r2, r3, r4, r5, t5, t4, t3, t2, t1)
