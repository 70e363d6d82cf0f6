-- `codec::packed::Counts::add_row` meets its contract: nothing overflows, as the rows so far and one more leave room.
use Rattle.std.proofs.Common.{◌≡◌, ℕ, ◌+◌, ◌*◌, ◌≤◌, List, get_or, refl, mul-le-mul, arith}
use Rattle.algebra.specs.Lists.{table}
use Rattle.transform.specs.Packed.{bounded_at, add_row, add_row_bounded, IsRow}
use Rattle.codec.proofs.packed.Counts.add_row.Goals as goal

product : (d : ℕ) (r : List ℕ) → d ≤ 2 → IsRow r → (w : ℕ) → d * get_or r w 0 ≤ 300000000000000000
product d r h k w = mul-le-mul h (bounded_at 150000000000000000 r k w)

pub overflow_add-result-4 : goal.overflow_add-result-4
overflow_add-result-4 c =
    omega (arith, product c.args.digit c.args.row c.requires.1 c.requires.2 3, bounded_at (c.args.self.rows * 300000000000000000) c.args.self.numbers c.args.self.of_rows 3)

pub invariant_of-result : goal.invariant_of-result
unfolding add_row table
invariant_of-result c =
    let next : (c.args.self.rows + 1) * 300000000000000000 ≡ c.args.self.rows * 300000000000000000 + 2 * 150000000000000000 = omega arith in
    record {
      room = omega arith;
      of_rows = rw next (add_row_bounded c.args.self.numbers c.args.digit c.args.row _ _ c.requires.1 c.args.self.of_rows c.requires.2);
    }

pub returns-clause-numbers : goal.returns-clause-numbers
unfolding add_row table
returns-clause-numbers c = refl
