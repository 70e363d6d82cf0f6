-- `dead_decoder::masks::Mask::count` meets its contract: the bits that are 1, of each mask.
use Rattle.std.proofs.Common.{◌≡◌, ℕ, ◌<◌, refl, arith}
use lib.Count.{ones as count_ones}
use Rattle.algebra.specs.Tests.{every, tested}
use Rattle.rank.specs.Mask.{ones}
use Rattle.dead_lines.specs.Struck.{dead_lines}
use Rattle.dead_decoder.proofs.masks.Mask.count.Goals as goal

ones_dead : (mask : ℕ) → mask < 64 → count_ones mask ≡ dead_lines mask
unfolding dead_lines ones every count_ones
ones_dead = tested 64 count_ones dead_lines refl

pub returns : goal.returns
unfolding dead_lines ones
returns c = (ones_dead c.args.self.bits c.args.self.six_lines, omega (arith, ones_dead c.args.self.bits c.args.self.six_lines))
