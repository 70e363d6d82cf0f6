-- The small field by digits: each formula passes one test with its definition.
-- Main: small_is, low_is, high_is.
use Rattle.std.specs.Prelude.{◌≡◌, refl, true, ℕ, ◌+◌, ◌*◌, ◌/◌, ◌%◌, eqb}
use Rattle.std.proofs.Common.{◌∙◌, mod-lt, lit<}
use Rattle.algebra.specs.Field.{small}
use Rattle.algebra.specs.Tests.{every, tested}
use Rattle.algebra.specs.Linear.{computing, at_rest}
use Rattle.algebra.specs.SmallField.{low, high}
use Rattle.algebra.proofs.SmallField.{low_linear, high_linear, small_rest}

-- THE SYMBOL OF A SMALL NUMBER
abbrev small_by : ℕ → ℕ
small_by c = (c + 2 * (c / 3) + 2 * (c / 9)) % 3 + 27 * (2 * (c / 9) % 3) + 81 * ((2 * (c / 3) + c / 9) % 3) + 243 * (2 * (c / 3) % 3)

small_test : every 27 (λ c. eqb (small_by c) (small c)) ≡ true
unfolding computing
small_test = refl

pub small_is : (c : ℕ) → small_by (c % 27) ≡ small c
small_is c = tested 27 small_by small small_test (c % 27) (mod-lt c (lit< tt)) ∙ small_rest c

-- THE SMALL NUMBERS OF A SYMBOL
abbrev low_by : ℕ → ℕ
low_by v = (v + v / 81 + v / 243) % 3 + 3 * ((2 * (v / 9) + v / 27 + v / 81 + v / 243) % 3) + 9 * (2 * (v / 27) % 3)

low_test : every 729 (λ v. eqb (low_by v) (low v)) ≡ true
unfolding computing low
low_test = refl

pub low_is : (v : ℕ) → low_by (v % 729) ≡ low v
low_is v = tested 729 low_by low low_test (v % 729) (mod-lt v (lit< tt)) ∙ at_rest low_linear v

abbrev high_by : ℕ → ℕ
high_by v = (v / 3 + 2 * (v / 9) + v / 27 + v / 81 + 2 * (v / 243)) % 3 + 3 * (v / 9 % 3) + 9 * ((v / 27 + v / 81 + 2 * (v / 243)) % 3)

high_test : every 729 (λ v. eqb (high_by v) (high v)) ≡ true
unfolding computing high
high_test = refl

pub high_is : (v : ℕ) → high_by (v % 729) ≡ high v
high_is v = tested 729 high_by high high_test (v % 729) (mod-lt v (lit< tt)) ∙ at_rest high_linear v
