-- The powers of z, which is symbol 3, are all the symbols but 0: each has its logarithm, and a product is the power at the sum of two.
use Rattle.std.specs.Prelude.{cond, List, [], ◌∷◌, ℕ, suc, ◌%◌, eqb}
use Rattle.algebra.specs.Products.{orbit}

-- 1, z, z^2, .. z^727
unfoldable pub powers : List ℕ
powers = orbit 728 1

-- the place of a in a list, counted from i; 0 where it stands nowhere
unfoldable pub place : (a i : ℕ) → List ℕ → ℕ
place a i [] = 0
place a i (x ∷ xs) = cond (eqb a x) i (place a (suc i) xs)

-- the logarithm of a symbol: the place at which it stands among the powers; 0 has none, and gets 0
unfoldable pub log : (a : ℕ) → ℕ
log a = place (a % 729) 0 powers
