-- Linearized polynomials g₀ y + g₁ y³ + g₂ y⁹ + .. are linear functions, and their division by y³ - A y.
use Rattle.std.specs.Prelude.{List, [], ◌∷◌, ℕ}
use Rattle.algebra.specs.Field.{add, minus, times, cube}

unfoldable pub ev : List ℕ → ℕ → ℕ
ev [] y = 0
ev (g ∷ gs) y = add (times g y) (ev gs (cube y))

-- y³ - A y
unfoldable pub lower : (A y : ℕ) → ℕ
lower A y = minus (cube y) (times A y)

-- DIVISION by y³ - A y: the remainder and the quotient
unfoldable pub rem : (A : ℕ) → List ℕ → ℕ
rem A [] = 0
rem A (g ∷ gs) = add g (times A (rem (cube A) gs))

unfoldable pub quo : (A : ℕ) → List ℕ → List ℕ
quo A [] = []
quo A (g ∷ gs) = rem A (g ∷ gs) ∷ quo (cube A) gs

-- THE QUOTIENT has one coefficient less, and the same last one
-- (the last of a list that has a first)
unfoldable pub last : ℕ → List ℕ → ℕ
last g [] = g
last g (h ∷ gs) = last h gs
