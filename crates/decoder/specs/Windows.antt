-- The annihilator of a window as the code has it, and the test of a card's determinant.
-- Main: Annihilates, solved_by, determinant_none, determinant_some.
use Rattle.std.specs.Prelude.{◌≡◌, ◌≢◌, true, false, List, ℕ, eqb}
use Rattle.std.proofs.Common.{sym, ◌∙◌, eq-eqb, ne_eqb}
use Rattle.algebra.specs.Field.{add, times, cube}
use Rattle.algebra.specs.Lists.{table}
use Rattle.algebra.specs.Inverses.{inverse}
use Rattle.algebra.proofs.Inverses.{inverse_cube}
use Rattle.rank.specs.Definitions.{at}
use Rattle.coding.specs.Spectrum.{spectrum}
use Rattle.coding.specs.Window.{determinant, numerator, solved}
use Rattle.decoder.specs.declared.window.Annihilator.{Annihilator}

-- THE ANNIHILATOR of a window
pub record Annihilates (w x y z : ℕ) (a : Annihilator) : Type 0 where
  pub inverse : a.inverse ≡ inverse (determinant w x y)
  pub numerator : a.numerator ≡ numerator w x y z
  pub determinant : a.determinant ≡ determinant x y z

-- what is solved by it
pub solved_by : {w x y z : ℕ} {a : Annihilator} → Annihilates w x y z a → (v f p q : ℕ)
    → v ≡ add f (times (cube a.inverse) (add (times (cube (cube p)) a.determinant) (times a.numerator (cube q)))) → v ≡ solved w x y z f p q
unfolding solved
solved_by h v f p q e = rw (e, h.inverse, inverse_cube, h.numerator, h.determinant)

-- THE DETERMINANT of a card's last three coefficients: the error has rank at most 1, or 2
module _ (c r : List ℕ) (e : r ≡ table 6 (spectrum c)) (d : ℕ) (ed : d ≡ determinant (at r 3) (at r 4) (at r 5)) where
  determinant_is : d ≡ determinant (spectrum c 3) (spectrum c 4) (spectrum c 5)
  unfolding at table
  determinant_is = rw e at ed

  pub determinant_none : d ≡ 0 → eqb (determinant (spectrum c 3) (spectrum c 4) (spectrum c 5)) 0 ≡ true
  determinant_none z = eq-eqb _ 0 (sym determinant_is ∙ z)

  pub determinant_some : d ≢ 0 → eqb (determinant (spectrum c 3) (spectrum c 4) (spectrum c 5)) 0 ≡ false
  determinant_some n = ne_eqb _ 0 (λ z. n (determinant_is ∙ z))
