-- Errors of rank 2 as the code goes: for k = 1 what is solved by the window, for k = 2 the constants that all proposals share and what is
-- computed from them.
-- Main: pair_by, one_single, one_double, value_at, Prepared, ninth_by, inner_by, attempt_some, attempt_none, two_single, two_found, two_none.
use Rattle.std.specs.Prelude.{◌≡◌, refl, ◌≢◌, true, ℕ, ◌≤◌, ◌<◌}
use Rattle.std.proofs.Math.Path.{sym, ap}
use Rattle.std.proofs.Common.{◌∙◌}
use mathlib.Core.List.{List, [], ◌∷◌}
use Rattle.std.proofs.Math.Option.{none, some}
use borrow.Author.Tests.{eq-eqb, ne_eqb}
use Rattle.algebra.specs.Field.{add, minus, times, cube, small}
use Rattle.algebra.specs.Lists.{table}
use Rattle.algebra.specs.Tests.{passes}
use Rattle.algebra.specs.Linear.{computing, agree, summed, none_linear, scale_linear}
use Rattle.algebra.specs.Products.{ring, right}
use Rattle.algebra.specs.Inverses.{inverse}
use Rattle.algebra.proofs.Inverses.{inverse_cube}
use Rattle.algebra.specs.SmallField.{low, high}
use Rattle.algebra.proofs.SmallField.{low_below, high_below}
use Rattle.rank.specs.Definitions.{at, is_card}
use Rattle.coding.specs.Code.{is_message}
use Rattle.coding.specs.Options.{first_of}
use Rattle.coding.specs.Decode.{if_near, decode}
use Rattle.coding.specs.Spectrum.{spectrum}
use Rattle.coding.specs.Window.{determinant, numerator, cubed_before, solved}
use Rattle.coding.specs.Residual.{if_rank_one}
use Rattle.coding.specs.DecodeOne.{zeroth, first, double, decode_one, one_is_decode}
use Rattle.coding.specs.DecodeTwo.{ninth_numerator, ninth, inner_coefficient, zeroth_error, proposed, attempt, decode_two, two_is_decode}
use Rattle.candidate.specs.Finding.{first_at, first_all}
use Rattle.decoder.specs.Windows.{Annihilates, solved_by, determinant_none, determinant_some}
use Rattle.decoder.specs.Singles.{last_single}
use Rattle.decoder.specs.declared.window.Annihilator.{Annihilator}
use Rattle.decoder.specs.declared.two.Affine.{Affine}
use Rattle.decoder.specs.declared.two.Shared.{Shared}

-- k = 1: THE COEFFICIENTS solved by the window
pub pair_by : (r : ℕ → ℕ) (a : Annihilator) → Annihilates (r 2) (r 3) (r 4) (r 5) a → (f₀ e₀ f₁ : ℕ)
    → f₀ ≡ add (r 0) (times (cube a.inverse) (add (times (cube (cube (r 4))) a.determinant) (times a.numerator (cube (r 5))))) → e₀ ≡ minus (r 0) f₀
    → f₁ ≡ add (r 1) (times (cube a.inverse) (add (times (cube (cube (r 5))) a.determinant) (times a.numerator (cube e₀))))
    → f₀ ∷ f₁ ∷ [] ≡ zeroth r ∷ first r ∷ []
unfolding zeroth first
pair_by r a s f₀ e₀ f₁ h₀ e h₁ = rw (solved_by s f₁ (r 1) (r 5) e₀ h₁, e, solved_by s f₀ (r 0) (r 4) (r 5) h₀)

-- and the message of them
pub parts_message : (x y : ℕ) → is_message 1 (low x ∷ high y ∷ []) ≡ true
unfolding is_message
parts_message x y = passes 2 26 (low x ∷ high y ∷ []) refl (low_below x, (high_below y, tt))

module _ (c : List ℕ) (card : is_card c ≡ true) (r : List ℕ) (e : r ≡ table 6 (spectrum c)) (d : ℕ) (ed : d ≡ determinant (at r 3) (at r 4) (at r 5)) where
  pub one_single : d ≡ 0 → if_rank_one 1 c (at r 4) ≡ decode 1 c
  unfolding decode_one
  one_single z = last_single c r e 1 ∙ sym (rw (determinant_none c r e d ed z)) ∙ one_is_decode c card

  double_spectrum : double (at r) ≡ double (spectrum c)
  unfolding double zeroth first at table
  double_spectrum = ap (λ (x : List ℕ). double (at x)) e

  pub one_double : d ≢ 0 → (f m : List ℕ) → f ≡ zeroth (at r) ∷ first (at r) ∷ [] → m ≡ low (at f 0) ∷ high (at f 1) ∷ [] → if_near 1 c m ≡ decode 1 c
  unfolding decode_one double at
  one_double n f m ef h = rw (h, ef, double_spectrum) (sym (rw (determinant_some c r e d ed n)) ∙ one_is_decode c card)

-- k = 2: A NUMBER that changes with the message's first symbol
unfoldable pub value_at : (l : Affine) → (symbol : ℕ) → ℕ
value_at l x = add l.constant (times l.factor x)

-- WHAT ALL PROPOSALS SHARE, for a message with the first symbol x
pub record Prepared (r : ℕ → ℕ) (s : Shared) : Type 0 where
  pub zeroth : s.zeroth ≡ r 0
  pub first : s.first ≡ r 1
  pub fifth : s.fifth ≡ r 5
  pub inverse : s.inverse ≡ inverse (determinant (r 3) (r 4) (r 5))
  pub determinant : (x : ℕ) → value_at s.determinant x ≡ determinant (r 4) (r 5) (minus (r 0) x)
  pub numerator : (x : ℕ) → value_at s.numerator x ≡ numerator (r 3) (r 4) (r 5) (minus (r 0) x)
  pub ninth : (x : ℕ) → value_at s.ninth x ≡ ninth_numerator r (minus (r 0) x)

-- it is that of a card, if the spectrum is
pub prepared_of : (c r : List ℕ) (s : Shared) → r ≡ table 6 (spectrum c) → Prepared (at r) s → Prepared (spectrum c) s
unfolding at table ninth_numerator
prepared_of c r s e p =
    let q : Prepared (at (table 6 (spectrum c))) s = rw e at p in
    record { zeroth = q.zeroth; first = q.first; fifth = q.fifth; determinant = q.determinant; numerator = q.numerator; ninth = q.ninth; inverse = q.inverse }

-- 2 is -1
two_times : (a : ℕ) → times 2 a ≡ minus 0 a
unfolding computing minus
two_times = agree (right 2) (summed none_linear (scale_linear 2)) refl

-- the three numbers, from those for the first symbol 0
module _ (r : ℕ → ℕ) (x : ℕ) where
  determinant_less : add (determinant (r 4) (r 5) (r 0)) (times (minus 0 (cube (r 4))) x) ≡ determinant (r 4) (r 5) (minus (r 0) x)
  unfolding determinant
  determinant_less = split (cube (r 4)) (times (r 5) (cube (r 5)))
    where
      split : (c q : ℕ) → add (minus (times (r 0) c) q) (times (minus 0 c) x) ≡ minus (times (minus (r 0) x) c) q
      split c q = simp ring

  numerator_more : add (numerator (r 3) (r 4) (r 5) (r 0)) (times (cube (cube (r 3))) x) ≡ numerator (r 3) (r 4) (r 5) (minus (r 0) x)
  unfolding numerator
  numerator_more = split (times (cube (cube (r 4))) (r 5)) (cube (cube (r 3)))
    where
      split : (p c : ℕ) → add (minus p (times c (r 0))) (times c x) ≡ minus p (times c (minus (r 0) x))
      split p c = simp ring

  ninth_less : add (ninth_numerator r (r 0)) (times (minus 0 (times 684 (cube (determinant (r 2) (r 3) (r 4))))) x) ≡ ninth_numerator r (minus (r 0) x)
  unfolding ninth_numerator
  ninth_less = rw (← determinant_less, ← numerator_more, ← cubed_before (r 2) (r 3) (r 4))
      (split (cube (cube (r 2))) (cube (cube (r 3))) (cube (r 3)) (cube (r 4)) (determinant (r 4) (r 5) (r 0)) (numerator (r 3) (r 4) (r 5) (r 0))
      (times (cube (determinant (r 3) (r 4) (r 5))) (r 4)))
    where
      split : (b₂ b₃ c₃ c₄ d n k : ℕ) → add (times 684 (add (times b₂ d) (add (times n c₃) k))) (times (minus 0 (times 684 (minus (times b₂ c₄) (times b₃ c₃)))) x)
          ≡ times 684 (add (times b₂ (add d (times (minus 0 c₄) x))) (add (times (add n (times b₃ x)) c₃) k))
      split b₂ b₃ c₃ c₄ d n k = simp ring

  pub determinant_at : (l : Affine) → l.constant ≡ determinant (r 4) (r 5) (r 0) → l.factor ≡ times 2 (cube (r 4)) → value_at l x ≡ determinant (r 4) (r 5) (minus (r 0) x)
  unfolding value_at
  determinant_at l c f = rw (c, f, two_times (cube (r 4))) determinant_less

  pub numerator_at : (l : Affine) → l.constant ≡ numerator (r 3) (r 4) (r 5) (r 0) → l.factor ≡ cube (cube (r 3))
      → value_at l x ≡ numerator (r 3) (r 4) (r 5) (minus (r 0) x)
  unfolding value_at
  numerator_at l c f = rw (c, f) numerator_more

  pub ninth_at : (l : Affine) → l.constant ≡ ninth_numerator r (r 0) → l.factor ≡ minus 0 (times 684 (cube (determinant (r 2) (r 3) (r 4))))
      → value_at l x ≡ ninth_numerator r (minus (r 0) x)
  unfolding value_at
  ninth_at l c f = rw (c, f) ninth_less

-- WHAT THE CODE COMPUTES FROM THEM
module _ (r : ℕ → ℕ) (s : Shared) (p : Prepared r s) (a x d : ℕ) (ex : x ≡ small a) (ed : d ≡ value_at s.determinant x) where
  pub ninth_by : (n v : ℕ) → n ≡ value_at s.ninth x → v ≡ times (inverse d) n → v ≡ ninth r (zeroth_error r a)
  unfolding ninth zeroth_error
  ninth_by n v en ev = rw (ev, en, ed, p.determinant x, p.ninth x, ex)

  pub inner_by : (f : ℕ)
      → f ≡ add s.first (times (cube s.inverse) (add (times (cube (cube s.fifth)) d) (times (value_at s.numerator x) (cube (minus s.zeroth x)))))
      → f ≡ inner_coefficient r (zeroth_error r a)
  unfolding inner_coefficient solved zeroth_error
  inner_by f e = rw (e, ed, p.first, p.inverse, inverse_cube, p.fifth, p.determinant x, p.numerator x, p.zeroth, ex)

pub proposed_is : (r : ℕ → ℕ) (a v f m₁ m₂ m₃ : ℕ) → v ≡ ninth r (zeroth_error r a) → f ≡ inner_coefficient r (zeroth_error r a)
    → m₁ ≡ low f → m₂ ≡ high f → m₃ ≡ low (cube v) → a ∷ m₁ ∷ m₂ ∷ m₃ ∷ [] ≡ proposed r a
unfolding proposed
proposed_is r a v f m₁ m₂ m₃ ev ef e₁ e₂ e₃ = cc

-- the proposals are messages
pub proposed_message : (r : ℕ → ℕ) (a : ℕ) → a < 27 → is_message 2 (proposed r a) ≡ true
unfolding is_message proposed
proposed_message r a h = passes 4 26 (proposed r a) refl (h, (low_below _, (high_below _, (low_below _, tt))))

-- AN ATTEMPT
module _ (c : List ℕ) (a v : ℕ) (e : v ≡ ninth (spectrum c) (zeroth_error (spectrum c) a)) where
  pub attempt_none : high v ≢ 0 → attempt c a ≡ none
  unfolding attempt
  attempt_none n = rw (← e, ne_eqb (high v) 0 n)

  pub attempt_some : high v ≡ 0 → attempt c a ≡ if_near 2 c (proposed (spectrum c) a)
  unfolding attempt
  attempt_some z = rw (← e, eq-eqb (high v) 0 z)

-- THE ANSWER: where the determinant is 0, and after each attempt
module _ (c : List ℕ) (card : is_card c ≡ true) (r : List ℕ) (e : r ≡ table 6 (spectrum c)) (d : ℕ) (ed : d ≡ determinant (at r 3) (at r 4) (at r 5)) where
  pub two_single : d ≡ 0 → if_rank_one 2 c (at r 4) ≡ decode 2 c
  unfolding decode_two
  two_single z = last_single c r e 2 ∙ sym (rw (determinant_none c r e d ed z)) ∙ two_is_decode c card

  module _ (n : d ≢ 0) where
    two_first : first_of 27 (attempt c) ≡ decode 2 c
    unfolding decode_two
    two_first = sym (rw (determinant_some c r e d ed n)) ∙ two_is_decode c card

    pub two_found : (a : ℕ) (m : List ℕ) → first_of a (attempt c) ≡ none → a < 27 → attempt c a ≡ some m → decode 2 c ≡ some m
    two_found a m f l h = sym two_first ∙ first_at (attempt c) m a 27 f l h

    pub two_none : (a : ℕ) → a ≤ 27 → 27 ≤ a → first_of a (attempt c) ≡ none → decode 2 c ≡ none
    two_none a u l f = sym two_first ∙ first_all (attempt c) a 27 u l f
