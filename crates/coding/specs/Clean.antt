-- Cards without damage: a test of the spectrum tells whether a card is a word, and then its message is read off. For k = 5, where no damage can
-- be undone, that is all of decoding.
-- Main: word_decode, none_from, shaped, message_shaped, shaped_is_word, unshaped_five.
use Rattle.std.specs.Prelude.{◌≡◌, refl, Bool, true, false, ◌&&◌, List, ℕ, zero, suc, ◌+◌, ◌*◌, ◌-◌, ◌≤◌, ◌<◌, eqb}
use Rattle.std.proofs.Common.{sym, ap, ◌∙◌, true≢false, arith, lit≤, eqb-true, eq-eqb}
use Rattle.std.proofs.Math.Option.{none, some}
use Rattle.std.proofs.Math.Decide.{ℕ_discrete}
use Rattle.std.proofs.Math.ListN.{get_or-eq_default}
use Rattle.algebra.specs.Field.{small}
use Rattle.algebra.specs.Linear.{at_zero}
use Rattle.algebra.specs.Tests.{both}
use Rattle.algebra.specs.SmallField.{low, high}
use Rattle.algebra.proofs.SmallField.{small_linear, high_small, low_gamma}
use Rattle.rank.specs.Definitions.{at, is_card}
use Rattle.rank.specs.Distance.{apart_self, apart_zero}
use Rattle.coding.specs.Code.{word, is_message, radius}
use Rattle.coding.specs.Coefficients.{coefficients, length_coefficients, word_card}
use Rattle.coding.specs.Spectrum.{spectrum}
use Rattle.coding.specs.WordSpectrum.{Shape, message_of, at_last, word_spectrum, shaped_word}
use Rattle.coding.specs.Decode.{decode}
use Rattle.coding.specs.Proved.{decoded, decode_none}

-- A WORD is decoded to its message
pub word_decode : (k : ℕ) → 1 ≤ k → k ≤ 5 → (c : List ℕ) → is_card c ≡ true → (m : List ℕ) → is_message k m ≡ true → word k m ≡ c → decode k c ≡ some m
word_decode k p q c card m u e = (decoded k p q c card m).1 (record { message = u; within = rw (e, apart_self c) (omega arith) })

-- THE TEST of a spectrum: no symbol from number i on, and the shape of a word's
unfoldable pub none_from : (left i : ℕ) → (r : ℕ → ℕ) → Bool
none_from zero i r = true
none_from (suc n) i r = eqb (r i) 0 && none_from n (suc i) r

unfoldable pub shaped : (k : ℕ) → (r : ℕ → ℕ) → Bool
shaped k r = none_from (5 - k) (suc k) r && (eqb (high (r 0)) 0 && eqb (low (r k)) 0)

none_at : (n i : ℕ) (r : ℕ → ℕ) → none_from n i r ≡ true → (j : ℕ) → i ≤ j → j < i + n → r j ≡ 0
unfolding none_from
none_at zero i r h j p q = absurd (omega arith)
none_at (suc n) i r h j p q =
    let (a, b) = both (eqb (r i) 0) _ h in
    elim (ℕ_discrete i j) [ yes e ↦ rw (← e) (eqb-true (r i) 0 a) | no d ↦ none_at n (suc i) r b j (omega arith) (omega arith) ]

none_all : (n i : ℕ) (r : ℕ → ℕ) → ((j : ℕ) → i ≤ j → j < i + n → r j ≡ 0) → none_from n i r ≡ true
unfolding none_from
none_all zero i r h = refl
none_all (suc n) i r h = rw (eq-eqb (r i) 0 (h i (omega arith) (omega arith)), none_all n (suc i) r (λ j p q. h j (omega arith) (omega arith)))

-- what coefficients that pass are, and that those of a message pass
shaped_parts : (k : ℕ) (r : ℕ → ℕ) → shaped k r ≡ true → (high (r 0) ≡ 0) × (low (r k) ≡ 0) × ((i : ℕ) → k < i → i < 6 → r i ≡ 0)
unfolding shaped
shaped_parts k r h =
    let (n, t) = both (none_from (5 - k) (suc k) r) _ h in
    let (a, b) = both (eqb (high (r 0)) 0) _ t in
    (eqb-true (high (r 0)) 0 a, eqb-true (low (r k)) 0 b, λ i l u. none_at (5 - k) (suc k) r n i l (omega arith))

pub message_shaped : (k : ℕ) → 1 ≤ k → k ≤ 5 → (m : List ℕ) (r : ℕ → ℕ) → ((i : ℕ) → i < 6 → r i ≡ at (coefficients k m) i) → shaped k r ≡ true
unfolding shaped coefficients at
message_shaped k p q m r h = rw (
  eq-eqb (high (r 0)) 0 (ap high (h 0 (omega arith)) ∙ high_small (at m 0)),
  eq-eqb (low (r k)) 0 (ap low (h k (omega arith) ∙ at_last k p q m) ∙ low_gamma (at m (2 * k - 1))),
  none_all (5 - k) (suc k) r (λ i l u. h i (omega arith) ∙ get_or-eq_default (coefficients k m) 0 {n = i} (omega (arith, length_coefficients k p m))),
)

module _ (k : ℕ) (p : 1 ≤ k) (q : k ≤ 5) (c : List ℕ) (card : is_card c ≡ true) (h : shaped k (spectrum c) ≡ true) where
  shape : Shape k c
  shape =
      let (a, b, n) = shaped_parts k (spectrum c) h in
      record { small_first = ap small a ∙ at_zero small_linear; gamma_last = ap small b ∙ at_zero small_linear; none_beyond = n }

  -- A CARD THAT PASSES is the word of the message read off it
  pub shaped_is_word : word k (message_of k c) ≡ c
  shaped_is_word = shaped_word k p q c card shape

-- A CARD THAT DOES NOT is none: for k = 5, where the radius is 0, none is near
pub unshaped_five : (c : List ℕ) → is_card c ≡ true → shaped 5 (spectrum c) ≡ false → decode 5 c ≡ none
unfolding radius
unshaped_five c card h = (decode_none 5 c).1 (λ m near.
    let e : word 5 m ≡ c = apart_zero (word 5 m) c (word_card 5 (lit≤ tt) m) card (omega (arith, near.within)) in
    true≢false (sym (message_shaped 5 (lit≤ tt) (lit≤ tt) m (spectrum c) (λ i l. ap (λ (d : List ℕ). spectrum d i) (sym e) ∙ word_spectrum 5 (lit≤ tt) (lit≤ tt) m i l)) ∙ h))
