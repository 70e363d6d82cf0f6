-- The spectra of words: a word's spectrum is the coefficients of its message, so it gives the message back; and a card whose spectrum has
-- the shape of a word's is the word of the message read off it.
-- Main: word_shaped, message_back, message_of_word, is_message_of, shaped_word.
use Rattle.std.specs.Prelude.{◌≡◌, refl, true, ℕ, suc, ◌*◌, ◌-◌, ◌≤◌, ◌<◌}
use Rattle.std.proofs.Math.Path.{sym, ap}
use Rattle.std.proofs.Common.{◌∙◌, arith}
use mathlib.Core.List.{List}
use Rattle.std.proofs.Math.Decide.{dec_le}
use Rattle.std.proofs.Math.ListN.{get_or-eq_default}
use Rattle.algebra.specs.Field.{times, small, gamma}
use Rattle.rank.specs.Definitions.{at, is_card}
use Rattle.coding.specs.Code.{word, is_message}
use Rattle.algebra.specs.Lists.{table, table_same, table_at, length_table, at_table}
use Rattle.algebra.specs.Tests.{one_to_five}
use Rattle.algebra.specs.Linear.{at_zero, images}
use Rattle.algebra.specs.SmallField.{low, high}
use Rattle.algebra.proofs.SmallField.{small_linear, high_small, low_gamma, pair_low_high, only_low, only_high}
use Rattle.algebra.specs.Polynomials.{ev}
use Rattle.coding.specs.Coefficients.{inners, higher, coefficients, length_coefficients, coefficients_below, word_images, read, read_coefficients, is_message_read, coefficients_read}
use Rattle.coding.specs.Spectrum.{spectrum, spectrum_whole, spectrum_images, images_spectrum}
use Rattle.coding.specs.Cards.{at_whole}

-- THE SHAPE of a word's spectrum: R(0) is small, R(k) is gamma times a small symbol, and R(i) is 0 from there on
pub record Shape (k : ℕ) (c : List ℕ) : Type 0 where
  pub small_first : small (high (spectrum c 0)) ≡ 0
  pub gamma_last : small (low (spectrum c k)) ≡ 0
  pub none_beyond : (i : ℕ) → k < i → i < 6 → spectrum c i ≡ 0

-- THE MESSAGE read off a card's spectrum
unfoldable pub message_of : (k : ℕ) → (card : List ℕ) → List ℕ
message_of k c = read (table (suc k) (spectrum c))

pub at_last : (k : ℕ) → 1 ≤ k → k ≤ 5 → (m : List ℕ) → at (coefficients k m) k ≡ times gamma (small (at m (2 * k - 1)))
unfolding at coefficients higher inners
at_last = one_to_five _ (λ m. refl) (λ m. refl) (λ m. refl) (λ m. refl) (λ m. refl)

module _ (k : ℕ) (p : 1 ≤ k) (q : k ≤ 5) where
  pub word_spectrum : (m : List ℕ) (i : ℕ) → i < 6 → spectrum (word k m) i ≡ at (coefficients k m) i
  word_spectrum m i h =
      ap (λ (c : List ℕ). spectrum c i) (word_images k p m)
      ∙ spectrum_images (coefficients k m) (omega (arith, length_coefficients k p m)) i h
      ∙ at_whole (coefficients k m) (coefficients_below k m) i

  pub word_shaped : (m : List ℕ) → Shape k (word k m)
  unfolding at coefficients
  word_shaped m = record {
    small_first = ap (λ (x : ℕ). small (high x)) (word_spectrum m 0 (omega arith)) ∙ ap small (high_small (at m 0)) ∙ at_zero small_linear;
    gamma_last =
        ap (λ (x : ℕ). small (low x)) (word_spectrum m k (omega arith) ∙ at_last k p q m)
        ∙ ap small (low_gamma (at m (2 * k - 1)))
        ∙ at_zero small_linear;
    none_beyond = λ i b l. word_spectrum m i l ∙ get_or-eq_default (coefficients k m) 0 {n = i} (omega (arith, length_coefficients k p m));
  }

  -- coefficients of a message give it back, and so does its word
  pub message_back : (m : List ℕ) (f : ℕ → ℕ) → ((i : ℕ) → i < 6 → f i ≡ at (coefficients k m) i) → is_message k m ≡ true → read (table (suc k) f) ≡ m
  unfolding at
  message_back m f h u =
      ap read (table_same (suc k) f (at (coefficients k m)) (λ i l. h i (omega arith)) ∙ rw (← length_coefficients k p m) (table_at (coefficients k m)))
      ∙ read_coefficients k p q m u

  pub message_of_word : (m : List ℕ) → is_message k m ≡ true → message_of k (word k m) ≡ m
  unfolding message_of
  message_of_word m u = message_back m (spectrum (word k m)) (word_spectrum m) u

  pub is_message_of : (c : List ℕ) → is_message k (message_of k c) ≡ true
  unfolding message_of
  is_message_of c = is_message_read k p (table (suc k) (spectrum c)) (length_table (suc k) (spectrum c))

  -- A CARD OF THE SHAPE is the word of the message read off it
  pub shaped_word : (c : List ℕ) → is_card c ≡ true → Shape k c → word k (message_of k c) ≡ c
  unfolding message_of at
  shaped_word c card s =
      word_images k p (message_of k c)
      ∙ ap (λ (gs : List ℕ). images (ev gs)) (coefficients_read k p q (spectrum c)
      (λ i. pair_low_high (spectrum c i) ∙ spectrum_whole c i)
      (only_low (spectrum c 0) s.small_first ∙ spectrum_whole c 0)
      (only_high (spectrum c k) s.gamma_last ∙ spectrum_whole c k))
      ∙ images_spectrum c (table (suc k) (spectrum c)) card (omega (arith, length_table (suc k) (spectrum c))) (λ i h. entry i h (dec_le (suc k) i))
    where
      entry : (i : ℕ) → i < 6 → Dec (suc k ≤ i) → at (table (suc k) (spectrum c)) i ≡ spectrum c i
      entry i h (yes l) =
          get_or-eq_default (table (suc k) (spectrum c)) 0 {n = i} (omega (arith, length_table (suc k) (spectrum c)))
          ∙ sym (s.none_beyond i (omega arith) h)
      entry i h (no l) = at_table (suc k) (spectrum c) i (omega arith)
