-- A card each of whose samples falls to its digit's level is received as that card, and it is the only such card.
-- Main: Sent, sample_digit_below, received_is_card, received_sent, sent_once, received_card.
use Rattle.std.specs.Prelude.{◌≡◌, Bool, cond, List, ℕ, zero, suc, ◌<◌, length, ℤ, pos, negsuc}
use Rattle.std.proofs.Math.Path.{refl, sym, ap}
use Rattle.std.proofs.Common.{◌∙◌, arith}
use Rattle.std.proofs.Math.Bool.{true, false}
use Rattle.std.proofs.Math.Decide.{dec_lt}
use Rattle.std.proofs.Math.Seq.{ext_get_or}
use Rattle.std.specs.Int.Signed.{le_z}
use Rattle.algebra.specs.Lists.{length_table, at_table, all_at, all_table}
use Rattle.algebra.specs.Tests.{passed, passes}
use Rattle.algebra.specs.Digits.{digit, digit_below, by_digits, number_below, digit_number}
use Rattle.rank.specs.Definitions.{at, is_card}
use Rattle.rank.specs.Clearing.{digit_past}
use Rattle.levels.specs.Levels.{level, level_digit, sample_level, sample_digit, sample_at, received_symbol, received}

-- A CARD SENT: 36 samples, each of which falls to the level of its digit
pub record Sent (c : List ℕ) (samples : List ℤ) : Type 0 where
  pub long : length samples ≡ 36
  pub falls : (j i : ℕ) → j < 6 → i < 6 → sample_level (sample_at samples j i) ≡ level (digit (at c j) i)

-- A DIGIT is that of its level, so digits with the same level are equal
level_back : (d : ℕ) → d < 3 → level_digit (level d) ≡ d
unfolding level level_digit
level_back zero h = refl
level_back (suc zero) h = refl
level_back (suc (suc zero)) h = refl
level_back (suc (suc (suc d))) h = absurd (omega arith)

level_once : (d e : ℕ) → d < 3 → e < 3 → level d ≡ level e → d ≡ e
level_once d e p q h = sym (level_back d p) ∙ ap level_digit h ∙ level_back e q

-- THE DIGIT OF A SAMPLE is a digit, and has the sample's level
module _ (s : ℤ) where
  fallen : (P : ℤ → Type 0) → P (pos 1) → P (negsuc 0) → P (pos 0) → P (sample_level s)
  unfolding sample_level
  fallen P plus minus rest = go (le_z (pos 8192) s) (le_z s (negsuc 8191))
    where
      go : (a b : Bool) → P (cond a (pos 1) (cond b (negsuc 0) (pos 0)))
      go true b = plus
      go false true = minus
      go false false = rest

  pub sample_digit_below : sample_digit s < 3
  unfolding sample_digit level_digit
  sample_digit_below = fallen (λ z. level_digit z < 3) (omega arith) (omega arith) (omega arith)

  sample_digit_level : level (sample_digit s) ≡ sample_level s
  unfolding sample_digit level_digit level
  sample_digit_level = fallen (λ z. level (level_digit z) ≡ z) refl refl refl

-- symbols with the same six digits are equal
same_symbol : {v w : ℕ} → v < 729 → w < 729 → ((i : ℕ) → i < 6 → digit v i ≡ digit w i) → v ≡ w
same_symbol {v} {w} p q e =
    by_digits p q (λ i. elim (dec_lt i 6) [ yes l ↦ e i l | no n ↦ digit_past v i (omega arith) ∙ sym (digit_past w i (omega arith)) ])

-- the digits of a received card are those of its samples
module _ (samples : List ℤ) where
  received_digit : (j i : ℕ) → j < 6 → i < 6 → digit (at (received samples) j) i ≡ sample_digit (sample_at samples j i)
  unfolding received received_symbol at
  received_digit j i h l =
      ap (λ (v : ℕ). digit v i) (at_table 6 (received_symbol samples) j h)
      ∙ digit_number (λ i. sample_digit (sample_at samples j i)) (λ i. sample_digit_below (sample_at samples j i)) i l

  -- it is a card, and its samples fall to its digits' levels
  pub received_is_card : is_card (received samples) ≡ true
  unfolding is_card received received_symbol
  received_is_card = passes 6 728 (received samples) (length_table 6 _) (all_table (λ x. x < 729) 6 _ (λ j. number_below _))

  pub received_sent : length samples ≡ 36 → Sent (received samples) samples
  received_sent e = record {
    long = e;
    falls = λ j i h l. sym (ap level (received_digit j i h l) ∙ sample_digit_level (sample_at samples j i));
  }

  -- THE ONLY CARD that they fall to, which is the card received
  pub sent_once : (c d : List ℕ) → is_card c ≡ true → is_card d ≡ true → Sent c samples → Sent d samples → c ≡ d
  unfolding is_card at
  sent_once c d p q s t =
      let (m, f) = passed 6 728 c p in
      let (n, g) = passed 6 728 d q in
      let same : (j i : ℕ) → j < 6 → i < 6 → digit (at c j) i ≡ digit (at d j) i = λ j i h l.
      level_once _ _ (digit_below (at c j) i) (digit_below (at d j) i) (sym (s.falls j i h l) ∙ t.falls j i h l) in
      ext_get_or 0 c d (m ∙ sym n)
      (λ j h. same_symbol (all_at (λ x. x < 729) 0 c f j h) (all_at (λ x. x < 729) 0 d g j (omega arith)) (λ i l. same j i (omega arith) l))

  pub received_card : (c : List ℕ) → is_card c ≡ true → Sent c samples → received samples ≡ c
  received_card c p s = sent_once (received samples) c received_is_card p (received_sent s.long) s
