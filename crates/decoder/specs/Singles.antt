-- Errors of rank at most 1 as the code goes: the residual of a card's spectrum, and what is found by it; for k = 3 and 4 the answers.
-- Main: residual_of, unfit, fit, last_single, three_single, four_some, four_none.
use Rattle.std.specs.Prelude.{◌≡◌, refl, ◌≢◌, Bool, true, false, ◌&&◌, List, ℕ, suc, ◌≤◌, length}
use Rattle.std.proofs.Common.{sym, ◌∙◌, arith, lit<}
use Rattle.std.proofs.Math.Path.{ap, ap₂}
use Rattle.std.proofs.Math.Option.{none}
use borrow.Author.Tests.{ne_eqb}
use Rattle.algebra.specs.Field.{minus, times, small, gamma}
use Rattle.algebra.specs.Lists.{table}
use Rattle.algebra.specs.SmallField.{high}
use Rattle.rank.specs.Definitions.{at, is_card, difference}
use Rattle.rank.specs.Arrays.{six}
use Rattle.coding.specs.Coefficients.{read}
use Rattle.coding.specs.Spectrum.{spectrum}
use Rattle.coding.specs.RankOne.{next_error, chain}
use Rattle.coding.specs.Clean.{none_from, shaped}
use Rattle.coding.specs.Residual.{residual, rank_one_fits, rank_one_message, if_rank_one}
use Rattle.coding.specs.Decode.{if_near, decode}
use Rattle.coding.specs.DecodeSingle.{decode_three, three_is_decode, last_error, attempt_four}
use Rattle.candidate.specs.Places.{entry_is, read_is, shaped_is}

unless_both : (b : Bool) → (b && false) ≡ false
unless_both true = refl
unless_both false = refl

-- the residual of an array of six
pub residual_of : (r e : List ℕ) (u : ℕ) → length r ≡ 6 → e ≡ table 6 (chain u (at r 5)) → difference r e ≡ table 6 (residual (at r) u)
unfolding difference residual table at
residual_of r e u l ee = rw ee (ap (λ (x : List ℕ). difference x (table 6 (chain u (at r 5)))) (sym (six r l)))

module _ (c r : List ℕ) (er : r ≡ table 6 (spectrum c)) where
  -- THE RESIDUAL of a card's spectrum, with u before its last coefficient
  module _ (u : ℕ) (f : List ℕ) (ef : f ≡ table 6 (residual (at r) u)) where
    residual_is : f ≡ table 6 (residual (spectrum c) u)
    unfolding residual table at
    residual_is = rw (ef, er)

    -- is a word's, or not
    module _ (k : ℕ) (q : k ≤ 4) where
      shape : shaped k (at f) ≡ rank_one_fits k (spectrum c) u
      unfolding rank_one_fits
      shape = shaped_is (residual (spectrum c) u) f residual_is k (omega arith)

      pub unfit : shaped k (at f) ≡ false → if_rank_one k c u ≡ none
      unfolding if_rank_one
      unfit h = rw (sym shape ∙ h)

      pub fit : shaped k (at f) ≡ true → if_near k c (read (table (suc k) (at f))) ≡ if_rank_one k c u
      unfolding if_rank_one rank_one_message
      fit h = rw (sym shape ∙ h, read_is (residual (spectrum c) u) f residual_is k (omega arith))

  -- the card's own coefficient before the last, and so k = 3
  pub last_single : (k : ℕ) → if_rank_one k c (at r 4) ≡ if_rank_one k c (spectrum c 4)
  last_single k = ap (if_rank_one k c) (entry_is (spectrum c) r er 4 (lit< tt))

  pub three_single : is_card c ≡ true → if_rank_one 3 c (at r 4) ≡ decode 3 c
  unfolding decode_three
  three_single card = last_single 3 ∙ three_is_decode c card

  -- k = 4: an attempt with last number d, which the first coefficient can refuse
  module _ (d u : ℕ) (eu : u ≡ last_error (at r) d) where
    last_is : u ≡ last_error (spectrum c) d
    unfolding last_error
    last_is = eu ∙ ap (λ (x : ℕ). minus x (times gamma (small d))) (entry_is (spectrum c) r er 4 (lit< tt))

    pub four_some : if_rank_one 4 c u ≡ attempt_four c d
    unfolding attempt_four
    four_some = ap (if_rank_one 4 c) last_is

    pub four_none : (f : ℕ) → f ≡ minus (at r 0) (next_error u (at r 5) (at r 5)) → high f ≢ 0 → attempt_four c d ≡ none
    unfolding attempt_four if_rank_one rank_one_fits residual shaped chain
    four_none f ef n =
        let first = ef ∙ ap₂ (λ (x y : ℕ). minus x (next_error u y y)) (entry_is (spectrum c) r er 0 (lit< tt)) (entry_is (spectrum c) r er 5 (lit< tt)) in
        rw (← last_is, ← first, ne_eqb (high f) 0 n, unless_both (none_from 1 5 (residual (spectrum c) u)))
