-- Errors of rank at most 1 are recognised from their spectrum: the card's less the chain of its last two coefficients has the shape of a word's
-- if the chain is the error. Then the message is read off it and checked against the card.
-- Main: residual, rank_one_fits, rank_one_message, if_rank_one, near_fits, near_message, rank_one_answers, determinant_answers.
use Rattle.std.specs.Prelude.{◌≡◌, refl, Bool, true, false, cond, List, ℕ, suc, ◌≤◌, ◌<◌, eqb}
use Rattle.std.proofs.Common.{sym, ◌∙◌, arith, eqb-true}
use Rattle.std.proofs.Math.Path.{ap}
use Rattle.std.proofs.Math.Option.{Option, none}
use Rattle.std.proofs.lemmas.Bool.{eqb-false}
use Rattle.algebra.specs.Field.{minus}
use Rattle.algebra.specs.Lists.{table}
use Rattle.algebra.specs.Sums.{Zero, minus_rest}
use Rattle.rank.specs.Definitions.{at, is_card}
use Rattle.coding.specs.Code.{Near}
use Rattle.coding.specs.Coefficients.{coefficients, read}
use Rattle.coding.specs.Spectrum.{spectrum}
use Rattle.coding.specs.WordSpectrum.{message_back}
use Rattle.coding.specs.Answers.{Answers, tested_answers}
use Rattle.coding.specs.Decode.{if_near, near_checks}
use Rattle.coding.specs.Errors.{errors, errors_beyond, given_back}
use Rattle.coding.specs.Window.{determinant, determinant_whole}
use Rattle.coding.specs.RankOne.{chain, Ratio, chained, near_ratio}
use Rattle.coding.specs.Clean.{shaped, message_shaped}

-- THE RESIDUAL of a spectrum: what it is less the error of rank at most 1 that has its last coefficient, and u before that
unfoldable pub residual : (r : ℕ → ℕ) → (u : ℕ) → ℕ → ℕ
residual r u i = minus (r i) (chain u (r 5) i)

-- whether it has the shape of a word's, and the message read off it
unfoldable pub rank_one_fits : (k : ℕ) → (r : ℕ → ℕ) → (u : ℕ) → Bool
rank_one_fits k r u = shaped k (residual r u)

unfoldable pub rank_one_message : (k : ℕ) → (r : ℕ → ℕ) → (u : ℕ) → List ℕ
rank_one_message k r u = read (table (suc k) (residual r u))

-- THE MESSAGE near a card whose error has rank at most 1, and u before its last coefficient
unfoldable pub if_rank_one : (k : ℕ) → (card : List ℕ) → (u : ℕ) → Option (List ℕ)
if_rank_one k c u = cond (rank_one_fits k (spectrum c) u) (if_near k c (rank_one_message k (spectrum c) u)) none

module _ (k : ℕ) (p : 1 ≤ k) (q : k ≤ 4) (c : List ℕ) (card : is_card c ≡ true) where
  five : k ≤ 5
  five = omega arith

  -- A NEAR MESSAGE with such an error is found
  module _ (m : List ℕ) (near : Near k c m) (R : Ratio (errors k c m)) (u : ℕ) (eu : u ≡ errors k c m 4) where
    entry : (i : ℕ) → i < 6 → residual (spectrum c) u i ≡ at (coefficients k m) i
    unfolding residual
    entry i l =
        rw (eu, ← errors_beyond k p five c card m 5 (omega arith)) (
        ap (minus (spectrum c i)) (chained (errors k c m) R i l) ∙ minus_rest (spectrum c i) (errors k c m i) ∙ given_back k p five c card m i)

    pub near_fits : rank_one_fits k (spectrum c) u ≡ true
    unfolding rank_one_fits
    near_fits = message_shaped k p five m _ entry

    pub near_message : rank_one_message k (spectrum c) u ≡ m
    unfolding rank_one_message
    near_message = message_back k p five m _ entry near.message

  -- so it is the answer, if every near message has such an error
  pub rank_one_answers : (u : ℕ) → ((m : List ℕ) → Near k c m → Ratio (errors k c m) × (u ≡ errors k c m 4)) → Answers (Near k c) (if_rank_one k c u)
  unfolding if_rank_one
  rank_one_answers u h = tested_answers (near_checks k c) _ _ (λ m near. let (R, eu) = h m near in (near_fits m near R u eu, near_message m near R u eu))

  -- FOR k = 1 AND 2 the determinant decides
  abbrev D : ℕ
  D = determinant (spectrum c 3) (spectrum c 4) (spectrum c 5)

  pub determinant_answers : k ≤ 2 → (o : Option (List ℕ)) → (¬ Zero D → Answers (Near k c) o) → Answers (Near k c) (cond (eqb D 0) (if_rank_one k c (spectrum c 4)) o)
  determinant_answers two o h = go (eqb D 0) refl
    where
      go : (b : Bool) → eqb D 0 ≡ b → Answers (Near k c) (cond b (if_rank_one k c (spectrum c 4)) o)
      go true e = rank_one_answers (spectrum c 4) (λ m near.
          (near_ratio k p two c card m near (eqb-true D 0 e), sym (errors_beyond k p five c card m 4 (omega arith))))
      go false e = h (λ z. eqb-false D 0 e (sym (determinant_whole _ _ _) ∙ z))
