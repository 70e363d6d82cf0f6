-- What a message hides of an error, steps made: from the number of its last coefficient on the error is the card's, and the card's less the error is
-- the message's, from which the message comes back.
-- Main: less_top, message_unstepped, known, known_top, hidden, hidden_top.
use Rattle.std.specs.Prelude.{◌≡◌, refl, true, cond, List, ℕ, suc, ◌+◌, ◌*◌, ◌-◌, ◌%◌, ◌≤◌, ◌<◌, eqb, length}
use Rattle.std.proofs.Common.{sym, ◌∙◌}
use Rattle.std.proofs.Math.Path.{ap}
use Rattle.std.proofs.Math.Decide.{ℕ_discrete}
use native.Mathlib.Omega.{arith}
use Rattle.std.proofs.Math.ListN.{get_or-eq_default}
use borrow.Author.Tests.{eq-eqb, ne_eqb}
use Rattle.algebra.specs.Field.{add, minus, times, small, gamma}
use Rattle.algebra.specs.Lists.{All, table, table_same, table_at}
use Rattle.algebra.specs.Digits.{add_zero}
use Rattle.algebra.specs.Sums.{minus_zero}
use Rattle.algebra.specs.Products.{ring, times_whole}
use Rattle.rank.specs.Definitions.{at}
use Rattle.coding.specs.Code.{is_message}
use Rattle.coding.specs.Coefficients.{coefficients, length_coefficients, coefficients_below, read, read_coefficients}
use Rattle.coding.specs.Cards.{at_whole}
use Rattle.coding.specs.Spectrum.{spectrum, spectrum_whole}
use Rattle.coding.specs.WordSpectrum.{at_last}
use Rattle.coding.specs.Errors.{errors, taken_back}
use Rattle.dead_lines.specs.Steps.{Step, Whole, Alike, Upto, line_stepped, stepped_minus, stepped_whole, stepped_on, stepped_on_whole, unstepped, unstepped_is, Invertible, past, Stepped, stepped_stepped, raised_all}

-- coefficients less t at number n, which stands in the place of number 0 if it is 6
unfoldable pub less_top : (n t : ℕ) → (ℕ → ℕ) → ℕ → ℕ
less_top n t h i = cond (eqb i (n % 6)) (minus (h i) t) (h i)

module _ (ss : List Step) (k : ℕ) (p : 1 ≤ k) (q : k ≤ 5) (m : List ℕ) where
  abbrev g : ℕ → ℕ
  g = at (coefficients k m)

  -- the message's coefficients, steps made
  abbrev x : ℕ → ℕ
  x = stepped_on ss g

  g_whole : Whole g
  g_whole i = at_whole (coefficients k m) (coefficients_below k m) i

  g_ends : (i : ℕ) → k < i → g i ≡ 0
  unfolding at
  g_ends i b = get_or-eq_default (coefficients k m) 0 {n = i} (omega (arith, length_coefficients k p m))

  pub x_whole : Whole x
  x_whole = stepped_on_whole ss g g_whole

  -- THE MESSAGE BACK from its coefficients, steps made
  pub message_unstepped : All Invertible ss → is_message k m ≡ true → (f : ℕ → ℕ) → Upto k f x → read (table (suc k) (unstepped ss f)) ≡ m
  unfolding at
  message_unstepped u w f e =
      ap read (table_same (suc k) _ g (λ i l. unstepped_is ss g f k u g_whole e i (omega arith)) ∙ rw (← length_coefficients k p m) (table_at (coefficients k m)))
      ∙ read_coefficients k p q m w

  -- its first coefficient
  pub first_small : All Invertible ss → (f : ℕ → ℕ) → Upto k f x → unstepped ss f 0 ≡ small (at m 0)
  unfolding coefficients at
  first_small u f e = unstepped_is ss g f k u g_whole e 0 (omega arith)

  -- their last one is t, number n; h are the card's
  module _ (c : List ℕ) (h : ℕ → ℕ) (eh : Alike h (line_stepped ss (spectrum c))) (n t : ℕ) (en : k + length ss ≡ n) (et : raised_all ss (times gamma (small (at m (2 * k - 1)))) ≡ t) (l : n ≤ 6) where
    S : Stepped n t x (line_stepped ss g)
    S = rw (← en, ← et) (stepped_stepped ss k _ g g (omega arith) (times_whole gamma _) (record {
      top = at_last k p q m;
      ends = g_ends;
      circle = λ i b. sym (ap (add (g i)) (g_ends (past i) (omega arith)) ∙ add_zero (g i) ∙ g_whole i);
    }))

    abbrev e : ℕ → ℕ
    e = line_stepped ss (errors k c m)

    pub h_whole : (i : ℕ) → i < 6 → h i % 729 ≡ h i
    h_whole i b = rw (eh i b) (stepped_whole ss (spectrum c) (spectrum_whole c) i)

    error_is : (i : ℕ) → i < 6 → e i ≡ minus (h i) (line_stepped ss g i)
    unfolding errors
    error_is i b = stepped_minus ss (spectrum c) g i ∙ ap (λ (v : ℕ). minus v (line_stepped ss g i)) (sym (eh i b))

    plain : (i : ℕ) → i < 6 → n < past i → line_stepped ss g i ≡ x i
    plain i b d = S.circle i b ∙ ap (add (x i)) (S.ends (past i) d) ∙ add_zero (x i) ∙ x_whole i

    -- WHAT IS KNOWN of the error
    pub known : (i : ℕ) → i < 6 → n < i → e i ≡ h i
    known i b d = error_is i b ∙ ap (minus (h i)) (plain i b (omega arith) ∙ S.ends i d) ∙ minus_zero (h i) ∙ h_whole i b

    pub known_top : (i : ℕ) → i < 6 → n ≤ i → e i ≡ less_top n t h i
    unfolding less_top
    known_top i b d = elim (ℕ_discrete i n) [
      | yes z ↦ (let w : n % 6 ≡ i = omega arith in rw (w, eq-eqb i i refl) (error_is i b ∙ ap (minus (h i)) (plain i b (omega arith) ∙ ap x z ∙ S.top)))
      | no z ↦ rw (ne_eqb i (n % 6) (λ w. z (omega arith))) (known i b (omega arith))
    ]

    -- AND WHAT IS NOT
    shown : (i : ℕ) → i < 6 → n < past i → minus (h i) (e i) ≡ x i
    shown i b d = ap (minus (h i)) (error_is i b) ∙ taken_back (h i) _ ∙ ap (λ (y : ℕ). y % 729) (plain i b d) ∙ x_whole i

    pub hidden : n ≤ 5 → (i : ℕ) → i ≤ k → minus (h i) (e i) ≡ x i
    hidden d i b = shown i (omega arith) (omega arith)

    pub hidden_top : k < n → (i : ℕ) → i ≤ k → minus (less_top n t h i) (e i) ≡ x i
    unfolding less_top
    hidden_top d i b = elim (ℕ_discrete i (n % 6)) [
      | yes z ↦ (
          let w : past i ≡ n = omega arith in
          rw (eq-eqb i (n % 6) z) (ap (minus (minus (h i) t)) (error_is i (omega arith) ∙ ap (minus (h i)) (S.circle i (omega arith) ∙ ap (add (x i)) (ap x w ∙ S.top)))
          ∙ taken (h i) (x i) t ∙ x_whole i))
      | no z ↦ rw (ne_eqb i (n % 6) z) (shown i (omega arith) (omega arith))
    ]
      where
        taken : (y a t : ℕ) → minus (minus y t) (minus y (add a t)) ≡ a % 729
        taken y a t = simp ring
