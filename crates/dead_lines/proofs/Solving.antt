-- Decoding with dead lines by algebra: what is run where a line is dead, and that it is decode_dead. All steps made, the problem for k with r dead
-- rows and s dead columns is that for n = k + r + s with none: the error's rank is at most (6 - n)/2. For even n one coefficient more is needed
-- than the card shows, and the message's last symbol, which is small, gives it: 27 are tried.
-- Main: solve_is_decode.
use Rattle.std.specs.Prelude.{◌≡◌, Bool}
use Rattle.std.proofs.Math.Path.{refl, sym, ap}
use Rattle.std.proofs.Common.{◌∙◌, mod-eq_of_lt, arith, lit≤, lit<}
use Rattle.std.proofs.Math.Bool.{true, false, cond}
use mathlib.Core.List.{List, [], ◌∷◌}
use Prim.Native.Nat.{ℕ, zero, suc, ◌+◌, ◌*◌, ◌-◌, ◌/◌, ◌%◌, ◌≤◌, ◌<◌}
use Rattle.std.proofs.Math.Dec.{eqb}
use Rattle.std.proofs.Math.ListN.{length}
use borrow.Author.Tests.{eqb-true, eqb-false, eq-eqb}
use Rattle.algebra.specs.Field.{minus, times, cube, risen, small, gamma}
use Rattle.algebra.specs.Lists.{all_at, table}
use Rattle.algebra.specs.Tests.{passed}
use Rattle.algebra.specs.Sums.{Zero, add_whole, minus_rest, minus_zero}
use Rattle.algebra.specs.Combinations.{combine, Span}
use Rattle.algebra.specs.Linear.{images, agree, composed, computing}
use Rattle.algebra.specs.Products.{cube_linear, times_rest, risen_times, risen_plus, risen_six}
use Rattle.algebra.specs.SmallField.{low, high}
use Rattle.algebra.proofs.SmallField.{small_linear, low_linear, low_below, high_small}
use Rattle.algebra.specs.Polynomials.{ev}
use Rattle.algebra.proofs.Polynomials.{ev_linear}
use Rattle.rank.specs.Definitions.{at, is_card, rank}
use Rattle.rank.specs.Echelon.{rank_echelon}
use Rattle.coding.specs.Code.{is_message}
use Rattle.coding.specs.Coefficients.{coefficients, read}
use Rattle.coding.specs.Options.{first_of}
use Rattle.coding.specs.Answers.{Answers, proposal_answers, proposals_answer}
use Rattle.coding.specs.Spectrum.{spectrum}
use Rattle.coding.specs.Errors.{errors, taken_back}
use Rattle.coding.specs.Annihilator.{Annihilated, annihilated, value_spanned, none_everywhere}
use Rattle.coding.specs.Window.{determinant, determinant_whole}
use Rattle.coding.specs.RankOne.{Ratio, ratio, ratio_of_determinant, chain_none, chained}
use Rattle.coding.specs.Residual.{residual}
use Rattle.coding.specs.DecodeOne.{zeroth, first, zeroth_is, first_is}
use Rattle.dead_lines.specs.Struck.{dead_lines, NearDead}
use Rattle.dead_lines.specs.DecodeDead.{decode_dead, near_dead_checks, answered_dead}
use Rattle.dead_lines.specs.Steps.{Alike, Upto, line_stepped, stepped_whole, stepped_on, unstepped, raised_all}
use Rattle.dead_lines.specs.Multipliers.{steps}
use Rattle.dead_lines.proofs.Multipliers.{steps_length, steps_invertible, raised_steps}
use Rattle.dead_lines.proofs.ErrorRank.{stepped_rank}
use Rattle.dead_lines.specs.Hidden.{less_top, x_whole, h_whole, message_unstepped, first_small, known, known_top, hidden, hidden_top}
use Rattle.dead_lines.specs.Solving.{solution, last_term, tried, proposal, attempt_dead, lower_rank, solve}

-- SMALL SYMBOLS raised are small
unfoldable raised_number : (i d : ℕ) → ℕ
raised_number zero d = d
raised_number (suc i) d = low (cube (small (raised_number i d)))

small_cube : (d : ℕ) → small (low (cube (small d))) ≡ cube (small d)
unfolding computing low
small_cube = agree (composed small_linear (composed low_linear (composed cube_linear small_linear))) (composed cube_linear small_linear) refl

raised_small : (i d : ℕ) → small (raised_number i d) ≡ risen i (small d)
unfolding raised_number risen
raised_small zero d = refl
raised_small (suc i) d = small_cube (raised_number i d) ∙ ap cube (raised_small i d)

raised_below : (i d : ℕ) → d < 27 → raised_number i d < 27
unfolding raised_number
raised_below zero d h = h
raised_below (suc i) d h = low_below _

-- the try that a message with last number d is found in
unfoldable try_of : (n r d : ℕ) → ℕ
try_of n r d = raised_number (6 - n / 2 + r) d

last_term_is : (n r d : ℕ) → n ≤ 6 → last_term n r (try_of n r d) ≡ risen r (times gamma (small d))
unfolding last_term try_of
last_term_is n r d l =
    let e : n / 2 + (6 - n / 2 + r) ≡ 6 + r = omega arith in
    ap (times (risen r gamma)) (ap (risen (n / 2)) (raised_small (6 - n / 2 + r) d) ∙ sym (risen_plus (n / 2) (6 - n / 2 + r) (small d)) ∙ rw e (risen_plus 6 r (small d) ∙ risen_six _))
    ∙ times_rest (risen r gamma) (risen r (small d))
    ∙ sym (risen_times r gamma (small d))

-- THE ANSWER: a near message, with its error all steps made
module _ (ρ σ : ℕ) (hρ : ρ < 64) (hσ : σ < 64) (k : ℕ) (p : 1 ≤ k) (q : k ≤ 5) (c : List ℕ) (card : is_card c ≡ true) (h : ℕ → ℕ) (eh : Alike h (line_stepped (steps ρ σ) (spectrum c)))
    (n : ℕ) (en : k + dead_lines ρ + dead_lines σ ≡ n) where
  count : k + length (steps ρ σ) ≡ n
  count = omega (arith, steps_length ρ σ)

  module _ (m : List ℕ) (near : NearDead k ρ σ c m) where
    abbrev e : ℕ → ℕ
    e = line_stepped (steps ρ σ) (errors k c m)

    abbrev x : ℕ → ℕ
    x = stepped_on (steps ρ σ) (at (coefficients k m))

    few : 2 * rank (images (ev (table 6 e))) + n ≤ 6
    few = omega (arith, near.within, stepped_rank ρ σ hρ hσ k p q c card m)

    -- RANK 0
    none_left : 5 ≤ n → (i : ℕ) → i < 6 → Zero (e i)
    unfolding combine
    none_left l = none_everywhere e (λ y. sym (mod-eq_of_lt ((ev_linear (table 6 e)).below y)) ∙ go (rank_echelon (images (ev (table 6 e)))).by (omega (arith, few, (rank_echelon (images (ev (table 6 e)))).count)) (value_spanned e y))
      where
        go : (ps : List ℕ) → length ps ≡ 0 → {v : ℕ} → Span ps v → Zero v
        go [] z s = s.same
        go (u ∷ ps) z s = absurd (omega arith)

    none_is : 5 ≤ n → (r : ℕ → ℕ) → ((i : ℕ) → i ≤ k → r i % 729 ≡ r i) → ((i : ℕ) → i ≤ k → minus (r i) (e i) ≡ x i) → Upto k r x
    none_is l r w d i b =
        sym (w i b) ∙ sym (minus_zero (r i)) ∙ ap (minus (r i)) (sym (none_left l i (omega arith))) ∙ minus_rest (r i) (e i) ∙ d i b

    -- RANK 1
    one_is : Ratio e → (r : ℕ → ℕ) → e 4 ≡ r 4 → e 5 ≡ r 5 → ((i : ℕ) → i ≤ k → minus (r i) (e i) ≡ x i) → Upto k (residual r (r 4)) x
    unfolding residual
    one_is R r e₄ e₅ d i b = rw (← e₄, ← e₅) (ap (minus (r i)) (chained e R i (omega arith)) ∙ minus_rest (r i) (e i) ∙ d i b)

    -- RANK 2
    back_error : (r : ℕ → ℕ) → ((i : ℕ) → i ≤ k → minus (r i) (e i) ≡ x i) → (i : ℕ) → i ≤ k → e i ≡ minus (r i) (x i)
    unfolding errors minus
    back_error r d i b = sym (ap (minus (r i)) (sym (d i b)) ∙ taken_back (r i) (e i) ∙ stepped_whole (steps ρ σ) (errors k c m) (λ j. add_whole _ _) i)

    two_is : Annihilated e → (r : ℕ → ℕ) → ((i : ℕ) → 1 < i → i < 6 → e i ≡ r i) → ((i : ℕ) → i ≤ k → minus (r i) (e i) ≡ x i) → k ≤ 1
        → ¬ Zero (determinant (r 3) (r 4) (r 5)) → Upto k (λ i. cond (eqb i 0) (zeroth r) (first r)) x
    two_is A r beyond d one z zero l =
        zeroth_is A r (x 0) (x 1) beyond (back_error r d 0 (omega arith)) (back_error r d 1 (omega arith)) z ∙ x_whole (steps ρ σ) k p q m 0
    two_is A r beyond d one z (suc zero) l =
        first_is A r (x 0) (x 1) beyond (back_error r d 0 (omega arith)) (back_error r d 1 (omega arith)) z ∙ x_whole (steps ρ σ) k p q m 1
    two_is A r beyond d one z (suc (suc i)) l = absurd (omega arith)

    -- WHAT THE CARD SHOWS: with its own coefficients, and with a try's
    abbrev t : ℕ
    t = last_term n (dead_lines ρ) (try_of n (dead_lines ρ) (at m (2 * k - 1)))

    abbrev r : ℕ → ℕ
    r = less_top n t h

    six : n ≤ 6
    six = omega (arith, few)

    top_is : raised_all (steps ρ σ) (times gamma (small (at m (2 * k - 1)))) ≡ t
    top_is = raised_steps ρ σ _ ∙ sym (last_term_is n (dead_lines ρ) (at m (2 * k - 1)) six)

    shown : (i : ℕ) → i < 6 → n < i → e i ≡ h i
    shown = known (steps ρ σ) k p q m c h eh n t count top_is six

    shown_tried : (i : ℕ) → i < 6 → n ≤ i → e i ≡ r i
    shown_tried = known_top (steps ρ σ) k p q m c h eh n t count top_is six

    hides : n ≤ 5 → (i : ℕ) → i ≤ k → minus (h i) (e i) ≡ x i
    hides = hidden (steps ρ σ) k p q m c h eh n t count top_is six

    hides_tried : k < n → (i : ℕ) → i ≤ k → minus (r i) (e i) ≡ x i
    hides_tried = hidden_top (steps ρ σ) k p q m c h eh n t count top_is six

    h_is_whole : (i : ℕ) → i < 6 → h i % 729 ≡ h i
    h_is_whole = h_whole (steps ρ σ) k p q m c h eh n t count top_is six

    r_whole : (i : ℕ) → i ≤ k → r i % 729 ≡ r i
    unfolding less_top minus
    r_whole i b = go (eqb i (n % 6))
      where
        go : (b : Bool) → cond b (minus (h i) t) (h i) % 729 ≡ cond b (minus (h i) t) (h i)
        go true = add_whole _ _
        go false = h_is_whole i (omega arith)

    -- so odd n has one proposal
    five_is : 5 ≤ n → n ≤ 5 → Upto k h x
    five_is l u = none_is l h (λ i b. h_is_whole i (omega arith)) (hides u)

    three_is : Ratio e → n ≤ 3 → Upto k (residual h (h 4)) x
    three_is R u = one_is R h (shown 4 (lit< tt) (omega arith)) (shown 5 (lit< tt) (omega arith)) (hides (omega arith))

    ratio_three : 3 ≤ n → Ratio e
    ratio_three l = ratio e (omega (arith, few))

    ratio_two : 2 ≤ n → n ≤ 2 → determinant (h 3) (h 4) (h 5) ≡ 0 → Ratio e
    ratio_two l u z = ratio_of_determinant e (annihilated e (omega (arith, few)))
        (rw (shown 3 (lit< tt) (omega arith), shown 4 (lit< tt) (omega arith), shown 5 (lit< tt) (omega arith)) z)

    four_none : 4 ≤ n → n ≤ 4 → h 5 ≡ 0 → Upto k (residual h (h 4)) x
    unfolding residual
    four_none l u z i b =
        let zero-last : Zero (e 5) = ap (λ (v : ℕ). v % 729) (shown 5 (lit< tt) (omega arith) ∙ z) in
        let none : Zero (e i) = sym (chained e (ratio_three (omega arith)) i (omega arith)) ∙ chain_none (e 4) (e 5) zero-last i in
        ap (minus (h i)) (chain_none (h 4) (h 5) (ap (λ (v : ℕ). v % 729) z) i ∙ sym none) ∙ minus_rest (h i) (e i) ∙ hides (omega arith) i b

    -- and even n is solved by the try that has the message's last number
    six_is : 6 ≤ n → k < n → Upto k r x
    six_is l u = none_is (omega arith) r r_whole (hides_tried u)

    four_is : 4 ≤ n → n ≤ 4 → k < n → Upto k (residual r (r 4)) x
    four_is l b u = one_is (ratio_three (omega arith)) r (shown_tried 4 (lit< tt) (omega arith)) (shown_tried 5 (lit< tt) (omega arith)) (hides_tried u)

    two_solved : 2 ≤ n → n ≤ 2 → k ≤ 1 → ¬ Zero (determinant (h 3) (h 4) (h 5)) → Upto k (λ i. cond (eqb i 0) (zeroth r) (first r)) x
    two_solved l u one z = two_is (annihilated e (omega (arith, few))) r (λ i b s. shown_tried i s (omega arith)) (hides_tried (omega arith)) one
        (rw (same 3 (omega arith) (lit< tt), same 4 (omega arith) (lit< tt), same 5 (omega arith) (lit< tt)) z)
      where
        same : (i : ℕ) → n < i → i < 6 → r i ≡ h i
        same i b s = sym (shown_tried i s (omega arith)) ∙ shown i s b

  try_below : (m : List ℕ) → is_message k m ≡ true → try_of n (dead_lines ρ) (at m (2 * k - 1)) < 27
  unfolding is_message at try_of
  try_below m w = let (l, b) = passed (2 * k) 26 m w in raised_below _ _ (all_at (λ v. v < 27) 0 m b (2 * k - 1) (omega arith))

  -- A PROPOSAL with the right coefficients is an answer, and so are tries of which one has them
  one_answers : (f : ℕ → ℕ) → ((m : List ℕ) (near : NearDead k ρ σ c m) → Upto k f (stepped_on (steps ρ σ) (at (coefficients k m)))) → Answers (NearDead k ρ σ c) (proposal k ρ σ c f)
  unfolding proposal
  one_answers f y = proposal_answers (near_dead_checks k ρ σ c) _ (λ m near. message_unstepped (steps ρ σ) k p q m (steps_invertible ρ σ hρ hσ) near.message f (y m near))

  tries_answer : ((m : List ℕ) (near : NearDead k ρ σ c m)
      → Upto k (tried n (dead_lines ρ) h (try_of n (dead_lines ρ) (at m (2 * k - 1)))) (stepped_on (steps ρ σ) (at (coefficients k m)))) → Answers (NearDead k ρ σ c) (first_of 27 (attempt_dead n k ρ σ c h))
  unfolding attempt_dead proposal
  tries_answer y = proposals_answer (near_dead_checks k ρ σ c) 27 (λ b. eqb (high (unstepped (steps ρ σ) (tried n (dead_lines ρ) h b) 0)) 0)
      (λ b. read (table (suc k) (unstepped (steps ρ σ) (tried n (dead_lines ρ) h b)))) (λ m. try_of n (dead_lines ρ) (at m (2 * k - 1)))
      (λ m near. let u = steps_invertible ρ σ hρ hσ in (
        try_below m near.message,
        eq-eqb _ 0 (ap high (first_small (steps ρ σ) k p q m u _ (y m near)) ∙ high_small (at m 0)),
        message_unstepped (steps ρ σ) k p q m u near.message _ (y m near),
      ))

-- THE SAME as decode_dead, where a line is dead
module _ (ρ σ : ℕ) (hρ : ρ < 64) (hσ : σ < 64) (k : ℕ) (p : 1 ≤ k) (q : k ≤ 5) (c : List ℕ) (card : is_card c ≡ true) (h : ℕ → ℕ) (eh : Alike h (line_stepped (steps ρ σ) (spectrum c)))
    (dead : 1 ≤ dead_lines ρ + dead_lines σ) where
  answers : (n : ℕ) → k + dead_lines ρ + dead_lines σ ≡ n → n ≤ 6 → Answers (NearDead k ρ σ c) (solve n k ρ σ c h)
  unfolding solve lower_rank solution tried
  answers zero en l = absurd (omega arith)
  answers (suc zero) en l = absurd (omega arith)
  answers (suc (suc zero)) en l = go (eqb (determinant (h 3) (h 4) (h 5)) 0) refl
    where
      go : (b : Bool) → eqb (determinant (h 3) (h 4) (h 5)) 0 ≡ b
          → Answers (NearDead k ρ σ c) (cond b (proposal k ρ σ c (residual h (h 4))) (first_of 27 (attempt_dead 2 k ρ σ c h)))
      go true z = one_answers ρ σ hρ hσ k p q c card h eh 2 en _ (λ m near.
          let R = ratio_two ρ σ hρ hσ k p q c card h eh 2 en m near (lit≤ tt) (lit≤ tt) (eqb-true (determinant (h 3) (h 4) (h 5)) 0 z) in
          three_is ρ σ hρ hσ k p q c card h eh 2 en m near R (lit≤ tt))
      go false z = tries_answer ρ σ hρ hσ k p q c card h eh 2 en (λ m near.
          two_solved ρ σ hρ hσ k p q c card h eh 2 en m near (lit≤ tt) (lit≤ tt) (omega arith) (λ o. eqb-false (determinant (h 3) (h 4) (h 5)) 0 z (sym (determinant_whole _ _ _) ∙ o)))
  answers (suc (suc (suc zero))) en l = one_answers ρ σ hρ hσ k p q c card h eh 3 en _ (λ m near.
      three_is ρ σ hρ hσ k p q c card h eh 3 en m near (ratio_three ρ σ hρ hσ k p q c card h eh 3 en m near (lit≤ tt)) (lit≤ tt))
  answers (suc (suc (suc (suc zero)))) en l = go (eqb (h 5) 0) refl
    where
      go : (b : Bool) → eqb (h 5) 0 ≡ b → Answers (NearDead k ρ σ c) (cond b (proposal k ρ σ c (residual h (h 4))) (first_of 27 (attempt_dead 4 k ρ σ c h)))
      go true z = one_answers ρ σ hρ hσ k p q c card h eh 4 en _ (λ m near.
          four_none ρ σ hρ hσ k p q c card h eh 4 en m near (lit≤ tt) (lit≤ tt) (eqb-true (h 5) 0 z))
      go false z = tries_answer ρ σ hρ hσ k p q c card h eh 4 en (λ m near.
          four_is ρ σ hρ hσ k p q c card h eh 4 en m near (lit≤ tt) (lit≤ tt) (omega arith))
  answers (suc (suc (suc (suc (suc zero))))) en l = one_answers ρ σ hρ hσ k p q c card h eh 5 en _ (λ m near.
      five_is ρ σ hρ hσ k p q c card h eh 5 en m near (lit≤ tt) (lit≤ tt))
  answers (suc (suc (suc (suc (suc (suc zero)))))) en l = tries_answer ρ σ hρ hσ k p q c card h eh 6 en (λ m near.
      six_is ρ σ hρ hσ k p q c card h eh 6 en m near (lit≤ tt) (omega arith))
  answers (suc (suc (suc (suc (suc (suc (suc n))))))) en l = absurd (omega arith)

  pub solve_is_decode : k + dead_lines ρ + dead_lines σ ≤ 6 → solve (k + dead_lines ρ + dead_lines σ) k ρ σ c h ≡ decode_dead k ρ σ c
  solve_is_decode l = answered_dead k p q ρ σ c card _ (answers (k + dead_lines ρ + dead_lines σ) refl l)
