-- The message's coefficients as the code has them, and what is proposed by them: arrays of six for the functions of coefficients.
-- Main: solution_two, solution_four, solution_six, proposal_by, less_top_set, tried_whole, attempt_dead_some, attempt_dead_none, solve_odd, solve_lower, solve_tries.
use Rattle.std.specs.Prelude.{◌≡◌, refl, ◌≢◌, true, false, cond, List, [], ◌∷◌, ℕ, suc, ◌/◌, ◌%◌, ◌≤◌, ◌<◌, eqb, length, get_or, set}
use Rattle.std.proofs.Math.Path.{sym, ap}
use Rattle.std.proofs.Common.{subst, ◌∙◌, arith, lit≤, lit<}
use Rattle.std.proofs.Math.Option.{none}
use Rattle.std.proofs.Math.Decide.{dec_le}
use borrow.Author.Tests.{eq-eqb, ne_eqb, le-leb, lt-leb}
use Rattle.algebra.specs.Field.{minus, times, risen, small, gamma}
use Rattle.algebra.specs.Lists.{table, table_same}
use Rattle.algebra.specs.Tests.{below_six}
use Rattle.algebra.specs.Sums.{add_whole}
use Rattle.algebra.specs.SmallField.{high}
use Rattle.rank.specs.Definitions.{at}
use Rattle.rank.specs.Arrays.{six}
use Rattle.coding.specs.Coefficients.{read}
use Rattle.coding.specs.Options.{first_of}
use Rattle.coding.specs.Window.{solved}
use Rattle.coding.specs.Residual.{residual}
use Rattle.coding.specs.DecodeOne.{zeroth, first}
use Rattle.candidate.specs.Places.{entry_is}
use Rattle.dead_lines.specs.Struck.{dead_lines}
use Rattle.dead_lines.specs.Steps.{Step, Alike, Upto, unstepped, unstepped_same, first_back}
use Rattle.dead_lines.specs.DecodeDead.{if_near_dead}
use Rattle.dead_lines.specs.Multipliers.{steps}
use Rattle.dead_lines.specs.Hidden.{less_top}
use Rattle.dead_lines.specs.Solving.{solution, last_term, tried, proposal, attempt_dead, lower_rank, solve}
use Rattle.dead_decoder.specs.declared.fractions.Fraction.{Fraction}
use Rattle.dead_decoder.specs.Fractions.{fraction_at, FirstShown}

-- THE COEFFICIENTS
pub solution_two : (n : ℕ) (r f : List ℕ) → n ≤ 2 → f ≡ zeroth (at r) ∷ first (at r) ∷ [] → at f 0 ∷ at f 1 ∷ at f 1 ∷ at f 1 ∷ at f 1 ∷ at f 1 ∷ [] ≡ table 6 (solution n (at r))
unfolding solution table at
solution_two n r f l e = rw (e, le-leb n 2 l)

pub solution_four : (n : ℕ) (r f : List ℕ) → 2 < n → n ≤ 4 → f ≡ table 6 (residual (at r) (at r 4)) → f ≡ table 6 (solution n (at r))
unfolding solution table
solution_four n r f a b e = rw (e, lt-leb n 2 a, le-leb n 4 b)

pub solution_six : (n : ℕ) (r : List ℕ) → 4 < n → length r ≡ 6 → r ≡ table 6 (solution n (at r))
unfolding solution table at
solution_six n r a l = rw (lt-leb n 2 (omega arith), lt-leb n 4 a) (sym (six r l))

-- of six numbers
solution_same : (n : ℕ) (r x : ℕ → ℕ) → Alike r x → Alike (solution n r) (solution n x)
unfolding solution zeroth first solved residual
solution_same n r x e i l = rw (e 0 (lit< tt), e 1 (lit< tt), e 2 (lit< tt), e 3 (lit< tt), e 4 (lit< tt), e 5 (lit< tt), e i l)

-- A PROPOSAL is by the coefficients up to number k
module _ (ρ σ k : ℕ) (q : k ≤ 5) (c : List ℕ) where
  read_same : (f g : ℕ → ℕ) → Upto k f g → read (table (suc k) (unstepped (steps ρ σ) f)) ≡ read (table (suc k) (unstepped (steps ρ σ) g))
  read_same f g e = ap read (table_same (suc k) _ _ (λ i l. unstepped_same (steps ρ σ) f g k e i (omega arith)))

  pub proposal_by : (p : ℕ → ℕ) (f g m : List ℕ) → f ≡ table 6 p → Upto k (at g) (unstepped (steps ρ σ) (at f)) → m ≡ read (table (suc k) (at g)) → if_near_dead k ρ σ c m ≡ proposal k ρ σ c p
  unfolding proposal
  proposal_by p f g m ef eg em = ap (if_near_dead k ρ σ c) (
      em ∙ ap read (table_same (suc k) (at g) _ (λ i l. eg i (omega arith))) ∙ read_same (at f) p (λ i l. entry_is p f ef i (omega arith)))

  proposal_same : (n : ℕ) (r : List ℕ) (x : ℕ → ℕ) → r ≡ table 6 x → proposal k ρ σ c (solution n (at r)) ≡ proposal k ρ σ c (solution n x)
  unfolding proposal
  proposal_same n r x e = ap (if_near_dead k ρ σ c) (read_same _ _ (λ i l. solution_same n (at r) x (entry_is x r e) i (omega arith)))

  pub tried_by : (n b last : ℕ) (r : List ℕ) (h : ℕ → ℕ) → r ≡ table 6 (less_top n last h) → last ≡ last_term n (dead_lines ρ) b
      → proposal k ρ σ c (solution n (at r)) ≡ proposal k ρ σ c (tried n (dead_lines ρ) h b)
  unfolding tried
  tried_by n b last r h er el = proposal_same n r _ er ∙ ap (λ (t : ℕ). proposal k ρ σ c (solution n (less_top n t h))) el

-- COEFFICIENTS LESS THE LAST TERM
set_six : (a b c d e f t i : ℕ) → i < 6 → let h = a ∷ b ∷ c ∷ d ∷ e ∷ f ∷ [] in
    set h i (minus (get_or h i 0) t) ≡ table 6 (λ j. cond (eqb j i) (minus (get_or h j 0) t) (get_or h j 0))
unfolding table
set_six a b c d e f t = below_six _ refl refl refl refl refl refl

pub less_top_set : (n t : ℕ) (h : List ℕ) → length h ≡ 6 → set h (n % 6) (minus (at h (n % 6)) t) ≡ table 6 (less_top n t (at h))
unfolding less_top at
less_top_set n t h l =
    subst (λ x. set x (n % 6) (minus (get_or x (n % 6) 0) t) ≡ table 6 (λ j. cond (eqb j (n % 6)) (minus (get_or x j 0) t) (get_or x j 0))) (six h l)
    (set_six _ _ _ _ _ _ t (n % 6) (omega arith))

-- the term itself, from symbols raised
pub last_term_by : (n r g u b last : ℕ) (s : List ℕ) → n ≤ 6 → g ≡ risen r gamma → u ≡ small b → s ≡ table 6 (λ i. risen i u) → last ≡ times g (at s (n / 2))
    → last ≡ last_term n r b
unfolding last_term
last_term_by n r g u b last s l eg eu es e = rw (e, entry_is (λ i. risen i u) s es (n / 2) (omega arith), eg, eu)

-- A TRY has number 0 below 729
tried_whole : (n r : ℕ) (h : ℕ → ℕ) (b : ℕ) → n % 2 ≡ 0 → n ≤ 6 → tried n r h b 0 % 729 ≡ tried n r h b 0
unfolding tried solution less_top zeroth solved residual minus
tried_whole n r h b z l = elim (dec_le n 2) [
  | yes a ↦ rw (le-leb n 2 a) (add_whole _ _)
  | no o ↦ rw (lt-leb n 2 (omega arith)) (elim (dec_le n 4) [
    | yes a ↦ rw (le-leb n 4 a) (add_whole _ _)
    | no w ↦ rw (lt-leb n 4 (omega arith)) (last (omega arith))
  ])
]
  where
    last : n ≡ 6 → less_top n (last_term n r b) h 0 % 729 ≡ less_top n (last_term n r b) h 0
    last e = rw e (add_whole _ _)

module _ (n k ρ σ : ℕ) (c : List ℕ) (h : ℕ → ℕ) (b g : ℕ) (t : Fraction) (z : n % 2 ≡ 0) (l : n ≤ 6) (eg : g ≡ risen (dead_lines ρ) gamma)
    (P : FirstShown n h (unstepped (steps ρ σ) (λ i. 1) 0) g t) where
  fraction_first : fraction_at t (small b) ≡ unstepped (steps ρ σ) (tried n (dead_lines ρ) h b) 0
  unfolding tried last_term
  fraction_first = P b ∙ rw eg (sym (first_back (steps ρ σ) (tried n (dead_lines ρ) h b) (tried_whole n (dead_lines ρ) h b z l)))

  pub attempt_dead_none : (v : ℕ) → v ≡ fraction_at t (small b) → high v ≢ 0 → attempt_dead n k ρ σ c h b ≡ none
  unfolding attempt_dead
  attempt_dead_none v e o = rw (← fraction_first, ← e, ne_eqb (high v) 0 o)

  pub attempt_dead_some : (v : ℕ) → v ≡ fraction_at t (small b) → high v ≡ 0 → proposal k ρ σ c (tried n (dead_lines ρ) h b) ≡ attempt_dead n k ρ σ c h b
  unfolding attempt_dead
  attempt_dead_some v e o = sym (rw (← fraction_first, ← e, eq-eqb (high v) 0 o))

-- WHAT IS RUN
module _ (n k ρ σ : ℕ) (c : List ℕ) (h : ℕ → ℕ) where
  pub solve_odd : n % 2 ≡ 1 → proposal k ρ σ c (solution n h) ≡ solve n k ρ σ c h
  unfolding solve
  solve_odd e = rw (eq-eqb (n % 2) 1 e)

  pub solve_lower : n % 2 ≢ 1 → lower_rank n h ≡ true → proposal k ρ σ c (solution 3 h) ≡ solve n k ρ σ c h
  unfolding solve
  solve_lower o s = rw (ne_eqb (n % 2) 1 o, s)

  pub solve_tries : n % 2 ≢ 1 → lower_rank n h ≡ false → first_of 27 (attempt_dead n k ρ σ c h) ≡ solve n k ρ σ c h
  unfolding solve
  solve_tries o s = rw (ne_eqb (n % 2) 1 o, s)

-- WHAT TAKES NUMBER 0 BACK, and what the last symbol is multiplied by
pub first_one : (ss : List Step) (r : List ℕ) → Upto 0 (at r) (unstepped ss (at (1 ∷ 1 ∷ 1 ∷ 1 ∷ 1 ∷ 1 ∷ []))) → at r 0 ≡ unstepped ss (λ i. 1) 0
unfolding at
first_one ss r e = e 0 (lit≤ tt) ∙ unstepped_same ss _ (λ i. 1) 0 (λ i l. let z : i ≡ 0 = omega arith in rw z) 0 (lit≤ tt)

pub gamma_raised : (r : ℕ) (gs : List ℕ) → r ≤ 5 → gs ≡ table 6 (λ i. risen i gamma) → at gs r ≡ risen r gamma
gamma_raised r gs l e = entry_is (λ i. risen i gamma) gs e r (omega arith)
