-- Rows and columns as the code has them, with their steps and the tables of their multipliers; and steps and the way back in arrays of six.
-- Main: step_of, multipliers, raised_any, step_six, table_six, Stepping, stepping_all, stepping_kept, stepping_next, stepping_end, steps_both,
-- Backed, backed_next, Backing, backing_all, backing_kept, backing_next, backing_end, backs_both.
use Rattle.std.specs.Prelude.{◌≡◌, refl, ◌≢◌, Bool, cond, List, [], ◌∷◌, ℕ, zero, suc, ◌+◌, ◌*◌, ◌/◌, ◌%◌, ◌≤◌, ◌<◌, eqb, length, get_or, set, drop}
use Rattle.std.proofs.Math.Path.{sym, ap, ap₂}
use Rattle.std.proofs.Common.{◌∙◌, add-one, drop-cons, arith, get_or-set_same, get_or-set_other}
use Rattle.std.proofs.Math.Bool.{true, false}
use Rattle.std.proofs.Math.Decide.{ℕ_discrete}
use borrow.Author.Tests.{eq-eqb, ne_eqb}
use Rattle.std.proofs.Math.ListN.{length-set}
use Rattle.std.proofs.lemmas.List.{drop_all}
use Rattle.algebra.specs.Field.{minus, times}
use Rattle.algebra.specs.Lists.{table, table_same, length_table}
use Rattle.algebra.specs.Inverses.{inverse}
use Rattle.rank.specs.Definitions.{at}
use Rattle.rank.specs.Arrays.{six}
use Rattle.candidate.specs.Places.{entry_is}
use Rattle.dead_lines.specs.Steps.{Step, Row, Column, raised, multiplier, line_step, line_stepped, Alike, step_same, back, unstepped, Upto, back_same}
use Rattle.dead_lines.specs.Multipliers.{row_multipliers, column_multipliers, steps, step_if, back_if, six_steps, six_backs}
use Rattle.dead_lines.proofs.Multipliers.{all_stepped, all_unstepped}
use Rattle.dead_decoder.specs.declared.steps.Line.{Line}
use Rattle.dead_decoder.specs.declared.steps.Line.TheVariants as lines

abbrev pub step_of : Line → ℕ → Step
step_of lines.Row A = Row A
step_of lines.Column A = Column A

abbrev pub multipliers : Line → List ℕ
multipliers lines.Row = row_multipliers
multipliers lines.Column = column_multipliers

-- what a step makes of the coefficient before is the same for each multiplier
pub raised_any : (line : Line) (A v : ℕ) → raised (step_of line 0) v ≡ raised (step_of line A) v
unfolding raised
raised_any lines.Row A v = refl
raised_any lines.Column A v = refl

-- A STEP, entry by entry
pub step_six : (line : Line) (A : ℕ) (h m : List ℕ) → m ≡ table 6 (multiplier (step_of line A))
    → minus (raised (step_of line 0) (get_or h 5 0)) (times (get_or m 0 0) (get_or h 0 0))
    ∷ minus (raised (step_of line 0) (get_or h 0 0)) (times (get_or m 1 0) (get_or h 1 0))
    ∷ minus (raised (step_of line 0) (get_or h 1 0)) (times (get_or m 2 0) (get_or h 2 0))
    ∷ minus (raised (step_of line 0) (get_or h 2 0)) (times (get_or m 3 0) (get_or h 3 0))
    ∷ minus (raised (step_of line 0) (get_or h 3 0)) (times (get_or m 4 0) (get_or h 4 0))
    ∷ minus (raised (step_of line 0) (get_or h 4 0)) (times (get_or m 5 0) (get_or h 5 0)) ∷ [] ≡ table 6 (line_step (step_of line A) (at h))
unfolding line_step raised table at
step_six lines.Row A h m e = rw e refl
step_six lines.Column A h m e = rw e refl

-- SIX COEFFICIENTS read from an array
pub table_six : (h : List ℕ) → length h ≡ 6 → h ≡ table 6 (at h)
unfolding table at
table_six h l = sym (six h l)

module _ (line : ℕ → Step) (ws : List ℕ) (mask : ℕ) where
  step_if_same : (low : ℕ) (h x : ℕ → ℕ) → Alike h x → Alike (step_if line ws mask low h) (step_if line ws mask low x)
  unfolding step_if
  step_if_same low h x e = go (eqb (mask / low % 2) 0) (line (at ws (mask % (2 * low))))
    where
      go : (b : Bool) (s : Step) → Alike (cond b h (line_step s h)) (cond b x (line_step s x))
      go true s = e
      go false s = step_same s h x e

  six_same : (h x : ℕ → ℕ) → Alike h x → Alike (six_steps line ws mask h) (six_steps line ws mask x)
  unfolding six_steps
  six_same h x e =
      step_if_same 32 _ _ (step_if_same 16 _ _ (step_if_same 8 _ _ (step_if_same 4 _ _ (step_if_same 2 _ _ (step_if_same 1 h x e)))))

-- IN A LOOP over lines, whose bits are worth these
turned : (lows : List ℕ) (n : ℕ) → n < length lows → drop n lows ≡ get_or lows n 0 ∷ drop (n + 1) lows
turned lows n l = rw (add-one n) (drop-cons lows n 0 l)

-- those that are left take the coefficients to where all steps take h
unfoldable pub steps_by : (line : ℕ → Step) → (multipliers : List ℕ) → (mask : ℕ) → (lows : List ℕ) → (ℕ → ℕ) → ℕ → ℕ
steps_by line ws mask [] h = h
steps_by line ws mask (low ∷ lows) h = steps_by line ws mask lows (step_if line ws mask low h)

pub record Stepping (line : ℕ → Step) (ws : List ℕ) (mask : ℕ) (h : ℕ → ℕ) (lows g : List ℕ) : Type 0 where
  pub long : length g ≡ 6
  pub left : Alike (steps_by line ws mask lows (at g)) (six_steps line ws mask h)

module _ (line : ℕ → Step) (ws : List ℕ) (mask : ℕ) where
  steps_by_same : (lows : List ℕ) (h x : ℕ → ℕ) → Alike h x → Alike (steps_by line ws mask lows h) (steps_by line ws mask lows x)
  unfolding steps_by
  steps_by_same [] h x e = e
  steps_by_same (low ∷ lows) h x e = steps_by_same lows _ _ (step_if_same line ws mask low h x e)

  pub stepping_all : (g : List ℕ) → length g ≡ 6 → Stepping line ws mask (at g) (1 ∷ 2 ∷ 4 ∷ 8 ∷ 16 ∷ 32 ∷ []) g
  unfolding steps_by six_steps
  stepping_all g l = record { long = l; left = λ i b. refl }

  -- a line that is not dead, and one that is
  step_kept : (low : ℕ) (h : ℕ → ℕ) → mask / low % 2 ≡ 0 → h ≡ step_if line ws mask low h
  unfolding step_if
  step_kept low h e = rw (eq-eqb _ 0 e)

  step_taken : (low a : ℕ) (h : ℕ → ℕ) → mask / low % 2 ≢ 0 → a ≡ at ws (mask % (2 * low)) → line_step (line a) h ≡ step_if line ws mask low h
  unfolding step_if
  step_taken low a h d e = rw (e, ne_eqb _ 0 d)

  module _ (h : ℕ → ℕ) (lows : List ℕ) (n : ℕ) (l : n < length lows) (g : List ℕ) (s : Stepping line ws mask h (drop n lows) g) where
    stepping_turn : Alike (steps_by line ws mask (drop (n + 1) lows) (step_if line ws mask (get_or lows n 0) (at g))) (six_steps line ws mask h)
    unfolding steps_by
    stepping_turn = rw (turned lows n l) at s.left

    pub stepping_kept : mask / get_or lows n 0 % 2 ≡ 0 → Stepping line ws mask h (drop (n + 1) lows) g
    stepping_kept e = record {
      long = s.long;
      left = λ i b. ap (λ (f : ℕ → ℕ). steps_by line ws mask (drop (n + 1) lows) f i) (step_kept _ (at g) e) ∙ stepping_turn i b;
    }

    pub stepping_next : mask / get_or lows n 0 % 2 ≢ 0 → (a : ℕ) (x : List ℕ) → a ≡ at ws (mask % (2 * get_or lows n 0))
        → x ≡ table 6 (line_step (line a) (at g)) → Stepping line ws mask h (drop (n + 1) lows) x
    stepping_next d a x ea ex = record {
      long = ap length ex ∙ length_table 6 _;
      left = λ i b. steps_by_same (drop (n + 1) lows) _ _ (entry_is _ x ex) i b
          ∙ ap (λ (f : ℕ → ℕ). steps_by line ws mask (drop (n + 1) lows) f i) (step_taken _ a (at g) d ea) ∙ stepping_turn i b;
    }

  pub stepping_end : (h : ℕ → ℕ) (lows : List ℕ) (n : ℕ) (g : List ℕ) → length lows ≤ n → Stepping line ws mask h (drop n lows) g → g ≡ table 6 (six_steps line ws mask h)
  unfolding steps_by
  stepping_end h lows n g l s = table_six g s.long ∙ table_same 6 _ _ (rw (drop_all n lows l) at s.left)

-- rows, and then columns
pub steps_both : (ρ σ : ℕ) (h g r : List ℕ) → g ≡ table 6 (six_steps Row row_multipliers ρ (at h))
    → r ≡ table 6 (six_steps Column column_multipliers σ (at g)) → r ≡ table 6 (line_stepped (steps ρ σ) (at h))
steps_both ρ σ h g r e d =
    d ∙ table_same 6 _ _ (six_same Column column_multipliers σ (at g) _ (entry_is _ g e)) ∙ ap (table 6) (sym (all_stepped ρ σ (at h)))

-- THE WAY BACK: what stands before number i
unfoldable pub before_of : Step → (f : ℕ → ℕ) → ℕ → ℕ
before_of s f zero = 0
before_of s f (suc i) = raised s (back s f i)

back_from : (s : Step) (f : ℕ → ℕ) (i : ℕ) → back s f i ≡ times (inverse (multiplier s i)) (minus (before_of s f i) (f i))
unfolding back before_of
back_from s f zero = refl
back_from s f (suc i) = refl

-- in a loop: numbers below i are done, and x stands before number i
pub record Backed (s : Step) (f r : List ℕ) (x i : ℕ) : Type 0 where
  pub long : length r ≡ 6
  pub next : x ≡ before_of s (at f) i
  pub done : (j : ℕ) → j < i → at r j ≡ back s (at f) j

module _ (s : Step) (f : List ℕ) where
  pub backed_none : (r : List ℕ) → length r ≡ 6 → Backed s f r 0 0
  unfolding before_of
  backed_none r l = record { long = l; next = refl; done = λ j n. absurd (omega arith) }

  pub backed_next : (m r : List ℕ) (x i u y z : ℕ) → Backed s f r x i → i < 6 → m ≡ table 6 (multiplier s)
      → u ≡ minus x (get_or f i 0) → y ≡ times (inverse (get_or m i 0)) u → z ≡ raised s y → Backed s f (set r i y) z (i + 1)
  unfolding before_of at
  backed_next m r x i u y z b l e v d g =
      record { long = length-set r i y ∙ b.long; next = rw (add-one i) (g ∙ ap (raised s) here); done = others }
    where
      here : y ≡ back s (at f) i
      here =
          d ∙ ap₂ (λ (a b : ℕ). times (inverse a) b) (entry_is (multiplier s) m e i l) (v ∙ ap (λ (w : ℕ). minus w (get_or f i 0)) b.next)
          ∙ sym (back_from s (at f) i)

      others : (j : ℕ) → j < i + 1 → at (set r i y) j ≡ back s (at f) j
      others j n = elim (ℕ_discrete j i) [
        | yes t ↦ rw t (get_or-set_same r i y 0 (omega (arith, b.long)) ∙ here)
        | no t ↦ get_or-set_other r i j y 0 t ∙ b.done j (omega arith)
      ]

  pub backed_end : (k : ℕ) (r : List ℕ) (x i : ℕ) → Backed s f r x i → k < i → Upto k (at r) (back s (at f))
  backed_end k r x i b l j n = b.done j (omega arith)

-- one way back after the other
module _ (line : ℕ → Step) (ws : List ℕ) (mask : ℕ) (k : ℕ) where
  back_if_same : (low : ℕ) (f g : ℕ → ℕ) → Upto k f g → Upto k (back_if line ws mask low f) (back_if line ws mask low g)
  unfolding back_if
  back_if_same low f g e = go (eqb (mask / low % 2) 0) (line (at ws (mask % (2 * low))))
    where
      go : (b : Bool) (s : Step) → Upto k (cond b f (back s f)) (cond b g (back s g))
      go true s = e
      go false s = back_same s f g k e

  six_backs_same : (f g : ℕ → ℕ) → Upto k f g → Upto k (six_backs line ws mask f) (six_backs line ws mask g)
  unfolding six_backs
  six_backs_same f g e =
      back_if_same 1 _ _ (back_if_same 2 _ _ (back_if_same 4 _ _ (back_if_same 8 _ _ (back_if_same 16 _ _ (back_if_same 32 f g e)))))

-- IN A LOOP over lines, whose bits are worth these: those that are left take the coefficients back to where all take f
unfoldable pub backs_by : (line : ℕ → Step) → (multipliers : List ℕ) → (mask : ℕ) → (lows : List ℕ) → (ℕ → ℕ) → ℕ → ℕ
backs_by line ws mask [] f = f
backs_by line ws mask (low ∷ lows) f = backs_by line ws mask lows (back_if line ws mask low f)

pub record Backing (line : ℕ → Step) (ws : List ℕ) (mask k : ℕ) (f : ℕ → ℕ) (lows g : List ℕ) : Type 0 where
  pub long : length g ≡ 6
  pub left : Upto k (backs_by line ws mask lows (at g)) (six_backs line ws mask f)

module _ (line : ℕ → Step) (ws : List ℕ) (mask k : ℕ) where
  backs_by_same : (lows : List ℕ) (f g : ℕ → ℕ) → Upto k f g → Upto k (backs_by line ws mask lows f) (backs_by line ws mask lows g)
  unfolding backs_by
  backs_by_same [] f g e = e
  backs_by_same (low ∷ lows) f g e = backs_by_same lows _ _ (back_if_same line ws mask k low f g e)

  pub backing_all : (g : List ℕ) → length g ≡ 6 → Backing line ws mask k (at g) (32 ∷ 16 ∷ 8 ∷ 4 ∷ 2 ∷ 1 ∷ []) g
  unfolding backs_by six_backs
  backing_all g l = record { long = l; left = λ i b. refl }

  -- a line that is not dead, and one that is
  back_kept : (low : ℕ) (f : ℕ → ℕ) → mask / low % 2 ≡ 0 → f ≡ back_if line ws mask low f
  unfolding back_if
  back_kept low f e = rw (eq-eqb _ 0 e)

  back_taken : (low a : ℕ) (f : ℕ → ℕ) → mask / low % 2 ≢ 0 → a ≡ at ws (mask % (2 * low)) → back (line a) f ≡ back_if line ws mask low f
  unfolding back_if
  back_taken low a f d e = rw (e, ne_eqb _ 0 d)

  module _ (f : ℕ → ℕ) (lows : List ℕ) (n : ℕ) (l : n < length lows) (g : List ℕ) (s : Backing line ws mask k f (drop n lows) g) where
    backing_turn : Upto k (backs_by line ws mask (drop (n + 1) lows) (back_if line ws mask (get_or lows n 0) (at g))) (six_backs line ws mask f)
    unfolding backs_by
    backing_turn = rw (turned lows n l) at s.left

    pub backing_kept : mask / get_or lows n 0 % 2 ≡ 0 → Backing line ws mask k f (drop (n + 1) lows) g
    backing_kept e = record {
      long = s.long;
      left = λ i b. ap (λ (x : ℕ → ℕ). backs_by line ws mask (drop (n + 1) lows) x i) (back_kept _ (at g) e) ∙ backing_turn i b;
    }

    pub backing_next : mask / get_or lows n 0 % 2 ≢ 0 → (a : ℕ) (x : List ℕ) → a ≡ at ws (mask % (2 * get_or lows n 0))
        → length x ≡ 6 → Upto k (at x) (back (line a) (at g)) → Backing line ws mask k f (drop (n + 1) lows) x
    backing_next d a x ea m ex = record {
      long = m;
      left = λ i b. backs_by_same (drop (n + 1) lows) _ _ ex i b
          ∙ ap (λ (y : ℕ → ℕ). backs_by line ws mask (drop (n + 1) lows) y i) (back_taken _ a (at g) d ea) ∙ backing_turn i b;
    }

  pub backing_end : (f : ℕ → ℕ) (lows : List ℕ) (n : ℕ) (g : List ℕ) → length lows ≤ n → Backing line ws mask k f (drop n lows) g → Upto k (at g) (six_backs line ws mask f)
  unfolding backs_by
  backing_end f lows n g l s = rw (drop_all n lows l) at s.left

-- columns, and then rows
pub backs_both : (ρ σ k : ℕ) (f g r : List ℕ) → Upto k (at g) (six_backs Column column_multipliers σ (at f))
    → Upto k (at r) (six_backs Row row_multipliers ρ (at g)) → Upto k (at r) (unstepped (steps ρ σ) (at f))
backs_both ρ σ k f g r e d i l =
    d i l ∙ six_backs_same Row row_multipliers ρ k (at g) _ e i l ∙ ap (λ (h : ℕ → ℕ). h i) (sym (all_unstepped ρ σ (at f)))
