-- Tests: what a computed test of all numbers below n shows of each, the test by which lists are cards and messages, and proofs for each of
-- a few numbers.
-- Main: both, neither, tested, tested_2, tested_if, some_below, any, any_none, passed, passes, one_to_five, below_six.
use Rattle.std.specs.Prelude.{◌≡◌, refl, Bool, true, false, ◌&&◌, ◌||◌, not, List, [], ◌∷◌, ℕ, zero, suc, ◌≤◌, ◌<◌, eqb, ltb, length}
use Rattle.std.proofs.Common.{sym, true≢false, arith, eqb-true, eq-eqb, ltb-false, le-ltb}
use Rattle.std.proofs.Math.Decide.{ℕ_discrete}
use Rattle.std.proofs.lemmas.Bool.{not-true}
use Rattle.algebra.specs.Lists.{All, all_map}

pub both : (a b : Bool) → (a && b) ≡ true → (a ≡ true) × (b ≡ true)
both true b e = (refl, e)
both false b e = absurd (true≢false (sym e))

pub neither : (a b : Bool) → (a || b) ≡ false → (a ≡ false) × (b ≡ false)
neither true b e = absurd (true≢false e)
neither false b e = (refl, e)

-- ALL NUMBERS BELOW n
unfoldable pub every : (n : ℕ) → (ℕ → Bool) → Bool
every zero p = true
every (suc n) p = p n && every n p

pub every_at : (n : ℕ) (p : ℕ → Bool) → every n p ≡ true → (v : ℕ) → v < n → p v ≡ true
unfolding every
every_at zero p t v h = absurd (omega arith)
every_at (suc n) p t v h =
    let s = both (p n) (every n p) t in
    elim (ℕ_discrete v n) [ yes e ↦ rw e s.0 | no d ↦ every_at n p s.1 v (omega arith) ]

-- two functions are equal
pub tested : (n : ℕ) (f g : ℕ → ℕ) → every n (λ v. eqb (f v) (g v)) ≡ true → (v : ℕ) → v < n → f v ≡ g v
tested n f g t v h = eqb-true (f v) (g v) (every_at n (λ w. eqb (f w) (g w)) t v h)

-- two functions of two numbers are equal
pub tested_2 : (m n : ℕ) (f g : ℕ → ℕ → ℕ) → every m (λ i. every n (λ j. eqb (f i j) (g i j))) ≡ true
    → (i j : ℕ) → i < m → j < n → f i j ≡ g i j
tested_2 m n f g t i j p q = tested n (f i) (g i) (every_at m (λ x. every n (λ y. eqb (f x y) (g x y))) t i p) j q

-- where two functions are equal, another test passes
pub tested_if : (n : ℕ) (f g : ℕ → ℕ) (p : ℕ → Bool) → every n (λ v. not (eqb (f v) (g v)) || p v) ≡ true
    → (v : ℕ) → v < n → f v ≡ g v → p v ≡ true
tested_if n f g p t v h e = rw (eq-eqb (f v) (g v) e) at (every_at n (λ w. not (eqb (f w) (g w)) || p w) t v h)

-- some number below n, or none, has the value 0
pub some_below : (n : ℕ) (f : ℕ → ℕ) → Dec ((i : ℕ) × (i < n) × (f i ≡ 0))
some_below zero f = no (λ t. omega (arith, t.1))
some_below (suc n) f = go (ℕ_discrete (f n) 0) (some_below n f)
  where
    go : Dec (f n ≡ 0) → Dec ((i : ℕ) × (i < n) × (f i ≡ 0)) → Dec ((i : ℕ) × (i < suc n) × (f i ≡ 0))
    go (yes e) d = yes (n, omega arith, e)
    go (no m) (yes t) = yes (t.0, omega (arith, t.1), t.2)
    go (no m) (no d) = no (λ t. elim (ℕ_discrete t.0 n) [ yes e ↦ m (rw e at t.2) | no l ↦ d (t.0, omega (arith, t.1), t.2) ])

-- SOME ENTRY OF A LIST passes a test, and where none does
abbrev pub any : {A : Type 0} → (A → Bool) → List A → Bool
any p [] = false
any p (x ∷ xs) = p x || any p xs

pub any_none : {A : Type 0} (p : A → Bool) (l : List A) → any p l ≡ false → All (λ x. p x ≡ false) l
any_none p [] e = tt
any_none p (x ∷ l) e = let t = neither (p x) (any p l) e in (t.0, any_none p l t.1)

-- A LIST OF n NUMBERS, none above h
unfoldable pub any_above : (most : ℕ) → List ℕ → Bool
any_above h l = any (ltb h) l

none_above : (h : ℕ) (l : List ℕ) → not (any_above h l) ≡ true → All (λ x. x < suc h) l
unfolding any_above
none_above h l e = all_map (λ x t. omega (arith, ltb-false h x t)) l (any_none (ltb h) l (not-true (any_above h l) e))

above_none : (h : ℕ) (l : List ℕ) → All (λ x. x < suc h) l → any_above h l ≡ false
unfolding any_above
above_none h [] s = refl
above_none h (x ∷ l) s = rw (le-ltb h x (omega (arith, s.0))) (above_none h l s.1)

pub passed : (n h : ℕ) (l : List ℕ) → (eqb (length l) n && not (any_above h l)) ≡ true → (length l ≡ n) × All (λ x. x < suc h) l
passed n h l e = let t = both (eqb (length l) n) (not (any_above h l)) e in (eqb-true (length l) n t.0, none_above h l t.1)

pub passes : (n h : ℕ) (l : List ℕ) → length l ≡ n → All (λ x. x < suc h) l → (eqb (length l) n && not (any_above h l)) ≡ true
passes n h l e s = rw (eq-eqb (length l) n e, above_none h l s)

-- EACH OF 1 .. 5, and each of 0 .. 5
pub one_to_five : (P : ℕ → Type 0) → P 1 → P 2 → P 3 → P 4 → P 5 → (k : ℕ) → 1 ≤ k → k ≤ 5 → P k
one_to_five P a b c d e zero p h = absurd (omega arith)
one_to_five P a b c d e (suc zero) p h = a
one_to_five P a b c d e (suc (suc zero)) p h = b
one_to_five P a b c d e (suc (suc (suc zero))) p h = c
one_to_five P a b c d e (suc (suc (suc (suc zero)))) p h = d
one_to_five P a b c d e (suc (suc (suc (suc (suc zero))))) p h = e
one_to_five P a b c d e (suc (suc (suc (suc (suc (suc k)))))) p h = absurd (omega arith)

pub below_six : (P : ℕ → Type 0) → P 0 → P 1 → P 2 → P 3 → P 4 → P 5 → (i : ℕ) → i < 6 → P i
below_six P z a b c d e zero h = z
below_six P z a b c d e (suc i) h = one_to_five P a b c d e (suc i) (omega arith) (omega arith)
