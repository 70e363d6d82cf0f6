-- The first number of a range that passes a test.
-- Main: first_from, or_zero, NoneIn, First, search_first, search_none, none_start, none_next.
use Rattle.std.specs.Prelude.{◌≡◌, Bool, cond, ◌↔◌}
use Rattle.std.proofs.Math.Path.{refl}
use Rattle.std.proofs.Common.{sym, ap, ◌∙◌, true≢false, arith}
use Rattle.std.proofs.Math.Bool.{true, false}
use Rattle.std.proofs.Math.Option.{Option, none, some}
use Prim.Native.Nat.{ℕ, zero, suc, ◌+◌, ◌≤◌, ◌<◌}
use Rattle.std.proofs.Math.Decide.{ℕ_discrete}

-- the first of `left` numbers from n on that passes, if any
unfoldable pub first_from : (left n : ℕ) → (ℕ → Bool) → Option ℕ
first_from zero n p = none
first_from (suc k) n p = cond (p n) (some n) (first_from k (suc n) p)

-- as a number, 0 where there is none
abbrev pub or_zero : Option ℕ → ℕ
or_zero none = 0
or_zero (some n) = n

module _ (p : ℕ → Bool) where
  -- no number from a on and below b passes
  abbrev pub NoneIn : (a b : ℕ) → Type 0
  NoneIn a b = (i : ℕ) → a ≤ i → i < b → p i ≡ false

  -- of the numbers from a on and below b, n is the first that passes
  pub record First (a b n : ℕ) : Type 0 where
    pub low : a ≤ n
    pub high : n < b
    pub passes : p n ≡ true
    pub before : NoneIn a n

  -- A LOOP that tries them in turn: at its start none was tried, and each turn adds one that did not pass
  pub none_start : (a : ℕ) → NoneIn a a
  none_start a i l h = absurd (omega arith)

  pub none_next : (a n : ℕ) → NoneIn a n → p n ≡ false → NoneIn a (n + 1)
  none_next a n f e i l h = elim (ℕ_discrete i n) [ yes q ↦ rw q e | no d ↦ f i l (omega arith) ]

  -- one more in front
  none_ahead : (a b : ℕ) → p a ≡ false → NoneIn (suc a) b → NoneIn a b
  none_ahead a b e f i l h = elim (ℕ_discrete i a) [ yes q ↦ rw q e | no d ↦ f i (omega arith) h ]

  -- THE FIRST: there is none where no number passes, and never a second
  none_passes : (a b : ℕ) → NoneIn a b → (n : ℕ) → First a b n → ⊥
  none_passes a b f n g = true≢false (sym g.passes ∙ f n g.low g.high)

  not_after : (a b m n : ℕ) → First a b m → First a b n → m < n → ⊥
  not_after a b m n f g h = true≢false (sym f.passes ∙ g.before m f.low h)

  first_only : (a b m n : ℕ) → First a b m → First a b n → m ≡ n
  first_only a b m n f g =
      let l = not_after a b m n f g in
      let r = not_after a b n m g f in
      omega arith

  -- WHAT IS FOUND of the numbers from a on and below b is the first, or there is none
  data Found (a b : ℕ) : Option ℕ → Type 0 where
    nothing : NoneIn a b → Found a b none
    something : (n : ℕ) → First a b n → Found a b (some n)

  found_next : (a b : ℕ) → p a ≡ false → (o : Option ℕ) → Found (suc a) b o → Found a b o
  found_next a b e none (nothing f) = nothing (none_ahead a b e f)
  found_next a b e (some n) (something _ f) =
      something n (record { low = omega (arith, f.low); high = f.high; passes = f.passes; before = none_ahead a n e f.before })

  found : (k a b : ℕ) → a + k ≡ b → Found a b (first_from k a p)
  unfolding first_from
  found zero a b s = nothing (λ i l h. absurd (omega arith))
  found (suc k) a b s = go (p a) refl (found k (suc a) b (omega arith))
    where
      go : (t : Bool) → p a ≡ t → Found (suc a) b (first_from k (suc a) p) → Found a b (cond t (some a) (first_from k (suc a) p))
      go true e f = something a (record { low = omega arith; high = omega arith; passes = e; before = none_start a })
      go false e f = found_next a b e _ f

  module _ (k a b : ℕ) (s : a + k ≡ b) where
    pub search_first : (n : ℕ) → (first_from k a p ≡ some n) ↔ First a b n
    search_first n = go (first_from k a p) (found k a b s)
      where
        go : (o : Option ℕ) → Found a b o → (o ≡ some n) ↔ First a b n
        go none (nothing f) = ((λ e. absurd (let z : ◌≡◌ {A = ℕ} 0 1 = cc in omega arith)), λ g. absurd (none_passes a b f n g))
        go (some m) (something _ f) = ((λ e. let q : m ≡ n = cc in rw (← q) f), λ g. ap some (first_only a b m n f g))

    pub search_none : (first_from k a p ≡ none) ↔ NoneIn a b
    search_none = go (first_from k a p) (found k a b s)
      where
        go : (o : Option ℕ) → Found a b o → (o ≡ none) ↔ NoneIn a b
        go none (nothing f) = ((λ e. f), λ g. refl)
        go (some m) (something _ f) = ((λ e. absurd (let z : ◌≡◌ {A = ℕ} 0 1 = cc in omega arith)), λ g. absurd (none_passes a b g m f))
