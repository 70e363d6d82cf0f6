-- Strikes as a list of numbers: bell, force, delay by turns from the first.
-- Main: strikes_bad, strikes, strike_numbers; strikes_numbers, numbers_strikes, length_strikes, length_numbers,
-- numbers_append, strikes_at, strikes_end, strikes_range, range_numbers; beyond_next, beyond_here, beyond_end.
use Rattle.std.specs.Prelude.{◌≡◌, refl, Bool, true, false, ◌||◌, List, [], ◌∷◌, ◌++◌, ℕ, zero, suc, ◌+◌, ◌*◌, ◌≤◌, ◌<◌, ltb, length, get_or, drop}
use Rattle.std.proofs.Common.{ap, add-one, arith, length-drop, drop_of_length-le}
use Rattle.std.proofs.Math.Seq.{drop-cons}
use borrow.Author.Tests.{lt-ltb, le-ltb, ltb-false}
use Rattle.algebra.specs.Lists.{All, cons}
use Rattle.algebra.specs.Tests.{neither}
use Rattle.strike.specs.declared.Strike.{Strike}
use Rattle.strike.specs.Strikes.{bell_most, force_most, delay_most, in_range, range_parts, parts_range}

-- some number is above its bound: three bounds by turns
unfoldable pub any_beyond : (most next last : ℕ) → List ℕ → Bool
any_beyond a b c [] = false
any_beyond a b c (n ∷ ns) = ltb a n || any_beyond b c a ns

-- some number of a list of strikes is out of its range, though the list may end within a strike
abbrev pub strikes_bad : List ℕ → Bool
strikes_bad ns = any_beyond bell_most force_most delay_most ns

-- the strikes of a list, three numbers each
unfoldable pub strikes : List ℕ → List Strike
strikes [] = []
strikes (b ∷ []) = []
strikes (b ∷ f ∷ []) = []
strikes (b ∷ f ∷ d ∷ ns) = record { bell = b; force = f; delay = d } ∷ strikes ns

-- the numbers of strikes
unfoldable pub strike_numbers : List Strike → List ℕ
strike_numbers [] = []
strike_numbers (s ∷ ss) = s.bell ∷ s.force ∷ s.delay ∷ strike_numbers ss

-- BOTH WAYS: strikes come back from their numbers, and numbers, three for each strike, from their strikes
pub strikes_numbers : (ss : List Strike) → strikes (strike_numbers ss) ≡ ss
unfolding strikes strike_numbers
strikes_numbers [] = refl
strikes_numbers (s ∷ ss) = cons refl (strikes_numbers ss)

pub numbers_strikes : (n : ℕ) (ns : List ℕ) → length ns ≡ 3 * n → strike_numbers (strikes ns) ≡ ns
unfolding strikes strike_numbers
numbers_strikes n [] e = refl
numbers_strikes n (b ∷ []) e = absurd (omega arith)
numbers_strikes n (b ∷ f ∷ []) e = absurd (omega arith)
numbers_strikes zero (b ∷ f ∷ d ∷ ns) e = absurd (omega arith)
numbers_strikes (suc n) (b ∷ f ∷ d ∷ ns) e = cons refl (cons refl (cons refl (numbers_strikes n ns (omega arith))))

-- HOW MANY
pub length_strikes : (n : ℕ) (ns : List ℕ) → length ns ≡ 3 * n → length (strikes ns) ≡ n
unfolding strikes
length_strikes zero [] e = refl
length_strikes (suc n) [] e = absurd (omega arith)
length_strikes n (b ∷ []) e = absurd (omega arith)
length_strikes n (b ∷ f ∷ []) e = absurd (omega arith)
length_strikes zero (b ∷ f ∷ d ∷ ns) e = absurd (omega arith)
length_strikes (suc n) (b ∷ f ∷ d ∷ ns) e = ap suc (length_strikes n ns (omega arith))

pub length_numbers : (ss : List Strike) → length (strike_numbers ss) ≡ 3 * length ss
unfolding strike_numbers
length_numbers [] = refl
length_numbers (s ∷ ss) = omega (arith, length_numbers ss)

pub numbers_append : (ss ts : List Strike) → strike_numbers (ss ++ ts) ≡ strike_numbers ss ++ strike_numbers ts
unfolding strike_numbers
numbers_append [] ts = refl
numbers_append (s ∷ ss) ts = cons refl (cons refl (cons refl (numbers_append ss ts)))

-- FROM A PLACE ON: the strike whose numbers stand there, and those after it
pub strikes_at : (ns : List ℕ) (i : ℕ) → i + 2 < length ns
    → strikes (drop i ns) ≡ record { bell = get_or ns i 0; force = get_or ns (i + 1) 0; delay = get_or ns (i + 2) 0 } ∷ strikes (drop (i + 3) ns)
unfolding strikes
strikes_at ns i h =
    let a : i + 1 ≡ suc i = omega arith in
    let b : i + 2 ≡ suc (suc i) = omega arith in
    let c : i + 3 ≡ suc (suc (suc i)) = omega arith in
    rw (a, b, c, drop-cons ns i 0 (omega arith), drop-cons ns (suc i) 0 (omega arith), drop-cons ns (suc (suc i)) 0 (omega arith))

-- fewer than three numbers are no strike
strikes_few : (ns : List ℕ) → length ns ≤ 2 → strikes ns ≡ []
unfolding strikes
strikes_few [] h = refl
strikes_few (b ∷ []) h = refl
strikes_few (b ∷ f ∷ []) h = refl
strikes_few (b ∷ f ∷ d ∷ ns) h = absurd (omega arith)

pub strikes_end : (ns : List ℕ) (i : ℕ) → length ns ≤ i + 2 → strikes (drop i ns) ≡ []
strikes_end ns i h = strikes_few (drop i ns) (rw length-drop (omega arith))

-- THE RANGES of all strikes
pub strikes_range : (ns : List ℕ) → strikes_bad ns ≡ false → All (λ s. in_range s ≡ true) (strikes ns)
unfolding strikes any_beyond
strikes_range [] e = tt
strikes_range (b ∷ []) e = tt
strikes_range (b ∷ f ∷ []) e = tt
strikes_range (b ∷ f ∷ d ∷ ns) e =
    let x = neither (ltb bell_most b) _ e in
    let y = neither (ltb force_most f) _ x.1 in
    let z = neither (ltb delay_most d) _ y.1 in
    (parts_range _ (ltb-false bell_most b x.0) (ltb-false force_most f y.0) (ltb-false delay_most d z.0), strikes_range ns z.1)

pub range_numbers : (ss : List Strike) → All (λ s. in_range s ≡ true) ss → strikes_bad (strike_numbers ss) ≡ false
unfolding strike_numbers any_beyond
range_numbers [] r = refl
range_numbers (s ∷ ss) r =
    let (b, f, d) = range_parts s r.0 in
    rw (le-ltb bell_most s.bell b, le-ltb force_most s.force f, le-ltb delay_most s.delay d) (range_numbers ss r.1)

-- THE TEST from place i on
module _ (a b c i : ℕ) (ns : List ℕ) where
  pub beyond_next : i < length ns → get_or ns i 0 ≤ a → any_beyond a b c (drop i ns) ≡ any_beyond b c a (drop (i + 1) ns)
  unfolding any_beyond
  beyond_next l e = rw (add-one i, drop-cons ns i 0 l, le-ltb a (get_or ns i 0) e)

  pub beyond_here : i < length ns → a < get_or ns i 0 → any_beyond a b c (drop i ns) ≡ true
  unfolding any_beyond
  beyond_here l e = rw (drop-cons ns i 0 l, lt-ltb a (get_or ns i 0) e)

  pub beyond_end : length ns ≤ i → any_beyond a b c (drop i ns) ≡ false
  unfolding any_beyond
  beyond_end l = rw (drop_of_length-le ns l)
