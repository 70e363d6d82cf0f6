-- The rank of the difference of two cards is a metric, and at most 6.
-- Main: rank_even, apart_sym, apart_self, apart_zero, apart_triangle.
use Rattle.std.specs.Prelude.{◌≡◌, refl, true, List, [], ◌∷◌, ◌++◌, ℕ, ◌+◌, ◌%◌, ◌≤◌, ◌<◌, length}
use Rattle.std.proofs.Common.{sym, ap, ◌∙◌, le_antisymm, arith, length-append}
use Rattle.algebra.specs.Field.{add, scale, minus}
use Rattle.algebra.specs.Lists.{cons, All}
use Rattle.algebra.specs.Tests.{passed}
use Rattle.algebra.specs.Sums.{Zero, sums, minus_self, minus_none}
use Rattle.algebra.specs.Combinations.{Span, span_add, span_scale, span_like, span_left, span_right}
use Rattle.rank.specs.Definitions.{difference, apart, is_card}
use Rattle.rank.specs.Echelon.{rank_echelon, rank_least, rank_zero, zero_rank, rank_at_most}

-- SYMMETRY: what spans the one difference spans the other
turned : (ps c d : List ℕ) → All (Span ps) (difference c d) → All (Span ps) (difference d c)
unfolding difference
turned ps [] [] h = tt
turned ps [] (y ∷ d) h = tt
turned ps (x ∷ c) [] h = tt
turned ps (x ∷ c) (y ∷ d) h = (span_like (negative x y) (span_scale 2 h.0), turned ps c d h.1)
  where
    negative : (x y : ℕ) → scale 2 (minus x y) % 729 ≡ minus y x % 729
    negative x y = simp sums

apart_le : (c d : List ℕ) → apart d c ≤ apart c d
unfolding apart
apart_le c d =
    let t = rank_echelon (difference c d) in
    omega (arith, t.count, rank_least (difference d c) t.by (turned t.by c d t.spans))

pub apart_sym : (c d : List ℕ) → apart c d ≡ apart d c
apart_sym c d = le_antisymm (apart_le d c) (apart_le c d)

-- ZERO for equal cards, and only for them
pub apart_self : (c : List ℕ) → apart c c ≡ 0
unfolding apart difference
apart_self c = zero_rank (difference c c) (go c)
  where
    go : (c : List ℕ) → All Zero (difference c c)
    go [] = tt
    go (x ∷ c) = (ap (λ (n : ℕ). n % 729) (minus_self x), go c)

pub difference_none : (c d : List ℕ) → length c ≡ length d → All (λ s. s < 729) c → All (λ s. s < 729) d → All Zero (difference c d) → c ≡ d
unfolding difference
difference_none [] [] e h k z = refl
difference_none [] (y ∷ d) e h k z = absurd (omega arith)
difference_none (x ∷ c) [] e h k z = absurd (omega arith)
difference_none (x ∷ c) (y ∷ d) e h k z =
    cons (omega (arith, minus_none x y z.0)) (difference_none c d (omega arith) h.1 k.1 z.1)

pub apart_zero : (c d : List ℕ) → is_card c ≡ true → is_card d ≡ true → apart c d ≡ 0 → c ≡ d
unfolding apart is_card
apart_zero c d u v z =
    let (k, h) = passed 6 728 c u in
    let (l, i) = passed 6 728 d v in
    difference_none c d (k ∙ sym l) h i (rank_zero (difference c d) z)

-- THE TRIANGLE
joined : (ps qs c d e : List ℕ) → length c ≡ length d → length d ≡ length e
    → All (Span ps) (difference c d) → All (Span qs) (difference d e) → All (Span (ps ++ qs)) (difference c e)
unfolding difference
joined ps qs [] d e k l g h = tt
joined ps qs (x ∷ c) [] e k l g h = absurd (omega arith)
joined ps qs (x ∷ c) (y ∷ d) [] k l g h = tt
joined ps qs (x ∷ c) (y ∷ d) (z ∷ e) k l g h =
    (span_like (through x y z) (span_add (span_left qs g.0) (span_right ps h.0)), joined ps qs c d e (omega arith) (omega arith) g.1 h.1)
  where
    through : (x y z : ℕ) → add (minus x y) (minus y z) % 729 ≡ minus x z % 729
    through x y z = simp sums

pub apart_triangle : (c d e : List ℕ) → length c ≡ length d → length d ≡ length e → apart c e ≤ apart c d + apart d e
unfolding apart
apart_triangle c d e k l =
    let s = rank_echelon (difference c d) in
    let t = rank_echelon (difference d e) in
    omega (
      arith,
      s.count,
      t.count,
      length-append s.by t.by,
      rank_least (difference c e) (s.by ++ t.by) (joined s.by t.by c d e k l s.spans t.spans),
    )

-- DOCUMENT 03: the rank of a difference is the same either way, and 0 exactly for equal cards
unfoldable pub RankEven : Type 0
RankEven =
    (c d : List ℕ) → is_card c ≡ true → is_card d ≡ true → (apart c d ≡ apart d c) × (apart c d ≤ 6) × (apart c d ≡ 0 → c ≡ d) × (apart c c ≡ 0)

pub rank_even : RankEven
unfolding RankEven apart
rank_even c d u v = (apart_sym c d, rank_at_most (difference c d), apart_zero c d u v, apart_self c)
