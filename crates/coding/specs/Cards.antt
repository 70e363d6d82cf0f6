-- Cards as linear functions: a card's function is the combination of its symbols, and it has them as values at 1, z, .. z^5.
-- Main: card_table, card_images, combine_blend, blend_card.
use Rattle.std.specs.Prelude.{◌≡◌, refl, true, List, [], ◌∷◌, ℕ, zero, suc, ◌%◌, ◌<◌, length}
use Rattle.std.proofs.Common.{sym, ap, ap₂, ◌∙◌, mod-eq_of_lt, arith}
use Rattle.algebra.specs.Field.{digits, digits_of, add, times}
use Rattle.rank.specs.Definitions.{at, is_card}
use Rattle.algebra.specs.Lists.{All, table, table_same, table_at}
use Rattle.algebra.specs.Tests.{passed, passes}
use Rattle.algebra.specs.Digits.{add_below, scale_add}
use Rattle.algebra.specs.Sums.{sums, add_swap}
use Rattle.algebra.specs.Combinations.{combine}
use Rattle.algebra.specs.Linear.{at_scale, combination, images}
use Rattle.algebra.specs.Products.{ring, right, times_add}

pub at_whole : (xs : List ℕ) → All (λ x. x < 729) xs → (i : ℕ) → at xs i % 729 ≡ at xs i
unfolding at
at_whole [] h i = refl
at_whole (x ∷ xs) h zero = mod-eq_of_lt h.0
at_whole (x ∷ xs) h (suc i) = at_whole xs h.1 i

-- a card is the list of its symbols
pub card_table : (c : List ℕ) → is_card c ≡ true → (f : ℕ → ℕ) → ((s : ℕ) → s < 6 → f s ≡ at c s % 729) → table 6 f ≡ c
unfolding is_card at
card_table c e f h =
    let (len, below) = passed 6 728 c e in
    table_same 6 f (at c) (λ s l. h s l ∙ at_whole c below s) ∙ rw (← len) (table_at c)

-- A CARD is the values of its function at the basis
picked : (f : ℕ → ℕ) → images (combination (table 6 f)) ≡ table 6 (λ s. f s % 729)
unfolding table combination combine digits digits_of
picked f = simp sums

pub card_images : (c : List ℕ) → is_card c ≡ true → images (combination c) ≡ c
unfolding is_card at
card_images c card =
    let listed : table 6 (at c) ≡ c = rw (← (passed 6 728 c card).0) (table_at c) in
    ap (λ (d : List ℕ). images (combination d)) (sym listed) ∙ picked (at c) ∙ card_table c card _ (λ s h. refl)

-- A BLEND: a card plus e times another
unfoldable pub blend : (e : ℕ) → List ℕ → List ℕ → List ℕ
blend e [] ms = []
blend e (g ∷ gs) [] = []
blend e (g ∷ gs) (m ∷ ms) = add g (times e m) ∷ blend e gs ms

pub blend_length : (e : ℕ) (gs ms : List ℕ) → length gs ≡ length ms → length (blend e gs ms) ≡ length gs
unfolding blend
blend_length e [] ms l = refl
blend_length e (g ∷ gs) [] l = absurd (omega arith)
blend_length e (g ∷ gs) (m ∷ ms) l = ap suc (blend_length e gs ms (omega arith))

pub blend_card : (e : ℕ) (gs ms : List ℕ) → length gs ≡ length ms → length gs ≡ 6 → is_card (blend e gs ms) ≡ true
unfolding is_card blend
blend_card e gs ms l six = passes 6 728 (blend e gs ms) (blend_length e gs ms l ∙ six) (below gs ms)
  where
    below : (gs ms : List ℕ) → All (λ x. x < 729) (blend e gs ms)
    below [] ms = tt
    below (g ∷ gs) [] = tt
    below (g ∷ gs) (m ∷ ms) = (add_below g _, below gs ms)

-- its function
pub combine_blend : (a : ℕ → ℕ) (e : ℕ) (gs ms : List ℕ) → length gs ≡ length ms
    → combine a (blend e gs ms) ≡ add (combine a gs) (times e (combine a ms))
unfolding combine blend
combine_blend a e [] [] l = simp ring
combine_blend a e [] (m ∷ ms) l = absurd (omega arith)
combine_blend a e (g ∷ gs) [] l = absurd (omega arith)
combine_blend a e (g ∷ gs) (m ∷ ms) l =
    ap₂ add (scale_add (a 0) g (times e m)) (combine_blend _ e gs ms (omega arith))
    ∙ rw (← at_scale (right e) (a 0) m, times_add) (add_swap _ _ _ _)
