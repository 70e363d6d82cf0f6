-- The spectrum of a card c: the symbols R(0) .. R(5) for which R(0) y + R(1) y³ + .. + R(5) y^243 takes c's symbols at 1, z, .. z^5. The
-- list delta reads them off: R(i) is the total of c(s) times the 3^i-th power of delta(s).
-- Main: spectrum_images, images_spectrum, from_weighted.
use Rattle.std.specs.Prelude.{◌≡◌, refl, true, List, [], ◌∷◌, ℕ, zero, suc, ◌+◌, ◌-◌, ◌%◌, ◌≤◌, ◌<◌, eqb, length}
use Rattle.std.proofs.Common.{sym, ap, ap₂, ◌∙◌, arith}
use Rattle.algebra.specs.Field.{add, times, power, risen}
use Rattle.rank.specs.Definitions.{at, is_card}
use Rattle.coding.specs.Code.{weighted}
use Rattle.algebra.specs.Lists.{table, at_table}
use Rattle.algebra.specs.Tests.{every, tested_2}
use Rattle.algebra.specs.Sums.{add_whole}
use Rattle.algebra.specs.Linear.{computing, images}
use Rattle.algebra.specs.Products.{times_comm, zero_times}
use Rattle.coding.specs.Cards.{card_table}
use Rattle.algebra.specs.Totals.{total, total_same, total_none, diagonal, diagonal_turned, undone}
use Rattle.algebra.specs.Polynomials.{ev}

-- delta AND THE POWERS OF z are inverse squares, in both orders
unfoldable pub delta : List ℕ
delta = 396 ∷ 420 ∷ 500 ∷ 677 ∷ 61 ∷ 319 ∷ []

unfoldable pub risen_z : (i s : ℕ) → ℕ
risen_z i s = risen i (power 3 s)

unfoldable pub risen_delta : (s i : ℕ) → ℕ
risen_delta s i = risen i (at delta s)

z_delta_test : every 6 (λ i. every 6 (λ j. eqb (total 6 0 (λ s. times (risen_z i s) (risen_delta s j))) (diagonal i j))) ≡ true
unfolding computing total power at delta diagonal risen_z risen_delta
z_delta_test = refl

delta_z_test : every 6 (λ s. every 6 (λ t. eqb (total 6 0 (λ i. times (risen_delta s i) (risen_z i t))) (diagonal s t))) ≡ true
unfolding computing total power at delta diagonal risen_z risen_delta
delta_z_test = refl

z_delta : (i j : ℕ) → i < 6 → j < 6 → total 6 0 (λ s. times (risen_z i s) (risen_delta s j)) ≡ diagonal i j
z_delta = tested_2 6 6 _ diagonal z_delta_test

delta_z : (s t : ℕ) → s < 6 → t < 6 → total 6 0 (λ i. times (risen_delta s i) (risen_z i t)) ≡ diagonal s t
delta_z = tested_2 6 6 _ diagonal delta_z_test

-- the second with its factors and its numbers the other way round
delta_z_turned : (s t : ℕ) → s < 6 → t < 6 → total 6 0 (λ i. times (risen_z i s) (risen_delta t i)) ≡ diagonal s t
delta_z_turned s t p q =
    total_same 6 0 _ _ (λ i u v. times_comm (risen_z i s) (risen_delta t i)) ∙ delta_z t s q p ∙ diagonal_turned s t p q

-- THE SPECTRUM
unfoldable pub spectrum : (card : List ℕ) → (i : ℕ) → ℕ
spectrum c i = total 6 0 (λ s. times (at c s) (risen_delta s i))

pub spectrum_whole : (c : List ℕ) (i : ℕ) → spectrum c i % 729 ≡ spectrum c i
unfolding spectrum total
spectrum_whole c i = add_whole _ _

-- a polynomial's value as a total, its coefficients being f i, f (i + 1), ..
ev_total : (gs : List ℕ) (f : ℕ → ℕ) (n i : ℕ) → length gs ≤ n → ((j : ℕ) → j < n → at gs j ≡ f (i + j))
    → (y : ℕ) → ev gs (risen i y) ≡ total n i (λ j. times (f j) (risen j y))
unfolding ev total at risen
ev_total [] f n i h e y = sym (total_none n i _ (λ j p q.
    let l : i + (j - i) ≡ j = omega arith in
    ap (λ (x : ℕ). times x (risen j y)) (rw l at (sym (e (j - i) (omega arith)))) ∙ zero_times _))
ev_total (g ∷ gs) f zero i h e y = absurd (omega arith)
ev_total (g ∷ gs) f (suc n) i h e y =
    ap₂ add (ap (λ (x : ℕ). times x (risen i y)) (e 0 (omega arith) ∙ ap f (omega arith)))
    (ev_total gs f n (suc i) (omega arith) (λ j p. e (suc j) (omega arith) ∙ ap f (omega arith)) y)

ev_power : (gs : List ℕ) (f : ℕ → ℕ) → length gs ≤ 6 → ((i : ℕ) → i < 6 → at gs i ≡ f i)
    → (s : ℕ) → ev gs (power 3 s) ≡ total 6 0 (λ i. times (f i) (risen_z i s))
unfolding risen risen_z
ev_power gs f l e s = ev_total gs f 6 0 l (λ j p. e j p ∙ ap f (omega arith)) (power 3 s)

at_images : (f : ℕ → ℕ) (s : ℕ) → s < 6 → at (images f) s ≡ f (power 3 s)
unfolding at power computing table
at_images f = at_table 6 (λ s. f (power 3 s))

-- THE SPECTRUM OF A POLYNOMIAL'S VALUES is its coefficients
pub spectrum_images : (gs : List ℕ) → length gs ≤ 6 → (i : ℕ) → i < 6 → spectrum (images (ev gs)) i ≡ at gs i % 729
unfolding spectrum
spectrum_images gs l i h =
    total_same 6 0 _ _ (λ s p q. ap (λ (x : ℕ). times x (risen_delta s i)) (at_images (ev gs) s (omega arith) ∙ ev_power gs (at gs) l (λ j r. refl) s))
    ∙ undone (at gs) risen_z risen_delta z_delta i h

-- AND A CARD is the values of the polynomial whose coefficients are its spectrum
pub images_spectrum : (c gs : List ℕ) → is_card c ≡ true → length gs ≤ 6 → ((i : ℕ) → i < 6 → at gs i ≡ spectrum c i) → images (ev gs) ≡ c
unfolding spectrum table power computing
images_spectrum c gs card l e =
    card_table c card (λ s. ev gs (power 3 s)) (λ s h. ev_power gs (spectrum c) l e s ∙ undone (at c) risen_delta risen_z delta_z s h)

-- the weighted sums of a card give it back, too
weighted_total : (c : List ℕ) (i : ℕ) → weighted 6 0 i c ≡ total 6 0 (λ s. times (at c s) (risen_z i s))
unfolding weighted total risen_z
weighted_total c i = simp times_comm

pub from_weighted : (c : List ℕ) → is_card c ≡ true → table 6 (λ s. total 6 0 (λ i. times (weighted 6 0 i c) (risen_delta s i))) ≡ c
from_weighted c card = card_table c card _ (λ s h.
    total_same 6 0 _ _ (λ i p q. ap (λ (x : ℕ). times x (risen_delta s i)) (weighted_total c i))
    ∙ undone (at c) (λ t i. risen_z i t) (λ i t. risen_delta t i) delta_z_turned s h)
