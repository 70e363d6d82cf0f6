-- The end of interpolation: the state knows a polynomial but for its last coefficient, gamma times a small symbol; that the first one is
-- small tells which, and so the polynomial's values.
-- Main: finish, knows_end.
use Rattle.std.specs.Prelude.{◌≡◌, List, [], ◌∷◌, ℕ, ◌%◌, length}
use Rattle.std.proofs.Math.Path.{sym, ap, fun_ext}
use Rattle.std.proofs.Common.{◌∙◌, arith}
use Rattle.std.proofs.Math.Nat.{mod-eq_of_lt}
use Rattle.algebra.specs.Field.{add, minus, times, small, gamma}
use Rattle.algebra.specs.Digits.{digit, add_zero}
use Rattle.algebra.specs.Linear.{at_zero, at_rest, combination, images}
use Rattle.algebra.specs.Products.{ring, products, left, times_whole}
use Rattle.algebra.specs.Inverses.{inverse}
use Rattle.algebra.proofs.Inverses.{divide}
use Rattle.algebra.specs.SmallField.{low, high}
use Rattle.algebra.proofs.SmallField.{small_linear, small_rest, low_small, high_linear, high_small, high_times}
use Rattle.algebra.proofs.Squares.{gamma_high}
use Rattle.algebra.specs.Polynomials.{ev, last}
use Rattle.coding.specs.Cards.{card_images, blend, blend_card, combine_blend}
use Rattle.coding.specs.Interpolation.{State, Left, Knows}

-- which small number the last coefficient is gamma times of: the one that puts the lowest coefficient into the small field; and the values
unfoldable pub last_small : State → ℕ
last_small s = low (times (inverse (small (high (times gamma s.m0)))) (minus 0 (small (high s.g0))))

unfoldable pub finish : State → List ℕ
finish s = blend (times gamma (small (last_small s))) s.G s.M

-- an equation for b
solved : (g w b : ℕ) → add g (times w b) ≡ 0 → minus 0 g ≡ times w b
solved g w b e = before ∙ rw e after
  where
    before : minus 0 g ≡ minus (times w b) (add g (times w b))
    before = simp ring

    after : minus (times w b) 0 ≡ times w b
    after = simp ring

module _ (a b : ℕ) (gs : List ℕ) (end : last (small a) gs ≡ times gamma (small b)) (s : State) where
  module _ (q : ℕ) (K : Left (small a) gs s q []) where
    abbrev w : ℕ
    w = times gamma s.m0

    q_times : (y : ℕ) → times q y ≡ times (times gamma (small b)) y
    unfolding last
    q_times y = sym (at_rest (left y) q) ∙ ap (λ (x : ℕ). times x y) (K.top ∙ ap (λ (x : ℕ). x % 729) end ∙ times_whole gamma (small b))

    lowest : small a ≡ add s.g0 (times w (small b))
    lowest = sym (mod-eq_of_lt (small_linear.below a)) ∙ K.lowest ∙ ap (add s.g0) (q_times s.m0 ∙ simp products)

    none_high : add (small (high s.g0)) (times (small (high w)) (small b)) ≡ 0
    none_high =
        ap (add _) (sym (high_times w b)) ∙ sym (small_linear.sum _ _) ∙ ap small (sym (high_linear.sum s.g0 (times w (small b))))
        ∙ ap (λ (x : ℕ). small (high x)) (sym lowest) ∙ ap small (high_small a) ∙ at_zero small_linear

    last_is : small (last_small s) ≡ small b
    unfolding last_small
    last_is =
        ap (λ (x : ℕ). small (low x))
        (ap (times _) (solved (small (high s.g0)) (small (high w)) (small b) none_high)
        ∙ divide (small (high w)) (small b) (gamma_high s.m0 K.square) ∙ mod-eq_of_lt (small_linear.below b))
        ∙ ap small (low_small b)
        ∙ small_rest b

    images_finish : images (ev (small a ∷ gs)) ≡ finish s
    unfolding finish combination ev
    images_finish =
        let long = K.long_G ∙ sym K.long_M in
        let e = times gamma (small (last_small s)) in
        let values : (v : ℕ) → ev (small a ∷ gs) v ≡ combination (blend e s.G s.M) v =
        λ v. K.values v ∙ ap (add _) (add_zero _ ∙ times_whole _ _ ∙ q_times _) ∙ rw last_is (sym (combine_blend (digit v) _ s.G s.M long)) in
        ap images (fun_ext values) ∙ card_images (blend e s.G s.M) (blend_card e s.G s.M long K.long_G)

  pub knows_end : Knows (small a) gs 0 s → images (ev (small a ∷ gs)) ≡ finish s
  knows_end K = go K.q K.qs K.count K.left
    where
      go : (q : ℕ) (qs : List ℕ) → length qs ≡ 0 → Left (small a) gs s q qs → images (ev (small a ∷ gs)) ≡ finish s
      go q [] e L = images_finish q L
      go q (h ∷ qs) e L = absurd (omega arith)
