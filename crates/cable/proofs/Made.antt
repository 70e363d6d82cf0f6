-- An array made by a function of the index, whose calls give v: it is v at each index.
-- Main: made, by_index.
use Rattle.std.proofs.Common.{◌≡◌, Bool, true, false, ltb, ℕ, zero, suc, ◌+◌, ◌≤◌, ◌<◌, List, length, get_or, map, refl, ◌∙◌, subst, arith, ltb-true, ltb-false}
use Rattle.std.specs.Array.{IsFromFnResult, IsFromFnResultFrom}
use Rattle.std.specs.List.{range_with_len}
use Rattle.std.proofs.lemmas.List.{get_or-map, length-map}
use Rattle.std.proofs.lemmas.List.FromFn.{fill_by_all}
use denote.Param.Members.{Mut, Called}

first_or_later : (P : ℕ → Type 0) (i j : ℕ) → i ≤ j → P i → (i + 1 ≤ j → P j) → P j
first_or_later P i j h p k = go (ltb i j) refl
  where
    go : (b : Bool) → ltb i j ≡ b → P j
    go true t = k (omega (arith, ltb-true i j t))
    go false t = let here : j ≡ i = omega (arith, ltb-false i j t) in rw here p

module _ {F B : Type 0} (g : Mut F (ℕ × Unit {0}) B) (f : F) (v : ℕ → B) (ys : List B) where
  -- of the n calls at the numbers from i on
  made_from : (n i : ℕ) → ((j : ℕ) (y : B) (q : F) → i ≤ j → j < i + n → Called g f (j, tt) y q → (q ≡ f) × (y ≡ v j)) → IsFromFnResultFrom g f ys i n
      → (j : ℕ) → i ≤ j → j < i + n → (e : B) → get_or ys j e ≡ v j
  made_from zero i h r j l u e = absurd (omega arith)
  made_from (suc n) i h (q, y, at, called, rest) j l u e =
      let said : (q ≡ f) × (y ≡ v i) = h i y q (omega arith) (omega arith) called in
      let after : IsFromFnResultFrom g f ys (i + 1) n = subst (λ (s : F). IsFromFnResultFrom g s ys (i + 1) n) said.0 rest in
      first_or_later (λ (k : ℕ). get_or ys k e ≡ v k) i j l (at.1 e ∙ said.1)
      (λ m. made_from n (i + 1) (λ k z p a b c. h k z p (omega arith) (omega arith) c) after j m (omega arith) e)

  pub made : (n : ℕ) → B → ((j : ℕ) (y : B) (q : F) → j < n → Called g f (j, tt) y q → (q ≡ f) × (y ≡ v j)) → IsFromFnResult g f ys n → ys ≡ map v (range_with_len 0 n)
  made n e h r = fill_by_all v ys n e r.long (λ k l. made_from n 0 (λ j y q a b c. h j y q (omega arith) c) r.each k (omega arith) (omega arith) e)

-- a list's values of a function, by index
pub by_index : {A B : Type 0} (f : A → B) (xs : List A) (d : A) (n : ℕ) → length xs ≡ n → map f xs ≡ map (λ i. f (get_or xs i d)) (range_with_len 0 n)
by_index f xs d n h = fill_by_all (λ i. f (get_or xs i d)) (map f xs) n (f d) (length-map xs f ∙ h) (λ k l. get_or-map f xs k d (f d) (omega arith))
