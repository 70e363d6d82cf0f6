-- Filling a list from another, entry by entry.
-- Main: filled_with, filled_next, filled_end, filled_all, filled_rest.
use Rattle.std.specs.Prelude.{◌≡◌, refl, List, [], ◌∷◌, ◌++◌, ℕ, ◌+◌, ◌≤◌, ◌<◌, length, take, drop, set, get_or}
use Rattle.std.proofs.Common.{sym, ap, ap₂, ◌∙◌, add-one, arith, length-drop, take-suc, take-suc-set, take_all}

-- one more entry x, which is the other list's (d stands where it has none)
pub filled_with : {A : Type 0} (d x : A) (to from : List A) (i : ℕ) → i < length to → i < length from → x ≡ get_or from i d → take i to ≡ take i from
    → take (i + 1) (set to i x) ≡ take (i + 1) from
filled_with {A} d x to from i h k s e =
    rw (add-one i) (take-suc-set to i x h ∙ ap₂ (λ (ys : List A) (y : A). ys ++ (y ∷ [])) e s ∙ sym (take-suc from i d k))

-- one more entry taken over
pub filled_next : (to from : List ℕ) (i : ℕ) → i < length to → i < length from → take i to ≡ take i from
    → take (i + 1) (set to i (get_or from i 0)) ≡ take (i + 1) from
filled_next to from i h k e = filled_with 0 _ to from i h k refl e

-- all of them
pub filled_end : {A : Type 0} (to from : List A) (i n : ℕ) → length to ≡ n → n ≤ i → i ≤ n → take i to ≡ take i from → to ≡ take n from
filled_end to from i n l a b e = let h : i ≡ n = omega arith in sym (take_all n to (omega arith)) ∙ (rw h at e)

-- all of the other list
pub filled_all : (to from : List ℕ) (i : ℕ) → length from ≤ i → i ≤ length from → take i to ≡ take i from → take (length from) to ≡ from
filled_all to from i a b e = let h : i ≡ length from = omega arith in (rw h at e) ∙ take_all (length from) from (omega arith)

-- all of a part that goes from a place to the end
pub filled_rest : (to from new : List ℕ) (i m n : ℕ) → to ≡ take n (take m (drop i from)) → drop i from ≡ new → length from ≤ i + m → length from ≤ i + n → to ≡ new
filled_rest to from new i m n t e h k =
    t ∙ ap (take n) (take_all m (drop i from) (simp length-drop (omega arith))) ∙ take_all n (drop i from) (simp length-drop (omega arith)) ∙ e
