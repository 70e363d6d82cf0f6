-- An array that the library's `from_fn` makes: where each call gives f of its index, it is the list of these.
-- Main: made.
use Rattle.std.specs.Prelude.{◌≡◌, List, ℕ, zero, suc, ◌+◌, ◌≤◌, ◌<◌, get_or}
use Rattle.std.specs.Array.{IsFromFnResultFrom, IsFromFnResult}
use Rattle.std.proofs.Common.{sym, ◌∙◌, ap, arith}
use Rattle.std.proofs.Math.Decide.{ℕ_discrete}
use denote.Param.Members.{Mut, Called}
use Rattle.algebra.specs.Lists.{table, table_at, table_same}

module _ {F : Type 0} (g : Mut F (ℕ × Unit {0}) ℕ) (f : ℕ → ℕ) (p : F) (s : (x r : ℕ) (q : F) → Called g p (x, tt) r q → (q ≡ p) × (r ≡ f x)) where
  made_from : (n i : ℕ) (ys : List ℕ) → IsFromFnResultFrom g p ys i n → (k : ℕ) → i ≤ k → k < i + n → get_or ys k 0 ≡ f k
  made_from zero i ys r k l h = absurd (omega arith)
  made_from (suc n) i ys (q, y, e, c, r) k l h =
      let (w, v) = s i y q c in
      elim (ℕ_discrete k i) [ yes z ↦ rw z (e.1 0 ∙ v) | no d ↦ made_from n (i + 1) ys (rw w at r) k (omega arith) (omega arith) ]

  pub made : (ys : List ℕ) (n : ℕ) → IsFromFnResult g p ys n → ys ≡ table n f
  made ys n r =
      sym (table_at ys) ∙ ap (λ (m : ℕ). table m (λ i. get_or ys i 0)) r.long ∙ table_same n _ f (λ i h. made_from n 0 ys r.each i (omega arith) (omega arith))
