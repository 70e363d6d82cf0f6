-- Looking for an entry that passes a test: `any` of the definitions is the standard library's `list_any`, which its `any` answers.
-- Main: any_list.
use Rattle.std.specs.Prelude.{◌≡◌, refl, Bool, ◌||◌, List, [], ◌∷◌}
use Rattle.std.specs.List.{list_any}
use Rattle.std.proofs.Common.{ap}
use Rattle.algebra.specs.Tests.{any}

pub any_list : {A : Type 0} (p : A → Bool) (l : List A) → list_any p l ≡ any p l
any_list p [] = refl
any_list p (x ∷ l) = ap (λ b. p x || b) (any_list p l)
