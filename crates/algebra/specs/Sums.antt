-- More laws of add, scale and minus, and the ruleset by which `simp` proves equations between sums.
-- Main: the ruleset sums, thrice, minus_add, minus_none.
use Rattle.std.specs.Prelude.{◌≡◌, refl, ℕ, ◌*◌, ◌%◌}
use Rattle.std.proofs.Common.{sym, ap, ◌∙◌, mod-eq_of_lt, arith}
use Rattle.std.proofs.Math.Nat.{mod-mod}
use Rattle.algebra.specs.Field.{add, scale, minus}
use Rattle.algebra.specs.Digits.{add_comm, add_assoc, add_zero, add_below, scale_zero, scale_suc, scale_same, scale_scale, scale_add, scale_below}

-- a number that stands for the symbol 0
abbrev pub Zero : ℕ → Type 0
Zero a = a % 729 ≡ 0

pub add_left : (a b c : ℕ) → add a (add b c) ≡ add b (add a c)
add_left a b c = cc (add_assoc a b c, add_assoc b a c, add_comm a b)

pub rest_rest : (a : ℕ) → a % 729 % 729 ≡ a % 729
rest_rest a = mod-mod a 729

pub zero_plus : (a : ℕ) → add 0 a ≡ a % 729
zero_plus a = add_comm 0 a ∙ add_zero a

pub add_whole : (a b : ℕ) → add a b % 729 ≡ add a b
add_whole a b = mod-eq_of_lt (add_below a b)

pub scale_whole : (d a : ℕ) → scale d a % 729 ≡ scale d a
scale_whole d a = mod-eq_of_lt (scale_below d a)

pub add_rest : (a b : ℕ) → add a (b % 729) ≡ add a b
add_rest a b = rw (← add_zero b, ← add_assoc a b 0, add_zero, add_whole)

pub rest_add : (a b : ℕ) → add (a % 729) b ≡ add a b
rest_add a b = add_comm (a % 729) b ∙ add_rest b a ∙ add_comm b a

pub scale_none : (d : ℕ) → scale d 0 ≡ 0
scale_none d = ap (scale d) (sym (scale_zero 0)) ∙ scale_scale d 0 0 ∙ scale_same (d * 0) 0 0 (omega arith) ∙ scale_zero 0

pub scale_rest : (d a : ℕ) → scale d (a % 729) ≡ scale d a
scale_rest d a = rw (← add_zero a, scale_add d a 0, scale_none, add_zero, scale_whole)

pub scale_one : (a : ℕ) → scale 1 a ≡ a % 729
scale_one a = scale_suc 0 a ∙ simp (scale_zero, add_zero)

pub scale_two : (a : ℕ) → scale 2 a ≡ add a a
scale_two a = scale_suc 1 a ∙ simp (scale_one, add_rest)

pub thrice : (a : ℕ) → add a (add a a) ≡ 0
thrice a = ap (add a) (sym (scale_two a)) ∙ sym (scale_suc 2 a) ∙ scale_same 3 0 a refl ∙ scale_zero a

pub thrice_more : (a b : ℕ) → add a (add a (add a b)) ≡ b % 729
thrice_more a b = cc (add_assoc a a b, add_assoc a (add a a) b, thrice a, zero_plus b)

pub minus_is : (a b : ℕ) → minus a b ≡ add a (add b b)
unfolding minus
minus_is a b = ap (add a) (scale_two b)

-- `simp sums` proves an equation between sums: it sorts them, and takes out what stands three times
pub ruleset sums = (add_assoc, add_comm, add_left, rest_rest, add_zero, zero_plus, add_whole, add_rest, thrice, thrice_more, scale_zero, scale_one, scale_two, scale_whole, minus_is)

pub minus_self : (a : ℕ) → minus a a ≡ 0
minus_self a = simp sums

pub minus_zero : (a : ℕ) → minus a 0 ≡ a % 729
minus_zero a = simp sums

pub minus_rest : (a b : ℕ) → minus a (b % 729) ≡ minus a b
minus_rest a b = simp sums

pub minus_add : (a b : ℕ) → add (minus a b) b ≡ a % 729
minus_add a b = simp sums

pub minus_none : (a b : ℕ) → Zero (minus a b) → a % 729 ≡ b % 729
minus_none a b z = sym (minus_add a b) ∙ sym (rest_add (minus a b) b) ∙ ap (λ (x : ℕ). add x b) z ∙ zero_plus b

pub add_swap : (a b c d : ℕ) → add (add a b) (add c d) ≡ add (add a c) (add b d)
add_swap a b c d = simp sums
