-- The coefficients of a message: its polynomial is that of a list of k + 1 symbols, its word is that polynomial's values at the basis, and
-- the message is read off the list again.
-- Main: value_ev, word_images, word_card, read_coefficients, coefficients_read, is_message_read.
use Rattle.std.specs.Prelude.{◌≡◌, refl, true, List, [], ◌∷◌, ℕ, zero, suc, ◌+◌, ◌*◌, ◌-◌, ◌%◌, ◌≤◌, ◌<◌, length}
use Rattle.std.proofs.Common.{ap, ◌∙◌, zero-add, mod-eq_of_lt, arith}
use Rattle.std.proofs.Math.Path.{fun_ext}
use Rattle.algebra.specs.Field.{add, times, power, risen, small, gamma}
use Rattle.rank.specs.Definitions.{at, is_card}
use Rattle.coding.specs.Code.{inner, inner_sum, value, word, word_from, is_message}
use Rattle.algebra.specs.Lists.{All, all, all_at, over, table, table_same, table_at}
use Rattle.algebra.specs.Tests.{passed, passes, one_to_five}
use Rattle.algebra.specs.Digits.{add_comm, add_assoc, add_below}
use Rattle.algebra.specs.Linear.{basis, images, computing}
use Rattle.algebra.specs.Products.{right}
use Rattle.algebra.specs.SmallField.{pair, low, high}
use Rattle.algebra.proofs.SmallField.{small_linear, low_below, high_below, low_small, high_gamma, low_pair, high_pair}
use Rattle.algebra.specs.Polynomials.{ev, last}
use Rattle.algebra.proofs.Polynomials.{ev_linear}

-- small (at m 0), the inner ones, and the top one
unfoldable pub inners : (left i : ℕ) → (m : List ℕ) → (top : ℕ) → List ℕ
inners zero i m t = t ∷ []
inners (suc n) i m t = inner m i ∷ inners n (suc i) m t

unfoldable pub higher : (k : ℕ) → (m : List ℕ) → List ℕ
higher k m = inners (k - 1) 1 m (times gamma (small (at m (2 * k - 1))))

unfoldable pub coefficients : (k : ℕ) → (m : List ℕ) → List ℕ
coefficients k m = small (at m 0) ∷ higher k m

length_inners : (n i : ℕ) (m : List ℕ) (t : ℕ) → length (inners n i m t) ≡ suc n
unfolding inners
length_inners zero i m t = refl
length_inners (suc n) i m t = ap suc (length_inners n (suc i) m t)

pub length_higher : (k : ℕ) → 1 ≤ k → (m : List ℕ) → length (higher k m) ≡ k
unfolding higher
length_higher k p m = length_inners (k - 1) 1 m _ ∙ omega arith

pub length_coefficients : (k : ℕ) → 1 ≤ k → (m : List ℕ) → length (coefficients k m) ≡ suc k
unfolding coefficients
length_coefficients k p m = ap suc (length_higher k p m)

last_inners : (n i : ℕ) (m : List ℕ) (g t : ℕ) → last g (inners n i m t) ≡ t
unfolding inners last
last_inners zero i m g t = refl
last_inners (suc n) i m g t = last_inners n (suc i) m (inner m i) t

pub last_higher : (k : ℕ) (m : List ℕ) (g : ℕ) → last g (higher k m) ≡ times gamma (small (at m (2 * k - 1)))
unfolding higher
last_higher k m g = last_inners (k - 1) 1 m g _

pub coefficients_below : (k : ℕ) (m : List ℕ) → All (λ g. g < 729) (coefficients k m)
unfolding coefficients higher inners inner
coefficients_below k m = (small_linear.below (at m 0), go (k - 1) 1)
  where
    go : (n i : ℕ) → All (λ g. g < 729) (inners n i m (times gamma (small (at m (2 * k - 1)))))
    go zero i = ((right gamma).below _, tt)
    go (suc n) i = (add_below _ _, go n (suc i))

-- THE POLYNOMIAL, AND THE WORD
ev_inners : (n i : ℕ) (m : List ℕ) (t y : ℕ) → add (inner_sum n i m y) (times t (risen (n + i) y)) ≡ ev (inners n i m t) (risen i y)
unfolding ev inners inner_sum risen
ev_inners zero i m t y = rw (zero-add i) (add_comm _ _)
ev_inners (suc n) i m t y =
    let e : suc n + i ≡ n + suc i = omega arith in
    rw e (add_assoc _ _ _ ∙ ap (add (times (inner m i) (risen i y))) (ev_inners n (suc i) m t y))

pub value_ev : (k : ℕ) → 1 ≤ k → (m : List ℕ) (y : ℕ) → value k m y ≡ ev (coefficients k m) y
unfolding value ev risen coefficients higher
value_ev k p m y =
    let e : k - 1 + 1 ≡ k = omega arith in
    ap (add (times (small (at m 0)) y)) (rw e at (ev_inners (k - 1) 1 m (times gamma (small (at m (2 * k - 1)))) y))

pub word_images : (k : ℕ) → 1 ≤ k → (m : List ℕ) → word k m ≡ images (ev (coefficients k m))
unfolding word word_from power computing
word_images k p m = ap images (fun_ext (value_ev k p m))

pub word_long : (k : ℕ) (m : List ℕ) → length (word k m) ≡ 6
unfolding word word_from
word_long k m = refl

pub word_card : (k : ℕ) → 1 ≤ k → (m : List ℕ) → is_card (word k m) ≡ true
unfolding is_card
word_card k p m =
    let f = ev (coefficients k m) in
    rw (word_images k p m) (passes 6 728 (images f) refl (over (λ x. x < 729) f basis (all (ev_linear (coefficients k m)).below basis)))

-- THE MESSAGE: the low part of the first coefficient, both parts of the inner ones, the high part of the last
unfoldable pub read_higher : List ℕ → List ℕ
read_higher [] = []
read_higher (g ∷ []) = high g ∷ []
read_higher (g ∷ h ∷ gs) = low g ∷ high g ∷ read_higher (h ∷ gs)

unfoldable pub read : List ℕ → List ℕ
read [] = []
read (g ∷ gs) = low g ∷ read_higher gs

higher_below : (gs : List ℕ) → All (λ x. x < 27) (read_higher gs)
unfolding read_higher
higher_below [] = tt
higher_below (g ∷ []) = (high_below g, tt)
higher_below (g ∷ h ∷ gs) = (low_below g, (high_below g, higher_below (h ∷ gs)))

length_read : (g : ℕ) (gs : List ℕ) → length (read_higher (g ∷ gs)) ≡ suc (2 * length gs)
unfolding read_higher
length_read g [] = refl
length_read g (h ∷ gs) = omega (arith, length_read h gs)

pub is_message_read : (k : ℕ) → 1 ≤ k → (gs : List ℕ) → length gs ≡ suc k → is_message k (read gs) ≡ true
unfolding is_message read
is_message_read k p [] e = absurd (omega arith)
is_message_read k p (f ∷ []) e = absurd (omega arith)
is_message_read k p (f ∷ g ∷ gs) e =
    passes (2 * k) 26 (read (f ∷ g ∷ gs)) (omega (arith, length_read g gs)) (low_below f, higher_below (g ∷ gs))

ruleset reading = (low_small, high_gamma, low_pair, high_pair)

read_rests : (k : ℕ) → 1 ≤ k → k ≤ 5 → (m : List ℕ) → read (coefficients k m) ≡ table (2 * k) (λ i. at m i % 27)
unfolding coefficients higher inners inner pair read read_higher table
read_rests = one_to_five _ (λ m. simp reading) (λ m. simp reading) (λ m. simp reading) (λ m. simp reading) (λ m. simp reading)

pub read_coefficients : (k : ℕ) → 1 ≤ k → k ≤ 5 → (m : List ℕ) → is_message k m ≡ true → read (coefficients k m) ≡ m
unfolding is_message at
read_coefficients k p q m e =
    let (len, below) = passed (2 * k) 26 m e in
    read_rests k p q m
    ∙ table_same (2 * k) _ (at m) (λ i h. mod-eq_of_lt (all_at (λ x. x < 27) 0 m below i (omega arith)))
    ∙ rw (← len) (table_at m)

-- and back, if the first coefficient is small and the last is gamma times a small one
pub coefficients_read : (k : ℕ) → 1 ≤ k → k ≤ 5 → (f : ℕ → ℕ) → ((i : ℕ) → pair (low (f i)) (high (f i)) ≡ f i)
    → small (low (f 0)) ≡ f 0 → times gamma (small (high (f k))) ≡ f k → coefficients k (read (table (suc k) f)) ≡ table (suc k) f
unfolding coefficients higher inners inner pair read read_higher table at
coefficients_read = one_to_five _
    (λ f w a b. simp (a, b)) (λ f w a b. simp (a, b, w)) (λ f w a b. simp (a, b, w)) (λ f w a b. simp (a, b, w)) (λ f w a b. simp (a, b, w))
