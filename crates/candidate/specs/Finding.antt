-- What decoding finds, as the code has it, and proposals checked against the card one after the other.
-- Main: found_message, Matches, Consistent, found_long, found_fits, first_at, first_next, near_some, near_none, six_difference.
use Rattle.std.specs.Prelude.{◌≡◌, refl, true, List, ℕ, zero, suc, ◌+◌, ◌*◌, ◌-◌, ◌/◌, ◌≤◌, ◌<◌, length}
use Rattle.std.proofs.Common.{sym, ap, ap₂, ◌∙◌, add-one, arith, length-take, le-leb}
use Rattle.std.proofs.Math.Option.{Option, none, some}
use Rattle.std.proofs.Math.Decide.{ℕ_discrete}
use Rattle.std.proofs.lemmas.Bool.{lt-leb}
use Rattle.algebra.specs.Tests.{passed}
use Rattle.rank.specs.Definitions.{difference, apart}
use Rattle.rank.specs.Arrays.{entries, six}
use Rattle.rank.specs.Weight.{weight_of}
use Rattle.coding.specs.Code.{word, radius, is_message}
use Rattle.coding.specs.Coefficients.{word_long}
use Rattle.coding.specs.Options.{or_else, first_of}
use Rattle.coding.specs.Decode.{is_near, if_near}
use Rattle.std.specs.Prelude.{Some, None, IfSome}
use Rattle.std.specs.declared.option.Option as found
use Rattle.codec.specs.Messages.{numbers_of}
use Rattle.candidate.specs.declared.found.Found.{Found}

-- WHAT WAS FOUND: the message, if there is one
unfoldable pub found_message : found.Option Found → Option (List ℕ)
found_message (Some f) = some (numbers_of f.message)
found_message None = none

-- it is one for k, and with it goes the weight of what its word leaves
abbrev pub Matches : (k : ℕ) → (left : List ℕ → List ℕ) → found.Option Found → Type 0
Matches k left r = IfSome r (λ f. (f.message.k.value ≡ k) × (f.weight ≡ weight_of (left f.word)))

-- which is the difference to a card
abbrev pub Consistent : (k : ℕ) → (card : List ℕ) → found.Option Found → Type 0
Consistent k c r = Matches k (λ w. difference w c) r

pub message_some : (f : Found) → found_message (Some f) ≡ some (numbers_of f.message)
unfolding found_message
message_some f = refl

pub message_none : found_message None ≡ none
unfolding found_message
message_none = refl

-- it fills its place in the array, and so does its word
pub found_long : (f : Found) → (length f.word ≡ 6) × (2 * f.message.k.value ≤ length f.message.numbers)
unfolding is_message
found_long f =
    let k = f.message.k.value in
    let l = (passed (2 * k) 26 (numbers_of f.message) f.message.small).0 in
    (ap length f.word_is ∙ word_long k _, omega (arith, l, length-take (2 * k) f.message.numbers))

-- so lists of the right lengths have room for both
pub found_fits : (k : ℕ) (left : List ℕ → List ℕ) (r : found.Option Found) (w m : List ℕ) → Matches k left r → length w ≡ 6 → length m ≡ 2 * k
    → IfSome r (λ f. (length f.word ≡ length w) × (length m ≤ length f.message.numbers))
found_fits k left None w m M a b = tt
found_fits k left (Some f) w m (q, v) a b = let (lw, lm) = found_long f in (lw ∙ sym a, omega (arith, lm, b, q))

-- A LOOP over proposals: none of the first i gave an answer
pub first_none : (f : ℕ → Option (List ℕ)) → first_of 0 f ≡ none
unfolding first_of
first_none f = refl

pub first_all : (f : ℕ → Option (List ℕ)) (i n : ℕ) → i ≤ n → n ≤ i → first_of i f ≡ none → first_of n f ≡ none
first_all f i n a b e = let h : i ≡ n = omega arith in rw h at e

first_suc : (f : ℕ → Option (List ℕ)) (n : ℕ) → first_of (suc n) f ≡ or_else (first_of n f) (f n)
unfolding first_of
first_suc f n = refl

first_here : (f : ℕ → Option (List ℕ)) (m : List ℕ) (i : ℕ) → first_of i f ≡ none → f i ≡ some m → first_of (suc i) f ≡ some m
unfolding first_of or_else
first_here f m i e h = rw (e, h)

first_stays : (f : ℕ → Option (List ℕ)) (m : List ℕ) (i n : ℕ) → i < n → first_of (suc i) f ≡ some m → first_of n f ≡ some m
unfolding or_else
first_stays f m i zero l h = absurd (omega arith)
first_stays f m i (suc n) l h = go (ℕ_discrete i n) (λ k. first_stays f m i n k h)
  where
    go : Dec (i ≡ n) → (i < n → first_of n f ≡ some m) → first_of (suc n) f ≡ some m
    go (yes e) r = rw e at h
    go (no d) r = first_suc f n ∙ rw (r (omega arith))

pub first_at : (f : ℕ → Option (List ℕ)) (m : List ℕ) (i n : ℕ) → first_of i f ≡ none → i < n → f i ≡ some m → first_of n f ≡ some m
first_at f m i n e l h = first_stays f m i n l (first_here f m i e h)

pub first_next : (f : ℕ → Option (List ℕ)) (i : ℕ) → first_of i f ≡ none → f i ≡ none → first_of (i + 1) f ≡ none
unfolding first_of or_else
first_next f i e h = rw (add-one i, e, h)

-- A MESSAGE checked against the card
pub near_some : (k : ℕ) (c m : List ℕ) → is_message k m ≡ true → apart (word k m) c ≤ (6 - k) / 2 → if_near k c m ≡ some m
unfolding if_near is_near radius
near_some k c m e h = rw (e, le-leb (apart (word k m) c) ((6 - k) / 2) h)

pub near_none : (k : ℕ) (c m : List ℕ) → (6 - k) / 2 < apart (word k m) c → is_message k m ≡ true → if_near k c m ≡ none
unfolding if_near is_near radius
near_none k c m h e = rw (e, lt-leb (apart (word k m) c) ((6 - k) / 2) h)

-- the difference of two arrays of six, entry by entry
pub six_difference : (c d : List ℕ) → length c ≡ 6 → length d ≡ 6 → difference (entries c) (entries d) ≡ difference c d
six_difference c d k l = ap₂ difference (six c k) (six d l)
