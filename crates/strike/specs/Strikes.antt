-- What a message means, and the message of a strike (SPECIFICATION 6). Value 1 of a message is 9 times a register plus the force; the bell is 27
-- times the register plus value 0; values 2 and 3 are the delay.
-- Main: bell_most, force_most, delay_most, in_range, no_bell, strike_of, strike_message, no_strike; example_means, strike_back,
-- strike_message_back, message_good, strike_good, message_only, range_parts, parts_range, range_bell.
use Rattle.std.specs.Prelude.{◌≡◌, refl, ◌↔◌, Bool, true, false, ◌&&◌, List, [], ◌∷◌, ℕ, ◌+◌, ◌*◌, ◌/◌, ◌%◌, ◌≤◌, ◌<◌, leb, ltb, length, get_or}
use Rattle.std.proofs.Common.{sym, ap, ◌∙◌, arith, leb-true, le-leb, le-ltb, ltb-false}
use Rattle.algebra.specs.Lists.{cons, all_at, table, table_at}
use Rattle.algebra.specs.Tests.{both, passed, passes}
use Rattle.rank.specs.Definitions.{at}
use Rattle.coding.specs.Code.{is_message}
use Rattle.strike.specs.declared.Strike.{Strike}

-- the most that each number of a strike may be; the delay is in ticks
abbrev pub bell_most : ℕ
bell_most = 47

abbrev pub force_most : ℕ
force_most = 8

abbrev pub delay_most : ℕ
delay_most = 728

-- none is more
unfoldable pub in_range : Strike → Bool
in_range s = leb s.bell bell_most && (leb s.force force_most && leb s.delay delay_most)

-- the bell is above the last
unfoldable pub no_bell : Strike → Bool
no_bell s = ltb bell_most s.bell

-- the strike of a message; at m 1 / 9 is the register
unfoldable pub strike_of : (message : List ℕ) → Strike
strike_of m = record { bell = 27 * (at m 1 / 9) + at m 0; force = at m 1 % 9; delay = 27 * at m 2 + at m 3 }

-- the message of a strike; its bell / 27 is the register
unfoldable pub strike_message : Strike → List ℕ
strike_message s = (s.bell % 27) ∷ (9 * (s.bell / 27) + s.force) ∷ (s.delay / 27) ∷ (s.delay % 27) ∷ []

-- register 1 and place 20 are bell 47, register 1 and force 5 are 14
pub example_means : strike_of (20 ∷ 14 ∷ 2 ∷ 1 ∷ []) ≡ record { bell = 47; force = 5; delay = 55 }
unfolding strike_of at
example_means = refl

-- what a refusal has in the place of a strike
abbrev pub no_strike : Strike
no_strike = record { bell = 0; force = 0; delay = 0 }

-- THE RANGES, part by part
pub range_parts : (s : Strike) → in_range s ≡ true → (s.bell ≤ bell_most) × (s.force ≤ force_most) × (s.delay ≤ delay_most)
unfolding in_range
range_parts s e =
    let (b, t) = both (leb s.bell bell_most) _ e in
    let (f, d) = both (leb s.force force_most) (leb s.delay delay_most) t in
    (leb-true s.bell bell_most b, leb-true s.force force_most f, leb-true s.delay delay_most d)

pub parts_range : (s : Strike) → s.bell ≤ bell_most → s.force ≤ force_most → s.delay ≤ delay_most → in_range s ≡ true
unfolding in_range
parts_range s b f d = rw (le-leb s.bell bell_most b, le-leb s.force force_most f, le-leb s.delay delay_most d)

-- and its bell is one
pub range_bell : (s : Strike) → in_range s ≡ true → no_bell s ≡ false
unfolding no_bell
range_bell s e = le-ltb bell_most s.bell (range_parts s e).0

-- the values of a message
pub value_below : (m : List ℕ) → is_message 2 m ≡ true → (i : ℕ) → i < 4 → at m i < 27
unfolding is_message at
value_below m e i h = let t = passed 4 26 m e in all_at (λ x. x < 27) 0 m t.1 i (omega (arith, t.0))

-- BOTH WAYS: a strike in range comes back from its message, and every message from its strike
pub strike_back : (s : Strike) → in_range s ≡ true → strike_of (strike_message s) ≡ s
unfolding strike_of strike_message at
strike_back s e =
    let h = (range_parts s e).1 in
    let b : 27 * ((9 * (s.bell / 27) + s.force) / 9) + s.bell % 27 ≡ s.bell = omega arith in
    let f : (9 * (s.bell / 27) + s.force) % 9 ≡ s.force = omega arith in
    let d : 27 * (s.delay / 27) + s.delay % 27 ≡ s.delay = omega arith in
    rw (b, f, d)

-- a message is its four entries
four : (m : List ℕ) → length m ≡ 4 → at m 0 ∷ at m 1 ∷ at m 2 ∷ at m 3 ∷ [] ≡ m
unfolding table at
four m h = ap (λ (n : ℕ). table n (λ i. get_or m i 0)) (sym h) ∙ table_at m

pub strike_message_back : (m : List ℕ) → is_message 2 m ≡ true → strike_message (strike_of m) ≡ m
unfolding strike_of strike_message is_message
strike_message_back m e =
    let p = value_below m e 0 (omega arith) in
    let l = value_below m e 3 (omega arith) in
    cons (omega arith) (cons (omega arith) (cons (omega arith) (cons (omega arith) refl))) ∙ four m (passed 4 26 m e).0

-- what a strike in range presses is a message, and what a message means is in range but for its bell
pub message_good : (s : Strike) → in_range s ≡ true → is_message 2 (strike_message s) ≡ true
unfolding is_message strike_message
message_good s e =
    let (b, f, d) = range_parts s e in
    passes 4 26 ((s.bell % 27) ∷ (9 * (s.bell / 27) + s.force) ∷ (s.delay / 27) ∷ (s.delay % 27) ∷ []) refl
    (omega arith, (omega arith, (omega arith, (omega arith, tt))))

pub strike_good : (m : List ℕ) → is_message 2 m ≡ true → no_bell (strike_of m) ≡ false → in_range (strike_of m) ≡ true
unfolding strike_of no_bell
strike_good m e b =
    let h = value_below m e 2 (omega arith) in
    let l = value_below m e 3 (omega arith) in
    parts_range (strike_of m) (ltb-false bell_most (strike_of m).bell b) (omega arith) (omega arith)

-- A STRIKE IN RANGE HAS ONE MESSAGE: a message means it exactly if it is the strike's message
pub message_only : (s : Strike) → in_range s ≡ true → (m : List ℕ) → ((is_message 2 m ≡ true) × (strike_of m ≡ s)) ↔ (m ≡ strike_message s)
message_only s e m =
    (λ h. rw h.1 at (sym (strike_message_back m h.0)), λ q. rw q (message_good s e, strike_back s e))
