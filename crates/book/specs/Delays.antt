-- What Length says of a body, and the laws of a loop that adds up delays.
-- Main: after_refused, card_refused, card_struck; total_bounded, total_bad; Adding, adding_start, adding_next, adding_fits, adding_end,
-- adding_refused, adding_stops, adding_struck, struck_fits; is_refused, delay_sum, not_refused, delays_whole, delays_hole.
use Rattle.std.specs.Prelude.{◌≡◌, Bool, not, List, eqb, Result, Ok, Err}
use Rattle.std.proofs.Math.Path.{refl, sym}
use Rattle.std.proofs.Common.{◌∙◌}
use Rattle.std.proofs.Math.Bool.{true, false, cond}
use Prim.Native.Nat.{ℕ, zero, suc, ◌+◌, ◌*◌, ◌-◌, ◌≤◌, ◌<◌}
use Rattle.std.proofs.Math.Decide.{ℕ_discrete}
use native.Mathlib.Omega.{arith}
use borrow.Author.Tests.{eq-eqb, ne_eqb, eqb-true, eqb-false, not-true, not-false}
use Rattle.algebra.specs.Search.{First, NoneIn}
use Rattle.refusal.specs.Replies.{number, refusal_some, Reply, replied, refused_with, reply_with, reply}
use Rattle.refusal.specs.declared.Refusal.{Refusal}
use Rattle.refusal.specs.declared.Refusal.TheVariants.{Length}
use Rattle.book.specs.declared.reading.Reading.{Reading}
use Rattle.book.specs.Layout.{body_good}
use Rattle.book.specs.Reading.{CardValue, no_value, read_reply, cards_in, reading}
use Rattle.book.specs.Bounds.{good_length, reading_bounded}
use Rattle.book.specs.Bodies.{body_refusal, body_refused, add_delay, delays, total_delay}

-- ONE CARD MORE: after a refusal, refused itself, or a strike
module _ (t : Reply ℕ) (r : Reply CardValue) where
  add_after : (t.refusal ≡ 0 → ⊥) → add_delay t r ≡ t
  unfolding add_delay
  add_after h = rw (ne_eqb t.refusal 0 h)

  add_refused : t.refusal ≡ 0 → (r.refusal ≡ 0 → ⊥) → add_delay t r ≡ refused_with 0 r.refusal
  unfolding add_delay reply_with
  add_refused e h = rw (eq-eqb t.refusal 0 e, ne_eqb r.refusal 0 h)

  add_strike : t.refusal ≡ 0 → r.refusal ≡ 0 → add_delay t r ≡ replied (t.value + r.value.strike.delay)
  unfolding add_delay reply_with
  add_strike e f = rw (eq-eqb t.refusal 0 e, eq-eqb r.refusal 0 f) (rw f)

-- the same in code
pub after_refused : (a : Result ℕ Refusal) (x : Refusal) (r : Reply CardValue) → a ≡ Err x → refused_with 0 (number x) ≡ add_delay (reply a) r
after_refused a x r e = rw e (sym (add_after _ r (refusal_some x)))

pub card_refused : (a : Result ℕ Refusal) (v : ℕ) (r : Result Reading Refusal) (x : Refusal) → a ≡ Ok v → r ≡ Err x
    → refused_with 0 (number x) ≡ add_delay (reply a) (read_reply r)
card_refused a v r x e f = rw (e, f) (sym (add_refused _ _ refl (refusal_some x)))

pub card_struck : (a : Result ℕ Refusal) (v : ℕ) (r : Result Reading Refusal) (s : Reading) → a ≡ Ok v → r ≡ Ok s
    → replied (v + s.strike.delay) ≡ add_delay (reply a) (read_reply r)
card_struck a v r s e f = rw (e, f) (sym (add_strike _ _ refl refl))

module _ (bs : List ℕ) where
  next_card : (n : ℕ) → 1 ≤ n → delays n bs ≡ add_delay (delays (n - 1) bs) (reading bs n)
  unfolding delays
  next_card zero h = absurd (omega arith)
  next_card (suc k) h = let e : suc k - 1 ≡ k = omega arith in rw e

  -- a refusal is there to stay
  delays_kept : (j k : ℕ) → j ≤ k → ((delays j bs).refusal ≡ 0 → ⊥) → delays k bs ≡ delays j bs
  unfolding delays
  delays_kept j zero h f = let e : j ≡ 0 = omega arith in rw e
  delays_kept j (suc k) h f =
      elim (ℕ_discrete j (suc k)) [
        | yes e ↦ rw e
        | no d ↦ let p = delays_kept j k (omega arith) f in add_after (delays k bs) _ (rw p f) ∙ p
      ]

  -- at most 728 ticks a card
  delays_bounded : (k : ℕ) → (delays k bs).value ≤ 728 * k
  unfolding delays reply_with
  delays_bounded zero = go (eqb (body_refusal bs) 0)
    where
      go : (b : Bool) → cond b 0 0 ≤ 728 * 0
      go true = omega arith
      go false = omega arith
  delays_bounded (suc k) =
      let t = delays k bs in
      let r = reading bs (suc k) in
      let h = delays_bounded k in
      elim (ℕ_discrete t.refusal 0) [
        | no f ↦ rw (add_after t r f) (omega arith)
        | yes e ↦
            elim (ℕ_discrete r.refusal 0) [
              | no f ↦ rw (add_refused t r e f) (omega arith)
              | yes f ↦ rw (add_strike t r e f) (omega (arith, (reading_bounded bs (suc k)).delay))
            ]
      ]

  pub total_bounded : (total_delay bs).value ≤ 728 * cards_in bs
  unfolding total_delay
  total_bounded = delays_bounded (cards_in bs)

  -- bytes that are no body are refused, whatever is read of them
  pub total_bad : body_good bs ≡ false → refused_with 0 (number Length) ≡ total_delay bs
  unfolding total_delay delays body_refusal reply_with
  total_bad g =
      let e : delays 0 bs ≡ refused_with 0 (number Length) = rw g in
      sym (delays_kept 0 (cards_in bs) (omega arith) (rw g (refusal_some Length)) ∙ e)

  -- A LOOP over the cards: this is said of the bytes and the cards before card n
  pub record Adding (ticks : Reply ℕ) (n : ℕ) : Type 0 where
    pub low : 1 ≤ n
    pub within : n ≤ cards_in bs + 1
    pub said : ticks ≡ delays (n - 1) bs

  pub adding_start : body_good bs ≡ true → Adding (replied 0) 1
  unfolding delays body_refusal reply_with
  adding_start g = record { low = omega arith; within = omega arith; said = rw g }

  module _ (t : Reply ℕ) (n : ℕ) (a : Adding t n) where
    pub adding_next : (r : Reply CardValue) (s : Reply ℕ) → n ≤ cards_in bs → r ≡ reading bs n → s ≡ add_delay t r → Adding s (n + 1)
    adding_next r s h e f =
        let m : n + 1 - 1 ≡ n = omega arith in
        record { low = omega arith; within = omega arith; said = f ∙ rw (a.said, e, m) (sym (next_card n a.low)) }

    -- a body has at most 5,461 cards
    pub adding_fits : (r : Reply CardValue) → body_good bs ≡ true → n ≤ cards_in bs → r ≡ reading bs n
        → t.value + r.value.strike.delay ≤ 4294967295
    adding_fits r g h e = rw (a.said, e) (omega (arith, good_length bs g, delays_bounded (n - 1), (reading_bounded bs n).delay))

    pub adding_end : cards_in bs < n → t ≡ total_delay bs
    unfolding total_delay
    adding_end h = let e : n - 1 ≡ cards_in bs = omega (arith, a.within) in a.said ∙ rw e

    -- after a refusal nothing changes
    pub adding_refused : (t.refusal ≡ 0 → ⊥) → t ≡ total_delay bs
    unfolding total_delay
    adding_refused f = a.said ∙ sym (delays_kept (n - 1) (cards_in bs) (omega (arith, a.within)) (rw (← a.said) f))

  -- a loop that stops at the first refusal: this is its sum so far
  module _ (sum : ℕ) (n : ℕ) (a : Adding (replied sum) n) (h : n ≤ cards_in bs) where
    pub adding_stops : (why : Refusal) → refused_with no_value (number why) ≡ reading bs n → refused_with 0 (number why) ≡ total_delay bs
    adding_stops why e =
        let r = refused_with no_value (number why) in
        let s = adding_next (replied sum) n a r _ h e (sym (add_refused (replied sum) r refl (refusal_some why))) in
        adding_refused _ _ s (refusal_some why)

    pub adding_struck : (x : Reading) → replied x ≡ reading bs n → Adding (replied (sum + x.strike.delay)) (n + 1)
    adding_struck x e = adding_next (replied sum) n a (replied x) _ h e (sym (add_strike (replied sum) (replied x) refl refl))

    pub struck_fits : (x : Reading) → body_good bs ≡ true → replied x ≡ reading bs n → sum + x.strike.delay ≤ 4294967295
    struck_fits x g e = adding_fits (replied sum) n a (replied x) g h e

  pub ruleset adding = (body_refused, total_bad, adding_start, adding_end, good_length)

  -- THE THEOREM. A card that Read refuses, and the sum of the delays of the first k cards
  abbrev pub is_refused : (n : ℕ) → Bool
  is_refused n = not (eqb (reading bs n).refusal 0)

  unfoldable pub delay_sum : (k : ℕ) → ℕ
  delay_sum zero = 0
  delay_sum (suc k) = delay_sum k + (reading bs (suc k)).value.strike.delay

  pub not_refused : (n : ℕ) → is_refused n ≡ false → (reading bs n).refusal ≡ 0
  not_refused n e = eqb-true (reading bs n).refusal 0 (not-false _ e)

  module _ (g : body_good bs ≡ true) where
    -- where none of the first k cards is refused, the sum is said
    pub delays_whole : (k : ℕ) → NoneIn is_refused 1 (k + 1) → delays k bs ≡ replied (delay_sum k)
    unfolding delays delay_sum
    delays_whole zero f = sym (adding_start g).said
    delays_whole (suc k) f =
        let e = delays_whole k (λ i l h. f i l (omega arith)) in
        rw e (add_strike (replied (delay_sum k)) (reading bs (suc k)) refl (not_refused (suc k) (f (suc k) (omega arith) (omega arith))))

    -- else the refusal of the first that is refused
    pub delays_hole : (k n : ℕ) → First is_refused 1 (k + 1) n → delays k bs ≡ refused_with 0 (reading bs n).refusal
    delays_hole k n f =
        let l = f.low in
        let b = f.high in
        let w = delays_whole (n - 1) (λ i a h. f.before i a (omega arith)) in
        let r = eqb-false (reading bs n).refusal 0 (not-true _ f.passes) in
        let here = add_refused (replied (delay_sum (n - 1))) (reading bs n) refl r in
        let said : delays n bs ≡ refused_with 0 (reading bs n).refusal = next_card n l ∙ rw w here in
        delays_kept n k (omega arith) (rw said r) ∙ said
