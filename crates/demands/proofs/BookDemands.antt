-- What is demanded of strikes, Open, Pull, Read, Length, Worn, Write and Size, proved: each from the operation's contract.
-- Main: open_says, pull_says, find_says, body_says, empty_says, strikes_say, read_is, read_says, length_says, worn_says, write_says,
-- size_says.
use Rattle.std.proofs.Math.Path.{◌≡◌, refl, sym, ap}
use Rattle.refusal.specs.declared.Refusal.{Refusal}
use Rattle.std.specs.Prelude as code
use Rattle.std.proofs.Common.{◌∙◌, subst, true≢false}
use Rattle.std.specs.Prelude.{◌⊎◌, Bool, true, false, ◌||◌, not, cond, List, eqb, length, Result}
use Rattle.std.proofs.Math.Logic.{inl, inr}
use Rattle.std.proofs.Math.Option.{Option, none, some}
use Prim.Native.Nat.{ℕ, zero, suc, ◌+◌, ◌≤◌}
use native.Mathlib.Omega.{arith}
use borrow.Author.Tests.{le-ltb, eqb-true, eqb-false, not-true, not-false}
use Rattle.algebra.specs.Tests.{any_above, neither}
use Rattle.algebra.specs.Search.{first_from, NoneIn, search_first, search_none}
use Rattle.refusal.specs.Replies.{Reply, outcome, replied, refused_with, reply, reply_with, unless}
use Rattle.rank.specs.Definitions.{difference}
use Rattle.rank.specs.Weight.{weight_of}
use Rattle.coding.specs.Code.{word}
use Rattle.coding.specs.Decode.{decode}
use Rattle.coding.specs.Proved.{decode_none}
use Rattle.strike.specs.Strikes.{no_bell, strike_of, range_parts, parts_range, strike_good, strike_message_back, message_only, example_means}
use Rattle.book.specs.declared.reading.Reading.{Reading}
use Rattle.book.specs.Layout.{big, tunes, part_of, body_good, symbols_from, card}
use Rattle.book.specs.Open.{size_bad, numbers_bad, bodies_bad, contents_refusal, is_empty, open_refusal}
use Rattle.book.specs.Pull.{entry_of, missing, part_at, pull_refusal, pulled}
use Rattle.book.specs.Reading.{CardValue, no_value, card_refusal, card_reading, read_reply, cards_in, no_card, reading}
use Rattle.book.specs.Bodies.{body_refusal, total_delay, flawed, is_damaged, first_damaged, worn_reply}
use Rattle.book.proofs.Accepted.{one_entry}
use Rattle.book.proofs.Pulled.{pull_accepted, pull_refused, pulled_accepted, pulled_refused, entry_found, entry_there, empty_refused}
use Rattle.book.specs.CardReading.{struck, card_range, card_lost, card_bell, card_strike, card_passes, read_bad, read_past, read_there, refused_reading}
use Rattle.book.specs.Delays.{total_bad, is_refused, delay_sum, not_refused, delays_whole, delays_hole}
use Rattle.book.specs.Damaged.{damaged_first, damaged_none}
use Rattle.writer.specs.Writing.{book_length, size_refusal, lengths_good, write_refusal, Written}
use Rattle.writer.proofs.Shown.{written_shows}
use Rattle.demands.specs.Settled.{said_once}
use Rattle.demands.proofs.CardDemands.{the_near}
use Rattle.demands.specs.Demands.{opening_refusal, OpenSays, Pulled, Missing, PullAs, PullSays, EmptySays}
use Rattle.demands.specs.Demands.{StrikesSay, reading_refusal, ReadNear, ReadCard, ReadAs, ReadSays}
use Rattle.demands.specs.Demands.{Delays, no_cards, one_more, Hole, LengthSum, LengthHole, LengthAs, LengthSays}
use Rattle.demands.specs.Demands.{Damaged, WornCard, WornAs, WornSays}
use Rattle.demands.specs.Demands.{writing_refusal, WriteSays, SizeSays}

-- OPEN
pub open_says : (bs : List ℕ) (r : Result ℕ Refusal) → reply r ≡ reply_with 0 (open_refusal bs) (tunes bs) → OpenSays bs (reply r)
unfolding OpenSays opening_refusal open_refusal is_empty contents_refusal size_bad numbers_bad bodies_bad
open_says bs r e = e

-- PULL
module _ (bs : List ℕ) (t : ℕ) where
  accepted : open_refusal bs ≡ 0 → (o : Option ℕ) → entry_of bs t ≡ o → PullAs 0 bs t (pull_refusal bs t) (pulled bs t)
  unfolding PullAs Pulled Missing part_of
  accepted a none q =
      inr (
        pull_accepted bs t a ∙ ap missing q,
        pulled_accepted bs t a ∙ ap (part_at bs) q,
        λ e b.
            let p : entry_of bs t ≡ some e = rw b.1 at (entry_there bs a e b.0) in
            let z : ◌≡◌ {A = ℕ} 0 1 = cc in
            omega arith,
      )
  accepted a (some e) q =
      let b = entry_found bs t e q in
      let done = pull_accepted bs t a ∙ ap missing q in
      inl (
        done,
        (λ z. empty_refused bs t z done),
        (e, b, (λ f d. one_entry bs a f e d.0 b.0 (d.1 ∙ sym b.1)), pulled_accepted bs t a ∙ ap (part_at bs) q),
      )

  pull_as : (x : ℕ) → open_refusal bs ≡ x → PullAs x bs t (pull_refusal bs t) (pulled bs t)
  unfolding PullAs
  pull_as zero a = accepted a (entry_of bs t) refl
  pull_as (suc x) e =
      let n : open_refusal bs ≡ 0 → ⊥ = λ z. omega arith in
      (pull_refused bs t n ∙ e, pulled_refused bs t n)

  pub pull_says : PullSays bs t (pull_refusal bs t) (pulled bs t)
  unfolding PullSays opening_refusal open_refusal is_empty contents_refusal size_bad numbers_bad bodies_bad
  pull_says = pull_as _ refl

pub find_says : (bs : List ℕ) (t : ℕ) (r : Result Unit Refusal) → outcome r ≡ pull_refusal bs t → (part : List ℕ) × PullSays bs t (outcome r) part
find_says bs t r e = (pulled bs t, rw e (pull_says bs t))

pub body_says : (bs : List ℕ) (t : ℕ) (part : List ℕ) → part ≡ pulled bs t → (refusal : ℕ) × PullSays bs t refusal part
body_says bs t part e = (pull_refusal bs t, rw e (pull_says bs t))

-- THE EMPTY FILE
pub empty_says : EmptySays
unfolding OpenSays PullSays PullAs Pulled Missing opening_refusal reply_with big
empty_says = record {
  opened = λ r e. e;
  pulled = λ t r part h. elim h [ inl (_, _, (e, b, _, _)) ↦ absurd (omega (arith, b.0)) | inr (e, p, _) ↦ (e, p) ];
  byte_opened = λ b r e. e;
  byte_pulled = λ b t r part h. h;
}

-- WHAT A MESSAGE MEANS
pub strikes_say : StrikesSay
unfolding no_bell
strikes_say = record {
  example = example_means;
  back = λ m e b. (range_parts (strike_of m) (strike_good m e (le-ltb 47 (strike_of m).bell b)), strike_message_back m e);
  message_only = λ s (b, f, d) m. message_only s (parts_range s b f d) m;
}

-- READ
pub read_is : (bs : List ℕ) (n : ℕ) → ReadSays bs n (reading bs n)
unfolding ReadSays ReadAs ReadCard ReadNear reading_refusal no_bell no_card card symbols_from
read_is bs n = go (body_good bs) refl (no_card bs n) refl (any_above 728 c) refl (decode 2 c) refl
  where
    c : List ℕ
    c = card bs n

    near : (m : List ℕ) → any_above 728 c ≡ false → decode 2 c ≡ some m → (b : Bool) → no_bell (strike_of m) ≡ b
        → card_reading (card_refusal c) c ≡ cond b (refused_with no_value 13) (struck m (weight_of (difference (word 2 m) c)))
    near m q d true w = sym (card_bell c m q d w)
    near m q d false w = sym (card_strike c m q d w)

    go : (g : Bool) → body_good bs ≡ g → (h : Bool) → no_card bs n ≡ h → (a : Bool) → any_above 728 c ≡ a → (o : Option (List ℕ)) → decode 2 c ≡ o
        → ReadAs (reading_refusal bs n) c (reading bs n)
    go false e h f a q o d = rw e (sym (read_bad bs n false (sym e) refl))
    go true e true f a q o d = rw (e, f) (sym (read_past bs n e f))
    go true e false f true q o d = rw (e, f, q) (sym (card_range c q ∙ read_there bs n e f))
    go true e false f false q none d = rw (e, f, q) (inr ((decode_none 2 c).0 d, sym (card_lost c q d ∙ read_there bs n e f)))
    go true e false f false q (some m) d =
        rw (e, f, q)
        (inl (m, (the_near 2 (omega arith) (omega arith) c (card_passes c refl q) m d, sym (read_there bs n e f) ∙ near m q d (no_bell (strike_of m)) refl)))

pub read_says : (bs : List ℕ) (n : ℕ) (r : Result Reading Refusal) → read_reply r ≡ reading bs n → ReadSays bs n (read_reply r)
read_says bs n r e = rw e (read_is bs n)

-- LENGTH
module _ (bs : List ℕ) where
  -- a reading by its refusal
  was_read : (n : ℕ) → (reading bs n).refusal ≡ 0 → ReadSays bs n (replied (reading bs n).value)
  was_read n e = subst (ReadSays bs n) (λ i. record { refusal = e i; value = (reading bs n).value }) (read_is bs n)

  was_refused : (n : ℕ) → ((reading bs n).refusal ≡ 0 → ⊥) → ReadSays bs n (refused_with no_value (reading bs n).refusal)
  was_refused n h = subst (ReadSays bs n) (refused_reading bs n h) (read_is bs n)

  all_delays : (k : ℕ) → NoneIn (is_refused bs) 1 (k + 1) → Delays bs k (delay_sum bs k)
  unfolding delay_sum
  all_delays zero f = no_cards
  all_delays (suc k) f =
      let last = was_read (suc k) (not_refused bs (suc k) (f (suc k) (omega arith) (omega arith))) in
      one_more k (delay_sum bs k) (reading bs (suc k)).value (all_delays k (λ i l h. f i l (omega arith))) last

  not_hole : (n x : ℕ) → is_refused bs n ≡ false → Hole bs n x → ⊥
  unfolding Hole
  not_hole n x e h =
      let same = said_once bs n (refused_with no_value x) (reading bs n) h.3 (read_is bs n) in
      let z : x ≡ (reading bs n).refusal = ap (λ (t : Reply CardValue). t.refusal) same in
      omega (arith, not_refused bs n e, h.2)

  length_is : body_good bs ≡ true → (o : Option ℕ) → first_from (cards_in bs) 1 (is_refused bs) ≡ o → LengthAs true bs (total_delay bs)
  unfolding LengthAs LengthSum LengthHole Hole total_delay
  length_is g none e =
      let f = (search_none (is_refused bs) (cards_in bs) 1 (cards_in bs + 1) (omega arith)).0 e in
      inl (delay_sum bs (cards_in bs), all_delays (cards_in bs) f, delays_whole bs g (cards_in bs) f)
  length_is g (some n) e =
      let f = (search_first (is_refused bs) (cards_in bs) 1 (cards_in bs + 1) (omega arith) n).0 e in
      let r = eqb-false (reading bs n).refusal 0 (not-true _ f.passes) in
      inr (
        n,
        (
          (reading bs n).refusal,
          (f.low, omega (arith, f.high), omega arith, was_refused n r),
          (λ m y h o. not_hole m y (f.before m o.0 h) o),
          delays_hole bs g (cards_in bs) n f,
        ),
      )

pub length_says : (bs : List ℕ) (r : Result ℕ Refusal) → reply r ≡ total_delay bs → LengthSays bs (reply r)
unfolding LengthSays LengthAs
length_says bs r e = rw e (go (body_good bs) refl)
  where
    go : (g : Bool) → body_good bs ≡ g → LengthAs g bs (total_delay bs)
    go true h = length_is bs h (first_from (cards_in bs) 1 (is_refused bs)) refl
    go false h = sym (total_bad bs h)

-- WORN
flawed_some : (a b : ℕ) → (not (eqb a 0) || not (eqb b 0)) ≡ true → (1 ≤ a) ⊎ (1 ≤ b)
flawed_some zero zero e = absurd (true≢false (sym e))
flawed_some zero (suc b) e = inr (omega arith)
flawed_some (suc a) b e = inl (omega arith)

flawed_none : (a b : ℕ) → (not (eqb a 0) || not (eqb b 0)) ≡ false → (1 ≤ a) ⊎ (1 ≤ b) → ⊥
flawed_none a b e h =
    let (p, q) = neither (not (eqb a 0)) (not (eqb b 0)) e in
    let x = eqb-true a 0 (not-false (eqb a 0) p) in
    let y = eqb-true b 0 (not-false (eqb b 0) q) in
    elim h [ inl l ↦ omega arith | inr l ↦ omega arith ]

module _ (bs : List ℕ) where
  not_damaged : (n : ℕ) → is_damaged bs n ≡ false → Damaged bs n → ⊥
  unfolding Damaged is_damaged flawed
  not_damaged n e (low, high, (r, h, bad)) =
      let same = said_once bs n r (reading bs n) h (read_is bs n) in
      flawed_none (reading bs n).refusal (reading bs n).value.damage.rank e (rw same at bad)

  named : (o : Option ℕ) → first_damaged bs ≡ o → WornCard bs o
  unfolding WornCard Damaged is_damaged flawed
  named none e = λ n d. not_damaged n ((damaged_none bs).0 e n d.0 (omega (arith, d.1))) d
  named (some n) e =
      let f = (damaged_first bs n).0 e in (
        (f.low, omega (arith, f.high), (reading bs n, read_is bs n, flawed_some (reading bs n).refusal (reading bs n).value.damage.rank f.passes)),
        λ m h d. not_damaged m (f.before m d.0 h) d,
      )

pub worn_says : (bs : List ℕ) (r : Result (code.Option ℕ) Refusal) → worn_reply r ≡ reply_with none (body_refusal bs) (first_damaged bs) → WornSays bs (worn_reply r)
unfolding WornSays WornAs body_refusal reply_with
worn_says bs r e = rw e (go (body_good bs) refl)
  where
    go : (g : Bool) → body_good bs ≡ g → WornAs g bs (reply_with none (body_refusal bs) (first_damaged bs))
    go true h = rw h (refl, named bs (first_damaged bs) refl)
    go false h = rw h

-- WRITE
pub write_says : {ns cs ss bs : List ℕ} {r : Result Unit Refusal} {b : List ℕ} → Written ns cs ss bs r b → WriteSays ns cs ss (outcome r) bs b
unfolding WriteSays writing_refusal write_refusal lengths_good book_length unless
write_says {ns} {cs} {ss} {bs} w =
    (w.answers, w.book_is, λ z. let e = sym w.answers ∙ z in rw (w.book_is, e) (written_shows ns cs ss (length bs) e))

-- SIZE
pub size_says : (cs : List ℕ) (r : Result ℕ Refusal) → reply r ≡ reply_with 0 (size_refusal cs) (book_length cs) → SizeSays cs (reply r)
unfolding SizeSays size_refusal book_length
size_says cs r e = e
