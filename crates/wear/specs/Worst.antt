-- The worst run of a body: no run of the width has a larger sum, and none before it has the same. From what was tested to what is answered.
-- Main: wear_bounded, wear_strike, wear_refused, read_wears; Worst, worst_is; Seeking, seeking_start, seeking_short, seeking_next, seeking_end; fits, body_refused,
-- width_refused, run_given, answers.
use Rattle.std.specs.Prelude.{◌≡◌, refl, Bool, true, false, ◌||◌, cond, List, ℕ, ◌+◌, ◌-◌, ◌%◌, ◌≤◌, ◌<◌, eqb, get_or, set, Result, Ok, Err}
use Rattle.std.proofs.Common.{ap, ◌∙◌, arith}
use Rattle.std.proofs.Math.Dec.{ltb}
use borrow.Author.Tests.{eqb-false, ltb-false}
use Rattle.algebra.specs.Tests.{neither}
use Rattle.refusal.specs.Replies.{number, number_not_zero, Reply, replied, refused_with, reply_with}
use Rattle.refusal.specs.declared.Refusal.{Refusal}
use Rattle.refusal.specs.declared.Refusal.TheVariants.{Length, Width}
use Rattle.book.specs.declared.reading.Reading.{Reading}
use Rattle.book.specs.Layout.{body_good}
use Rattle.book.specs.Bodies as bodies
use Rattle.book.specs.Reading.{CardValue, read_reply, cards_in, reading}
use Rattle.book.specs.Bounds.{good_length, reading_bounded}
use Rattle.wear.specs.declared.runs.Run.{Run}
use Rattle.wear.specs.Wear.{reading_wear, card_wear, run_sum, runs_in, worst_run, width_bad, wear_refusal, no_run}
use Rattle.wear.specs.Largest.{FirstLargest, largest_first, first_only, first_start, first_next}
use Rattle.wear.specs.Sliding.{Fits, Keeps, keeps_moved}

-- A CARD by its reading: the rank of a strike's damage, 3 for a refusal; never more than 6
pub wear_strike : (r : Result Reading Refusal) (c : Reading) → r ≡ Ok c → c.damage.rank ≡ reading_wear (read_reply r)
unfolding reading_wear
wear_strike r c e = rw e

pub wear_refused : (r : Result Reading Refusal) (why : Refusal) → r ≡ Err why → 3 ≡ reading_wear (read_reply r)
unfolding reading_wear
wear_refused r why e = rw (e, number_not_zero why)

-- the wear of what was read, in either case
pub ruleset read_wears = (wear_strike, wear_refused)

pub wear_bounded : (bs : List ℕ) (n : ℕ) → card_wear bs n ≤ 6
unfolding card_wear reading_wear
wear_bounded bs n = go (eqb (reading bs n).refusal 0)
  where
    go : (b : Bool) → cond b (reading bs n).value.damage.rank 3 ≤ 6
    go true = (reading_bounded bs n).damage
    go false = omega arith

-- what is read of card n gives its wear
pub card_wears : (bs : List ℕ) (n x : ℕ) (r : Reply CardValue) → x ≡ reading_wear r → r ≡ reading bs n → x ≡ card_wear bs n
unfolding card_wear
card_wears bs n x r e f = e ∙ ap reading_wear f

-- THE THEOREM. A run of w cards is the worst of the first k: no other has a larger sum, and none before it the same
abbrev pub Worst : (body : List ℕ) → (w k : ℕ) → Run → Type 0
Worst bs w k r = FirstLargest (run_sum (card_wear bs) w) k r.sum r.first

pub worst_is : (bs : List ℕ) (w : ℕ) → w ≤ cards_in bs → Worst bs w (runs_in bs w) (worst_run bs w)
unfolding worst_run
worst_is bs w h = largest_first (run_sum (card_wear bs) w) (runs_in bs w) (omega arith)

pub worst_only : (bs : List ℕ) (w : ℕ) → w ≤ cards_in bs → (r : Run) → Worst bs w (runs_in bs w) r → r ≡ worst_run bs w
worst_only bs w h r g =
    let (s, f) = first_only (run_sum (card_wear bs) w) (runs_in bs w) _ _ _ _ g (worst_is bs w h) in
    λ i. record { sum = s i; first = f i }

-- A LOOP over the runs: that at card s is kept, and this one is the worst of those up to there
pub record Seeking (bs : List ℕ) (w s : ℕ) (kept : List ℕ) (sum : ℕ) (worst : Run) : Type 0 where
  pub keeps : Keeps (card_wear bs) w s kept sum
  pub worst_so : Worst bs w s worst
  pub within : s + w ≤ cards_in bs + 1

pub seeking_start : (bs : List ℕ) (w : ℕ) (kept : List ℕ) (sum : ℕ) → Fits bs w → Keeps (card_wear bs) w 1 kept sum
    → Seeking bs w 1 kept sum (record { sum = sum; first = 1 })
seeking_start bs w kept sum t g = record {
  keeps = g;
  worst_so = rw g.adds (first_start (run_sum (card_wear bs) w));
  within = omega (arith, t.cards);
}

module _ {bs : List ℕ} {w s : ℕ} {kept : List ℕ} {sum : ℕ} {worst : Run} (g : Seeking bs w s kept sum worst) (t : Fits bs w) where
  -- a body has at most 5,461 cards
  pub seeking_short : s + w ≤ 5462
  seeking_short = omega (arith, g.within, good_length bs t.good)

  pub seeking_next : s + w ≤ cards_in bs → (c x : ℕ) → c ≡ s + w → x ≡ card_wear bs c → (r : Run)
      → r ≡ cond (ltb worst.sum (sum + x - get_or kept (s % 64) 0)) (record { sum = sum + x - get_or kept (s % 64) 0; first = s + 1 }) worst
      → Seeking bs w (s + 1) (set kept (c % 64) x) (sum + x - get_or kept (s % 64) 0) r
  seeking_next h c x p e r q =
      let m = keeps_moved (card_wear bs) g.keeps c x p e t.some t.places in
      record { keeps = m; worst_so = go _ refl (q ∙ rw m.adds); within = omega arith }
    where
      next : ℕ
      next = run_sum (card_wear bs) w (s + 1)

      go : (b : Bool) → ltb worst.sum next ≡ b → r ≡ cond (ltb worst.sum next) (record { sum = next; first = s + 1 }) worst → Worst bs w (s + 1) r
      go true z o = let k = rw z at o in rw k (first_next (run_sum (card_wear bs) w) g.worst_so true z)
      go false z o = let k = rw z at o in rw k (first_next (run_sum (card_wear bs) w) g.worst_so false z)

  -- no card is left to enter
  pub seeking_end : cards_in bs < s + w → worst ≡ worst_run bs w
  seeking_end h =
      let e : s ≡ runs_in bs w = omega (arith, g.within) in
      worst_only bs w t.cards worst (rw e at g.worst_so)

-- THE TESTS, in their order, and what they leave
module _ (bs : List ℕ) (w : ℕ) where
  pub fits : body_good bs ≡ true → width_bad bs w ≡ false → Fits bs w
  unfolding width_bad
  fits g e =
      let (r, c) = neither (eqb w 0 || ltb 64 w) (ltb (cards_in bs) w) e in
      let (z, p) = neither (eqb w 0) (ltb 64 w) r in
      let n = eqb-false w 0 z in
      record { good = g; some = omega arith; places = omega (arith, ltb-false 64 w p); cards = omega (arith, ltb-false (cards_in bs) w c) }

  pub body_refused : body_good bs ≡ false → refused_with no_run (number Length) ≡ reply_with no_run (wear_refusal bs w) (worst_run bs w)
  unfolding wear_refusal reply_with
  body_refused g = rw g

  pub width_refused : body_good bs ≡ true → width_bad bs w ≡ true → refused_with no_run (number Width) ≡ reply_with no_run (wear_refusal bs w) (worst_run bs w)
  unfolding wear_refusal reply_with
  width_refused g e = rw (g, e)

  pub run_given : body_good bs ≡ true → width_bad bs w ≡ false → replied (worst_run bs w) ≡ reply_with no_run (wear_refusal bs w) (worst_run bs w)
  unfolding wear_refusal reply_with
  run_given g e = rw (g, e)

-- what is answered
pub ruleset answers = (bodies.body_refused, body_refused, width_refused, run_given)
