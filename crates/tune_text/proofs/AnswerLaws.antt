-- The answer of the operation: how each comes about, and what a caller learns from it.
-- Main: answer_long, answer_short, numbers_short, counts_short, answer_wrong, read_so, tunes_room, strikes_room, counts_size, read_front.
use Rattle.std.specs.Prelude.{◌≡◌, refl, Bool, true, false, cond, List, ℕ, ◌≤◌, ◌<◌, ltb, min, length, take, Option, Some, None, Result, Ok, Err}
use Rattle.std.proofs.Math.Path.{sym}
use Rattle.std.proofs.Common.{ap, ◌∙◌, arith}
use Rattle.std.proofs.Math.Bool.{or-true}
use Rattle.std.proofs.Math.Decide.{dec_lt}
use borrow.Author.Tests.{lt-ltb, le-ltb, ltb-false}
use Rattle.algebra.specs.Tests.{neither}
use Rattle.refusal.specs.declared.Refusal.TheVariants.{Length}
use Rattle.text.proofs.WritingLaws.{written_front}
use Rattle.tune_text.specs.declared.lines.Line.{Line}
use Rattle.tune_text.specs.declared.mistakes.Mistake.{Mistake}
use Rattle.tune_text.specs.declared.tunes.Sizes.{Sizes}
use Rattle.tune_text.specs.declared.tunes.Unread.{Unread}
use Rattle.tune_text.specs.declared.tunes.Unread.TheVariants.{TooLong, Refused, Wrong}
use Rattle.tune_text.specs.Reading.{lines_said, numbers_of, strikes_of, counts_of, mistake_of}
use Rattle.tune_text.specs.Reading.{longest_text, too_short, checked, tunes_of, when_read}
use Rattle.tune_text.proofs.SizeLaws.{mistake_within, numbers_within, counts_length, strikes_within}
use Rattle.tune_text.specs.Answers.{Tested, ReadSo}

-- A LIST IS TOO SHORT
module _ (t n c s : List ℕ) where
  pub numbers_short : length n < length t → too_short t n c s ≡ true
  unfolding too_short
  numbers_short h = rw (lt-ltb (length n) (length t) h)

  pub counts_short : length c < length t → too_short t n c s ≡ true
  unfolding too_short
  counts_short h = rw (lt-ltb (length c) (length t) h, or-true (ltb (length n) (length t)))

  pub strikes_short : length s < length t → too_short t n c s ≡ true
  unfolding too_short
  strikes_short h = rw (lt-ltb (length s) (length t) h, or-true (ltb (length c) (length t)), or-true (ltb (length n) (length t)))

  -- the shortest of them decides
  pub shortest_short : min (min (length n) (length c)) (length s) < length t → too_short t n c s ≡ true
  shortest_short h = elim (dec_lt (length n) (length t)) [
    | yes a ↦ numbers_short a
    | no a ↦ elim (dec_lt (length c) (length t)) [ yes b ↦ counts_short b | no b ↦ strikes_short (omega arith) ]
  ]

  -- THE ANSWERS
  pub answer_long : longest_text < length t → Err TooLong ≡ tunes_of t n c s
  unfolding tunes_of
  answer_long h = rw (lt-ltb longest_text (length t) h)

  pub answer_short : length t ≤ longest_text → too_short t n c s ≡ true → Err (Refused Length) ≡ tunes_of t n c s
  unfolding tunes_of
  answer_short h e = rw (le-ltb longest_text (length t) h, e)

  answer_tested : Tested t n c s → checked (lines_said t) (mistake_of (lines_said t)) ≡ tunes_of t n c s
  unfolding tunes_of too_short
  answer_tested h =
      rw (
        le-ltb longest_text (length t) h.text,
        le-ltb (length n) (length t) h.numbers,
        le-ltb (length c) (length t) h.counts,
        le-ltb (length s) (length t) h.strikes,
      )

  pub answer_wrong : (m : Mistake) → Tested t n c s → mistake_of (lines_said t) ≡ Some m → Err (Wrong m) ≡ tunes_of t n c s
  unfolding checked
  answer_wrong m h e = sym (ap (checked (lines_said t)) e) ∙ answer_tested h

  pub answer_read : (z : Sizes) → Tested t n c s → mistake_of (lines_said t) ≡ None
      → z.tunes ≡ length (numbers_of (lines_said t)) → z.strikes ≡ length (strikes_of (lines_said t)) → Ok z ≡ tunes_of t n c s
  unfolding checked
  answer_read z h e p q = rw (p, q) (sym (ap (checked (lines_said t)) e) ∙ answer_tested h)

-- WHAT A CALLER LEARNS from an answer that is not the first of two
not_first : {A : Type 0} (b : Bool) (x y z : A) → (z ≡ x → ⊥) → cond b x y ≡ z → (b ≡ false) × (y ≡ z)
not_first true x y z n e = absurd (n (sym e))
not_first false x y z n e = (refl, e)

checked_wrong : (ls : List Line) (k : Option Mistake) (m : Mistake) → checked ls k ≡ Err (Wrong m) → k ≡ Some m
unfolding checked
checked_wrong ls None m e = absurd (let z : ◌≡◌ {A = ℕ} 0 1 = cc in omega arith)
checked_wrong ls (Some k) m e = let q : k ≡ m = cc in ap Some q

checked_read : (ls : List Line) (k : Option Mistake) (z : Sizes) → checked ls k ≡ Ok z
    → (k ≡ None) × (z.tunes ≡ length (numbers_of ls)) × (z.strikes ≡ length (strikes_of ls))
unfolding checked
checked_read ls None z e = (refl, cc, cc)
checked_read ls (Some k) z e = absurd (let z : ◌≡◌ {A = ℕ} 0 1 = cc in omega arith)

module _ (t n c s : List ℕ) where
  tested_of : (r : Result Sizes Unread) → (r ≡ Err TooLong → ⊥) → (r ≡ Err (Refused Length) → ⊥) → tunes_of t n c s ≡ r
      → Tested t n c s × (checked (lines_said t) (mistake_of (lines_said t)) ≡ r)
  unfolding tunes_of too_short
  tested_of r p q e =
      let a = not_first (ltb longest_text (length t)) (Err TooLong) _ r p e in
      let b = not_first (too_short t n c s) (Err (Refused Length)) _ r q a.1 in
      let k = neither (ltb (length n) (length t)) _ b.0 in
      let l = neither (ltb (length c) (length t)) _ k.1 in (
        record {
          text = ltb-false longest_text (length t) a.0;
          numbers = ltb-false (length n) (length t) k.0;
          counts = ltb-false (length c) (length t) l.0;
          strikes = ltb-false (length s) (length t) l.1;
        },
        b.1,
      )

  -- a mistake is on a line of a small number
  pub wrong_line : (m : Mistake) → tunes_of t n c s ≡ Err (Wrong m) → m.line ≤ longest_text
  wrong_line m e =
      let g = tested_of (Err (Wrong m)) (λ p. let z : ◌≡◌ {A = ℕ} 0 1 = cc in omega arith) (λ p. let z : ◌≡◌ {A = ℕ} 0 1 = cc in omega arith) e in
      omega (arith, mistake_within t m (checked_wrong (lines_said t) (mistake_of (lines_said t)) m g.1), g.0.text)

  pub read_so : (z : Sizes) → tunes_of t n c s ≡ Ok z → ReadSo t n c s z
  read_so z e =
      let g = tested_of (Ok z) (λ p. let z : ◌≡◌ {A = ℕ} 0 1 = cc in omega arith) (λ p. let z : ◌≡◌ {A = ℕ} 0 1 = cc in omega arith) e in
      let k = checked_read (lines_said t) (mistake_of (lines_said t)) z g.1 in
      record { tested = g.0; fine = k.0; tunes = k.1; strikes = k.2 }

-- the sizes are within the lists, and there is a count for each tune
module _ {t n c s : List ℕ} {z : Sizes} (r : ReadSo t n c s z) where
  pub tunes_room : (z.tunes ≤ length n) × (z.tunes ≤ length c)
  tunes_room = let h = r.tested in let k = numbers_within t in (omega (arith, r.tunes, h.numbers), omega (arith, r.tunes, h.counts))

  pub strikes_room : z.strikes ≤ length s
  strikes_room = let h = r.tested in omega (arith, r.strikes, h.strikes, strikes_within t)

  pub counts_size : z.tunes ≡ length (counts_of (lines_said t))
  counts_size = r.tunes ∙ sym (counts_length (lines_said t))

-- a lent list begins with what was read
pub read_front : (r : Result Sizes Unread) (z : Sizes) (old new now : List ℕ) → r ≡ Ok z → now ≡ when_read r old new → take (length new) now ≡ new
read_front r z old new now p e = let w : now ≡ when_read (Ok z) old new = rw p at e in rw w (written_front old new)
