-- The lines of a text one by one, as the loops go through them.
-- Main: found, ahead_tune, mistake_next.
use Rattle.std.specs.Prelude.{◌≡◌, refl, Bool, true, false, cond, ◌||◌, ◌⊎◌, Some, None, List, [], ◌∷◌, map, ℕ, suc, min, ◌+◌, ◌-◌, ◌≤◌, ◌<◌, length, take, drop, get_or, set}
use Rattle.std.proofs.Common.{inl, inr, sym, ap, ◌∙◌, true≢false, arith, drop_of_length-le, length-drop, drop-cons, drop-drop}
use Rattle.std.proofs.Math.Bool.{or-true, or-false}
use Rattle.std.proofs.Math.Decide.{ℕ_discrete}
use Rattle.text.specs.Writing.{Wrote}
use Rattle.text.proofs.WritingLaws.{wrote_byte, wrote_then, wrote_length}
use Rattle.tune_text.specs.declared.lines.Fault.{Fault}
use Rattle.tune_text.specs.declared.lines.Line.{Line}
use Rattle.tune_text.specs.declared.lines.Line.TheVariants.{Nothing, Tune, Strike, Wrong}
use Rattle.tune_text.specs.Words.{new_line, pieces, lines}
use Rattle.tune_text.specs.Saying.{line_of}
use Rattle.tune_text.specs.Reading.{lines_said, cards_ahead, at_line, mistake_from}
use Rattle.tune_text.specs.Pieces.{ends_at}
use Rattle.tune_text.proofs.PieceLaws.{ends_within, pieces_next, part_rest}
use Rattle.tune_text.specs.Lines.{Found, begins_tune, card_in, fits, fault_of}

said_cons : (b : ℕ) (l : List ℕ)
    → lines_said (b ∷ l) ≡ line_of (take (ends_at new_line (b ∷ l)) (b ∷ l)) ∷ lines_said (drop (suc (ends_at new_line (b ∷ l))) (b ∷ l))
unfolding lines_said lines
said_cons b l = ap (map line_of) (pieces_next new_line b l)

module _ (t : List ℕ) (a end : ℕ) (e : end ≡ a + ends_at new_line (drop a t)) where
  pub end_within : a ≤ length t → end ≤ length t
  end_within h = omega (arith, ends_within new_line (drop a t), length-drop a t)

  pub found : (l : Line) → a < length t → l ≡ line_of (take (end - a) (drop a t)) → Found t a l (end + 1)
  found l h q =
      let n = ends_at new_line (drop a t) in
      let k : end + 1 ≡ a + suc n = omega arith in
      let m : end - a ≡ n = omega arith in
      record {
        lines = rw (q, m, k, ← drop-drop (suc n) a t, drop-cons t a 0 h) (said_cons (get_or t a 0) (drop (suc a) t));
        after = omega arith;
        within = omega (arith, end_within (omega arith));
      }

said_some : (t : List ℕ) → (length t ≡ 0 → ⊥)
    → lines_said t ≡ line_of (take (ends_at new_line t) t) ∷ lines_said (drop (suc (ends_at new_line t)) t)
said_some [] h = absurd (h refl)
said_some (b ∷ l) h = said_cons b l

-- there is none behind the end
pub said_end : (t : List ℕ) (a : ℕ) → length t ≤ a → lines_said (drop a t) ≡ []
unfolding lines_said lines pieces
said_end t a h = rw (drop_of_length-le t h)

pub said_none : (t : List ℕ) → length t ≡ 0 → lines_said t ≡ []
said_none t h = said_end t 0 (omega arith)

-- a text taken line by line: the first line, and what is behind its end
module _ (t : List ℕ) {n : ℕ} (e : n ≡ ends_at new_line t) where
  pub line_within : n ≤ length t
  line_within = omega (arith, ends_within new_line t)

  behind_end : drop (min (length t) (n + 1)) t ≡ drop (suc n) t
  behind_end = elim (ℕ_discrete n (length t)) [
    | yes p ↦
        let q : length t ≤ min (length t) (n + 1) = omega arith in
        let r : length t ≤ suc n = omega arith in
        drop_of_length-le t q ∙ sym (drop_of_length-le t r)
    | no p ↦ let q : min (length t) (n + 1) ≡ suc n = omega (arith, line_within) in rw q
  ]

  pub said_more : {l : Line} → (length t ≡ 0 → ⊥) → l ≡ line_of (take n t)
      → lines_said t ≡ l ∷ lines_said (take (length t - min (length t) (n + 1)) (drop (min (length t) (n + 1)) t))
  said_more h q = rw (part_rest t (min (length t) (n + 1)), behind_end, q, e) (said_some t h)

-- what holds of a line that says nothing, and of one with a mistake, holds of a line that is one of them
pub neither_said : {l : Line} (P : Line → Type 0) → (l ≡ Nothing) ⊎ ((f : Fault) × (l ≡ Wrong f)) → P Nothing → ((f : Fault) → P (Wrong f)) → P l
neither_said P h n w = elim h [ inl e ↦ rw e n | inr g ↦ rw g.1 (w g.0) ]

pub ahead_tune : (l : Line) (ls : List Line) → begins_tune l ≡ true → cards_ahead (l ∷ ls) ≡ 0
unfolding cards_ahead
ahead_tune Nothing ls e = absurd (true≢false (sym e))
ahead_tune (Tune n) ls e = refl
ahead_tune (Strike s) ls e = absurd (true≢false (sym e))
ahead_tune (Wrong f) ls e = absurd (true≢false (sym e))

pub ahead_other : (l : Line) (ls : List Line) → begins_tune l ≡ false → cards_ahead (l ∷ ls) ≡ card_in l + cards_ahead ls
unfolding cards_ahead
ahead_other Nothing ls e = omega arith
ahead_other (Tune n) ls e = absurd (true≢false e)
ahead_other (Strike s) ls e = refl
ahead_other (Wrong f) ls e = omega arith

pub mistake_next : (b : Bool) (n : ℕ) (l : Line) (ls : List Line) → fits b l ≡ true
    → mistake_from b n (l ∷ ls) ≡ mistake_from (b || begins_tune l) (n + 1) ls
unfolding mistake_from
mistake_next b n Nothing ls e = rw (or-false b)
mistake_next b n (Tune m) ls e = rw (or-true b)
mistake_next false n (Strike s) ls e = absurd (true≢false (sym e))
mistake_next true n (Strike s) ls e = refl
mistake_next b n (Wrong f) ls e = absurd (true≢false (sym e))

pub mistake_here : (b : Bool) (n : ℕ) (l : Line) (ls : List Line) → fits b l ≡ false → mistake_from b n (l ∷ ls) ≡ at_line n (fault_of l)
unfolding mistake_from
mistake_here b n Nothing ls e = absurd (true≢false e)
mistake_here b n (Tune m) ls e = absurd (true≢false e)
mistake_here false n (Strike s) ls e = refl
mistake_here true n (Strike s) ls e = absurd (true≢false e)
mistake_here b n (Wrong f) ls e = refl

-- by what is wrong with a line, if anything is
pub mistake_found : (b : Bool) (n : ℕ) (l : Line) (ls : List Line) (f : Fault) → Some f ≡ cond (fits b l) None (Some (fault_of l))
    → mistake_from b n (l ∷ ls) ≡ at_line n f
mistake_found b n l ls f = go (fits b l) refl
  where
    go : (t : Bool) → fits b l ≡ t → Some f ≡ cond t None (Some (fault_of l)) → mistake_from b n (l ∷ ls) ≡ at_line n f
    go true h e = absurd (let z : ◌≡◌ {A = ℕ} 0 1 = cc in omega arith)
    go false h e = let q : fault_of l ≡ f = cc in mistake_here b n l ls h ∙ ap (at_line n) q

pub mistake_passed : (b : Bool) (n : ℕ) (l : Line) (ls : List Line) → None ≡ cond (fits b l) None (Some (fault_of l))
    → mistake_from b n (l ∷ ls) ≡ mistake_from (b || begins_tune l) (n + 1) ls
mistake_passed b n l ls = go (fits b l) refl
  where
    go : (t : Bool) → fits b l ≡ t → None ≡ cond t None (Some (fault_of l)) → mistake_from b n (l ∷ ls) ≡ mistake_from (b || begins_tune l) (n + 1) ls
    go true h e = mistake_next b n l ls h
    go false h e = absurd (let z : ◌≡◌ {A = ℕ} 0 1 = cc in omega arith)

-- THE NUMBERS OF A STRIKE stored one after another
pub wrote_three : (old : List ℕ) (a x y z : ℕ) → a + 3 ≤ length old
    → Wrote old a (x ∷ y ∷ z ∷ []) (set (set (set old a x) (a + 1) y) (a + 2) z) (a + 3)
wrote_three old a x y z h =
    let first = wrote_byte old a x (omega arith) in
    let n = wrote_length first in
    let second = wrote_then first (wrote_byte (set old a x) (a + 1) y (omega arith)) in
    let m = wrote_length second in
    let p : a + 1 + 1 ≡ a + 2 = omega arith in
    let q : a + 2 + 1 ≡ a + 3 = omega arith in
    rw (← q) (wrote_then (rw p at second) (wrote_byte (set (set old a x) (a + 1) y) (a + 2) z (omega arith)))
