-- What is given follows from the operations' answers.
-- Main: Says, itself, given; answer_says, reply_says, worn_says, offset_says, length_says.
use Rattle.std.specs.Prelude.{◌≡◌, refl, List, ℕ, length, Result, Ok, Err, IfOk, IsOkAnd, MatchResult, unwrap_or}
use Rattle.std.specs.Prelude as code
use Rattle.std.specs.Result.{result_unwrap_or}
use Rattle.std.proofs.Math.Option.{Option, none, some}
use Rattle.std.proofs.Common.{sym, ap, ◌∙◌, ne_eqb}
use Rattle.algebra.specs.Search.{or_zero}
use Rattle.refusal.specs.declared.Refusal.{Refusal}
use Rattle.refusal.specs.Replies.{number, outcome, refusal_some, Reply, reply_or, reply_with, reply_refused, reply_value, unless, Gives}
use Rattle.book.specs.declared.entries.Entry.{Entry}
use Rattle.book.specs.Layout.{offset, part_of}
use Rattle.book.specs.Options.{option_of}
use Rattle.book.specs.Pull.{entry_of, pull_refusal, pulled, pulled_from}
use Rattle.book.specs.Bodies.{worn_reply}
use Rattle.book.proofs.Pulled.{found_there}

-- WHAT AN ANSWER SAYS: its refusal is n, and where there is none, f of its value is v
abbrev pub Says : {A : Type 0} → (f : A → ℕ) → Result A Refusal → (n v : ℕ) → Type 0
Says f a n v = (outcome a ≡ n) × IfOk a (λ x. f x ≡ v)

-- an answer b in one number that is f of the value of an answer a
abbrev pub IsOf : {A : Type 0} → (f : A → ℕ) → (a : Result A Refusal) → (b : Result ℕ Refusal) → Type 0
IsOf f a b = MatchResult a (λ x. IsOkAnd b (λ y. y ≡ f x)) (λ e. b ≡ Err e)

pub itself : (b : Result ℕ Refusal) → IsOf (λ x. x) b b
itself (Ok x) = refl
itself (Err e) = refl

-- A NUMBER AFTERWARDS: the value where there is no refusal, else what it was
pub given : {A : Type 0} (f : A → ℕ) (a : Result A Refusal) (n v : ℕ) → Says f a n v → (b : Result ℕ Refusal) → IsOf f a b
    → (old r now : ℕ) → r ≡ outcome b → now ≡ result_unwrap_or b old → Gives n v old r now
unfolding unless
given f (Ok x) n v (e, s) (Ok y) q old r now p l = record { answers = p ∙ e; lent_is = rw (← e) (l ∙ q ∙ s) }
given f (Ok x) n v (e, s) (Err y) q old r now p l = absurd q
given f (Err x) n v (e, s) b q old r now p l = record {
  answers = rw q at p ∙ e;
  lent_is = rw (← e, ne_eqb (number x) 0 (refusal_some x)) (rw q at l);
}

-- FROM WHAT AN ANSWER REPLIES
module _ {A : Type 0} (f : A → ℕ) (empty : A) where
  pub reply_says : (a : Result A Refusal) (s : Reply A) → reply_or empty a ≡ s → Says f a s.refusal (f s.value)
  reply_says (Ok x) s e = (ap (λ (t : Reply A). t.refusal) e, ap (λ (t : Reply A). f t.value) e)
  reply_says (Err x) s e = (ap (λ (t : Reply A). t.refusal) e, tt)

  pub answer_says : (a : Result A Refusal) (n : ℕ) (v : A) → reply_or empty a ≡ reply_with empty n v → Says f a n (f v)
  answer_says (Ok x) n v e = let (z, w) = reply_value empty n v x e in (sym z, ap f w)
  answer_says (Err x) n v e = ((reply_refused empty n v x e).0, tt)

-- a card, or 0 for none
zero_of : (o : code.Option ℕ) → unwrap_or o 0 ≡ or_zero (option_of o)
zero_of code.None = refl
zero_of (code.Some n) = refl

pub worn_says : (a : Result (code.Option ℕ) Refusal) (n : ℕ) (v : Option ℕ) → worn_reply a ≡ reply_with none n v → Says (λ o. unwrap_or o 0) a n (or_zero v)
worn_says (Ok o) n v e = let (z, w) = reply_value none n v (option_of o) e in (sym z, zero_of o ∙ ap or_zero w)
worn_says (Err x) n v e = ((reply_refused none n v x e).0, tt)

-- a tune's part of the book, by the entry that was found
module _ (bs : List ℕ) (t : ℕ) where
  abbrev Found : Entry → Type 0
  Found e = (e.book.now ≡ bs) × (entry_of bs t ≡ some e.place)

  pub offset_says : (a : Result Entry Refusal) → outcome a ≡ pull_refusal bs t → IfOk a Found → Says (λ (e : Entry). offset e.book.now e.place) a (pull_refusal bs t) (pulled_from bs t)
  offset_says (Ok e) r (b, p) = (r, rw b (sym (found_there bs t e.place (sym r) p).begins))
  offset_says (Err x) r q = (r, tt)

  pub length_says : (a : Result Entry Refusal) → outcome a ≡ pull_refusal bs t → IfOk a Found
      → Says (λ (e : Entry). length (part_of e.book.now e.place)) a (pull_refusal bs t) (length (pulled bs t))
  length_says (Ok e) r (b, p) = (r, rw b (sym (ap length (found_there bs t e.place (sym r) p).part)))
  length_says (Err x) r q = (r, tt)
