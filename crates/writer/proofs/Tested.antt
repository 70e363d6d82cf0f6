-- The writer's tests as the code runs them: counts added up and looked through, and what the size answers.
-- Main: all_cards_sum, any_zero_is; size_refused, size_passed, size_is, size_is_over.
use Rattle.std.specs.Prelude.{◌≡◌, ◌||◌, List, ℕ, ◌≤◌, ◌<◌, eqb}
use Rattle.std.specs.List.{sum, list_any}
use Rattle.std.proofs.Math.Path.{refl, sym}
use Rattle.std.proofs.Common.{◌∙◌, arith}
use Rattle.std.proofs.Math.Decide.{dec_le}
use Rattle.std.proofs.lemmas.List.Recursion.{is_sum_by, same_from_clauses}
use borrow.Author.Tests.{lt-ltb, le-ltb}
use Rattle.refusal.specs.Replies.{number, refusal_some, replied, refused_with, reply_with, refused_reply, value_reply, reply_value, reply_refused}
use Rattle.refusal.specs.declared.Refusal.{Refusal}
use Rattle.refusal.specs.declared.Refusal.TheVariants.{BookSize}
use Rattle.book.specs.Layout.{longest_book}
use Rattle.writer.specs.Writing.{all_cards, book_length, size_refusal, any_zero}

-- CARDS COUNTED, as the library adds up
pub all_cards_sum : (cs : List ℕ) → all_cards cs ≡ sum cs
unfolding all_cards
all_cards_sum cs = is_sum_by all_cards (λ x. x) refl (λ _ _. refl) cs

-- a count of 0, as the library looks for it
pub any_zero_is : (cs : List ℕ) → any_zero cs ≡ list_any (λ c. eqb c 0) cs
unfolding any_zero
any_zero_is cs = same_from_clauses any_zero (list_any (λ c. eqb c 0)) (λ c b. eqb c 0 || b) refl (λ _ _. refl) (λ _ _. refl) cs

-- the size, too long or not
module _ (cs : List ℕ) where
  pub size_over : longest_book < book_length cs → size_refusal cs ≡ number BookSize
  unfolding size_refusal
  size_over h = rw (lt-ltb longest_book (book_length cs) h)

  pub size_within : book_length cs ≤ longest_book → size_refusal cs ≡ 0
  unfolding size_refusal
  size_within h = rw (le-ltb longest_book (book_length cs) h)

  pub size_refused : longest_book < book_length cs → refused_with 0 (number BookSize) ≡ reply_with 0 (size_refusal cs) (book_length cs)
  size_refused h = refused_reply 0 (size_refusal cs) (book_length cs) BookSize (sym (size_over h))

  pub size_passed : (n : ℕ) → n ≡ book_length cs → n ≤ longest_book → replied n ≡ reply_with 0 (size_refusal cs) (book_length cs)
  size_passed n e h = rw e (value_reply 0 (size_refusal cs) (book_length cs) (size_within (rw (← e) h)))

  pub size_fits : size_refusal cs ≡ 0 → book_length cs ≤ longest_book
  size_fits e = elim (dec_le (book_length cs) longest_book) [ yes h ↦ h | no n ↦ absurd (refusal_some BookSize (sym (size_over (omega arith)) ∙ e)) ]

-- what its answer says: the size, which is short enough; or a refusal, because it isn't
pub size_is : (cs : List ℕ) (n : ℕ) → replied n ≡ reply_with 0 (size_refusal cs) (book_length cs) → (n ≡ book_length cs) × (n ≤ longest_book)
size_is cs n e = let v = reply_value 0 (size_refusal cs) (book_length cs) n e in (v.1, rw v.1 (size_fits cs v.0))

pub size_is_over : (cs : List ℕ) (why : Refusal) → refused_with 0 (number why) ≡ reply_with 0 (size_refusal cs) (book_length cs)
    → (number why ≡ number BookSize) × (longest_book < book_length cs)
size_is_over cs why e =
    let v = reply_refused 0 (size_refusal cs) (book_length cs) why e in
    elim (dec_le (book_length cs) longest_book) [
      | yes h ↦ absurd (v.1 (size_within cs h))
      | no n ↦ let h : longest_book < book_length cs = omega arith in (v.0 ∙ size_over cs h, h)
    ]
