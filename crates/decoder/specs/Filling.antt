-- What decoding leaves in the two lists lent to it: the word and the message that were found, or what they held. It refuses by a test, or with 4
-- where it found nothing.
-- Main: undecodable, or_empty, or_undecodable, filling, Filled, filling_fits, tests_refused, filled_weight, filled_word, filled_message.
use Rattle.std.specs.Prelude.{◌≡◌, ℕ, ◌*◌, eqb, length, take, Result, Err, Some, None, IfSome, unwrap_or, ok_or, option_map, ◌≤◌}
use Rattle.std.specs.declared.option.Option as found
use Rattle.std.proofs.Math.Path.{refl, sym, ap}
use Rattle.std.proofs.Common.{◌∙◌}
use Rattle.std.proofs.Math.Bool.{cond}
use mathlib.Core.List.{List, []}
use Rattle.std.proofs.Math.Option.{Option, none, some}
use Rattle.refusal.specs.declared.Refusal.{Refusal}
use Rattle.refusal.specs.declared.Refusal.TheVariants.{Undecodable}
use Rattle.refusal.specs.Replies.{number, outcome, reply_with, refused_reply, value_reply, unless, unless_refused, refused_number}
use Rattle.rank.specs.declared.Weight.{Weight}
use Rattle.rank.specs.Weight.{weight_of, no_weight, weight_reply}
use Rattle.coding.specs.Code.{word}
use Rattle.codec.specs.Messages.{numbers_of}
use Rattle.candidate.specs.declared.found.Found.{Found}
use Rattle.decoder.specs.declared.filling.Filling.{Filling}
use Rattle.candidate.specs.Finding.{found_message, Matches}

-- refusal 4 where no message is near, and the message that is
unfoldable pub undecodable : Option (List ℕ) → ℕ
undecodable none = number Undecodable
undecodable (some m) = 0

unfoldable pub or_empty : Option (List ℕ) → List ℕ
or_empty none = []
or_empty (some m) = m

-- 4 comes after the tests
unfoldable pub or_undecodable : (tests : ℕ) → Option (List ℕ) → ℕ
or_undecodable t o = cond (eqb t 0) (undecodable o) t

-- WHAT WAS FOUND, as it is filled in
abbrev pub filling : Found → Filling
filling f = record { word = f.word; numbers = f.message.numbers; weight = f.weight }

-- in the lists: its word and its message, or what they held. The answer is its weight, or 4.
pub record Filled (near : found.Option Filling) (w m : List ℕ) (r : Result Weight Refusal) (w-now m-now : List ℕ) : Type 0 where
  pub answers : r ≡ ok_or (option_map (λ f. f.weight) near) Undecodable
  pub word_is : w-now ≡ unwrap_or (option_map (λ f. f.word) near) w
  pub message_is : m-now ≡ unwrap_or (option_map (λ f. take (length m) f.numbers) near) m

-- it fits where the word and the message do
pub filling_fits : (w m : List ℕ) (near : found.Option Found) → IfSome near (λ f. (length f.word ≡ length w) × (length m ≤ length f.message.numbers))
    → IfSome (option_map filling near) (λ f. (length f.word ≡ length w) × (length m ≤ length f.numbers))
filling_fits w m None h = tt
filling_fits w m (Some f) h = h

-- THE ANSWER for a message o, with the number t of the tests
module _ (k t : ℕ) (o : Option (List ℕ)) (w m : List ℕ) where
  abbrev n : ℕ
  n = or_undecodable t o

  -- refused by a test
  pub tests_refused : {A : Type 0} (r : Result A Refusal) (x : Refusal) → outcome r ≡ t → r ≡ Err x
      → (number x ≡ n) × (w ≡ unless n (word k (or_empty o)) w) × (m ≡ unless n (or_empty o) m)
  unfolding or_undecodable
  tests_refused r x e q =
      let (s, z) = refused_number t r x e q in
      rw z (s, unless_refused t (word k (or_empty o)) w z, unless_refused t (or_empty o) m z)

  -- the tests passed, and what was found filled in
  module _ (z : t ≡ 0) (left : List ℕ → List ℕ) (l : length m ≡ 2 * k) (r : Result Weight Refusal) (w-now m-now : List ℕ) where
    pub filled_weight : (near : found.Option Found) → found_message near ≡ o → Matches k left near → Filled (option_map filling near) w m r w-now m-now
        → weight_reply r ≡ reply_with no_weight n (weight_of (left (word k (or_empty o))))
    unfolding or_undecodable undecodable or_empty found_message
    filled_weight None e M F = rw (z, ← e, F.answers) (refused_reply _ _ _ Undecodable refl)
    filled_weight (Some f) e (q, v) F =
        rw (z, ← e, F.answers) (value_reply _ _ _ refl ∙ ap (reply_with no_weight 0) (v ∙ ap (λ (x : List ℕ). weight_of (left x)) (f.word_is ∙ ap (λ (i : ℕ). word i (numbers_of f.message)) q)))

    pub filled_word : (near : found.Option Found) → found_message near ≡ o → Matches k left near → Filled (option_map filling near) w m r w-now m-now
        → w-now ≡ unless n (word k (or_empty o)) w
    unfolding or_undecodable undecodable or_empty found_message unless
    filled_word None e M F = rw (z, ← e) F.word_is
    filled_word (Some f) e (q, v) F = rw (z, ← e) (F.word_is ∙ f.word_is ∙ ap (λ (i : ℕ). word i (numbers_of f.message)) q)

    pub filled_message : (near : found.Option Found) → found_message near ≡ o → Matches k left near → Filled (option_map filling near) w m r w-now m-now
        → m-now ≡ unless n (or_empty o) m
    unfolding or_undecodable undecodable or_empty found_message unless
    filled_message None e M F = rw (z, ← e) F.message_is
    filled_message (Some f) e (q, v) F = rw (z, ← e) (F.message_is ∙ ap (λ (i : ℕ). take i f.message.numbers) (l ∙ ap (λ (i : ℕ). 2 * i) (sym q)))
