-- What weighing finds, what it refuses, and what is to be answered in each case (document 01: Weigh).
-- Main: weight_of, no_weight, weight_rank, weight_self, weight_reply, weight_refusal, weighed_length, weighed_range, weighed_card.
use Rattle.std.specs.Prelude.{◌≡◌, refl, ◌≢◌, Bool, true, false, cond, not, List, ℕ, ◌+◌, eqb, length, get_or, Result, Ok, Err}
use Rattle.std.proofs.Common.{eq-eqb, ne_eqb}
use Rattle.algebra.specs.Tests.{any_above}
use Rattle.refusal.specs.Replies.{number, Reply, reply_or, reply_with, refused_reply, value_reply}
use Rattle.refusal.specs.declared.Refusal.{Refusal}
use Rattle.refusal.specs.declared.Refusal.TheVariants.{Length, Range}
use Rattle.rank.specs.declared.Weight.{Weight}
use Rattle.rank.specs.Definitions.{rank, difference, apart}
use Rattle.rank.specs.Distance.{apart_self}
use Rattle.rank.specs.Arrays.{zeros_rank}

-- the weight of six symbols, and that of zeros
unfoldable pub weight_of : (card : List ℕ) → Weight
weight_of c = record { rank = rank c }

abbrev pub no_weight : Weight
no_weight = record { rank = 0 }

pub weight_rank : (c : List ℕ) → (weight_of c).rank ≡ rank c
unfolding weight_of
weight_rank c = refl

-- the difference of a card to itself weighs nothing
pub weight_self : (c : List ℕ) → no_weight ≡ weight_of (difference c c)
unfolding weight_of apart
weight_self c = rw (apart_self c)

pub weight_of_zeros : (c : List ℕ) → length c ≡ 6 → get_or c 0 0 + get_or c 1 0 + get_or c 2 0 + get_or c 3 0 + get_or c 4 0 + get_or c 5 0 ≡ 0 → no_weight ≡ weight_of c
unfolding weight_of
weight_of_zeros c h e = rw (zeros_rank c h e)

-- what an answer says
abbrev pub weight_reply : Result Weight Refusal → Reply Weight
weight_reply r = reply_or no_weight r

-- the number of the refusal of a list that is no card, first for its length; 0 for a card
unfoldable pub weight_refusal : List ℕ → ℕ
weight_refusal c = cond (not (eqb (length c) 6)) (number Length) (cond (any_above 728 c) (number Range) 0)

-- THE ANSWERS, case by case
module _ (c : List ℕ) where
  pub weighed_length : length c ≢ 6 → weight_reply (Err Length) ≡ reply_with no_weight (weight_refusal c) (weight_of c)
  unfolding weight_refusal
  weighed_length n = refused_reply _ _ _ Length (rw (ne_eqb (length c) 6 n) refl)

  module _ (six : length c ≡ 6) (above : Bool) (e : above ≡ any_above 728 c) where
    pub weighed_range : above ≡ true → weight_reply (Err Range) ≡ reply_with no_weight (weight_refusal c) (weight_of c)
    unfolding weight_refusal
    weighed_range t = refused_reply _ _ _ Range (rw (eq-eqb (length c) 6 six, ← e, t) refl)

    pub weighed_card : (w : Weight) → w ≡ weight_of c → above ≡ false → weight_reply (Ok w) ≡ reply_with no_weight (weight_refusal c) (weight_of c)
    unfolding weight_refusal
    weighed_card w h t = rw h (value_reply _ _ _ (rw (eq-eqb (length c) 6 six, ← e, t) refl))
