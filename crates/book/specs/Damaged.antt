-- What the first damaged card of a body is (document 01: Worn).
-- Main: flawed_strike, flawed_refused, damaged_first, damaged_none, damaged_found.
use Rattle.std.specs.Prelude.{◌≡◌, true, false, not, List, ◌↔◌, ℕ, ◌+◌, ◌≤◌, ◌<◌, eqb, Result, Ok, Err, MatchOption}
use Rattle.std.specs.Prelude as code
use Rattle.std.proofs.Math.Option.{none, some}
use Rattle.std.proofs.Common.{sym, arith}
use Rattle.algebra.specs.Search.{First, NoneIn, search_first, search_none}
use Rattle.refusal.specs.Replies.{number_not_zero}
use Rattle.refusal.specs.declared.Refusal.{Refusal}
use Rattle.book.specs.declared.reading.Reading.{Reading}
use Rattle.book.specs.Options.{option_of}
use Rattle.book.specs.Reading.{read_reply, cards_in}
use Rattle.book.specs.Bodies.{flawed, is_damaged, first_damaged}

-- a strike is flawed by its damage, a refusal always
pub flawed_strike : (r : Result Reading Refusal) (c : Reading) → r ≡ Ok c → not (eqb c.damage.rank 0) ≡ flawed (read_reply r)
unfolding flawed
flawed_strike r c e = rw e

pub flawed_refused : (r : Result Reading Refusal) (why : Refusal) → r ≡ Err why → true ≡ flawed (read_reply r)
unfolding flawed
flawed_refused r why e = rw (e, number_not_zero why)

pub ruleset flaws = (flawed_strike, flawed_refused)

module _ (bs : List ℕ) where
  -- it is card n exactly if that is damaged, with none before it
  pub damaged_first : (n : ℕ) → (first_damaged bs ≡ some n) ↔ First (is_damaged bs) 1 (cards_in bs + 1) n
  unfolding first_damaged
  damaged_first n = search_first (is_damaged bs) (cards_in bs) 1 (cards_in bs + 1) (omega arith) n

  -- there is none exactly if no card is damaged
  pub damaged_none : (first_damaged bs ≡ none) ↔ NoneIn (is_damaged bs) 1 (cards_in bs + 1)
  unfolding first_damaged
  damaged_none = search_none (is_damaged bs) (cards_in bs) 1 (cards_in bs + 1) (omega arith)

  -- so a search that tries them in turn finds it
  pub damaged_found : (o : code.Option ℕ)
      → MatchOption o ((k : ℕ) → 1 ≤ k → k < cards_in bs + 1 → is_damaged bs k ≡ false)
      (λ i. (1 ≤ i) × (i < cards_in bs + 1) × (is_damaged bs i ≡ true) × ((k : ℕ) → 1 ≤ k → k < i → is_damaged bs k ≡ false))
      → option_of o ≡ first_damaged bs
  damaged_found code.None f = sym (damaged_none.1 f)
  damaged_found (code.Some i) f = sym ((damaged_first i).1 (record { low = f.0; high = f.1; passes = f.2; before = f.3 }))
