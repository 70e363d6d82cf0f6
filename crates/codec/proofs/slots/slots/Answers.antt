-- `codec::slots::slots` meets its contract: each k's tables are those of its slots, computed, and what they add up to is the slots.
use Rattle.std.proofs.Common.{◌≡◌, ℕ, ◌≤◌, List, refl, sym, ap, ◌∙◌, arith, lit≤}
use Rattle.algebra.specs.Lists.{table}
use Rattle.transform.specs.Packed.{symbols_of}
use Rattle.transform.specs.Counts.{added, six_tables, added_six}
use Rattle.transform.specs.Slots.{slot_map, slot, computing_slots, slot_mapped}
use Rattle.codec.proofs.slots.slots.Goals as goal

by_tables : (n k : ℕ) → 1 ≤ n → n ≤ 5 → k ≡ n → (card : List ℕ) (tables : List (List (List ℕ))) (r : List ℕ) → tables ≡ six_tables (slot_map n)
    → r ≡ symbols_of (added tables card 6) → r ≡ table 6 (slot k card)
by_tables n k p q h card tables r e d =
    d ∙ ap symbols_of (added_six (slot_map n) tables card e) ∙ slot_mapped n p q card ∙ ap (λ (i : ℕ). table 6 (slot i card)) (sym h)

pub returns-in-1 : goal.returns-in-1
unfolding computing_slots
returns-in-1 c = by_tables 1 c.args.k.value (lit≤ tt) (lit≤ tt) c.in-1.is c.args.card _ _ refl c.linear.ensures

pub returns-in-2 : goal.returns-in-2
unfolding computing_slots
returns-in-2 c = by_tables 2 c.args.k.value (lit≤ tt) (lit≤ tt) c.in-2.is c.args.card _ _ refl c.linear-in-2.ensures

pub returns-in-3 : goal.returns-in-3
unfolding computing_slots
returns-in-3 c = by_tables 3 c.args.k.value (lit≤ tt) (lit≤ tt) c.in-3.is c.args.card _ _ refl c.linear-in-3.ensures

pub returns-in-4 : goal.returns-in-4
unfolding computing_slots
returns-in-4 c = by_tables 4 c.args.k.value (lit≤ tt) (lit≤ tt) c.in-4.is c.args.card _ _ refl c.linear-in-4.ensures

pub returns-in_default : goal.returns-in_default
unfolding computing_slots
returns-in_default c = by_tables 5 c.args.k.value (lit≤ tt) (lit≤ tt) (omega arith) c.args.card _ _ refl c.linear-in_default.ensures
