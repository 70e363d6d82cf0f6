-- `writer::size::book_size` meets its contract: the sum is that of all counts.
use Rattle.std.proofs.Common.{◌≡◌, ◌≤◌, arith, sym, ◌∙◌, rules, tests, mul-le-mul_right}
use Rattle.std.proofs.lemmas.Iterator.{YieldsList-from_slice, YieldsList-from_map}
use Rattle.std.proofs.lemmas.Iterator.Consumers.{YieldsList-at, sum_by_from_yields_List}
use Rattle.std.proofs.lemmas.List.Sums.{sum_by-le}
use Rattle.std.proofs.lemmas.List.Elements.{All-from_get_or}
use Rattle.writer.specs.Writing.{all_cards, book_length}
use Rattle.writer.proofs.Tested.{all_cards_sum, size_refused, size_passed}
use Rattle.writer.proofs.size.book_size.Goals as goal
use Rattle.writer.proofs.size.book_size.Goals.{After-sum-cards}

-- the sum, which is small enough
summed : (c : After-sum-cards) → (c.sum-cards.result ≡ all_cards c.args.counts.now) × (c.sum-cards.result ≤ 536797185)
summed c =
    let cs = c.args.counts.now in
    let s =
    sum_by_from_yields_List (λ x. x) cs c.map.result c.sum-cards.result c.sum-cards.ensures.ran
    (YieldsList-from_map _ (λ x. x) (YieldsList-at c.map.ensures.source (YieldsList-from_slice cs cc)) c.map.ensures.closure (λ x r q k. search (rules, tests))) in
    let e : c.sum-cards.result ≡ all_cards cs = s ∙ sym (all_cards_sum cs) in
    let m = sum_by-le (λ n. n) 65535 cs (All-from_get_or (λ n. n ≤ 65535) cs 0 (λ i h. omega (arith, c.type_inv.counts i))) in
    (e, omega (arith, mul-le-mul_right 65535 c.if-counts-gt-MOST_TUNES.false))

pub returns-then-counts-gt-MOST_TUNES : goal.returns-then-counts-gt-MOST_TUNES
unfolding book_length
returns-then-counts-gt-MOST_TUNES c = size_refused c.args.counts.now (omega arith)

pub overflow_mul-size-2 : goal.overflow_mul-size-2
overflow_mul-size-2 c = let s = summed c in omega arith

pub overflow_add-size-2 : goal.overflow_add-size-2
overflow_add-size-2 c = let s = summed (goal.at.overflow_add-size-2 c).After-sum-cards in omega arith

pub returns-then-size-gt-LONGEST : goal.returns-then-size-gt-LONGEST
unfolding book_length
returns-then-size-gt-LONGEST c = let s = summed (goal.at.returns-then-size-gt-LONGEST c).After-sum-cards in size_refused c.args.counts.now (omega arith)

pub returns : goal.returns
unfolding book_length
returns c = let s = summed (goal.at.returns c).After-sum-cards in size_passed c.args.counts.now _ (omega arith) (omega arith)
