-- `book::bodies::damaged_card` meets its contract: the test, then the search.
use mathlib.Core.Path.{◌≡◌, sym}
use mathlib.Core.Bool.{true, false}
use native.Mathlib.Omega.{arith}
use borrow.Author.Rules.{rules}
use borrow.Author.Tests.{tests}
use Rattle.std.proofs.lemmas.Iterator.{first_from_Range}
use Rattle.refusal.specs.Replies.{value_reply}
use Rattle.book.specs.Bounds.{good_length}
use Rattle.book.specs.Bodies.{is_damaged}
use Rattle.book.specs.Damaged.{damaged_found}
use Prim.Native.Nat.{ℕ}
use Rattle.book.proofs.bodies.damaged_card.Goals as goal

pub overflow_add-count : goal.overflow_add-count
overflow_add-count c = let b = c.in_ok-body.body in omega (arith, good_length b.bytes.now b.good)

pub returns : goal.returns
unfolding is_damaged
returns c =
    let bs = c.in_ok-body.body.bytes.now in
    let yes = λ (n : ℕ). is_damaged bs n ≡ true in
    let no = λ (n : ℕ). is_damaged bs n ≡ false in
    let f = first_from_Range _ _ _ c.find.result yes no c.find.ensures.ran (λ x q k. search (rules, tests)) (λ x q k. search (rules, tests)) in
    let e = damaged_found bs c.find.result (rw c.count.ensures at f) in
    rw (e, c.in_ok-body.ensures.same) (value_reply _ _ _ (sym c.in_ok-body.ensures.refusal))
