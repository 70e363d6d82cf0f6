-- `book::pull::tune_place` meets its contract: it goes by what `open` and the search answer, as `pull_refusal` does.
use mathlib.Core.Path.{◌≡◌, refl, sym, ◌∙◌}
use native.Mathlib.Omega.{arith}
use Rattle.std.proofs.lemmas.Result.{err_from_is_err_and}
use Rattle.refusal.specs.Replies.{reply_value, reply_refused, value_reply, refused_reply}
use Rattle.refusal.specs.declared.Refusal.TheVariants.{NoSuchTune}
use Rattle.book.specs.Layout.{tunes}
use Rattle.book.specs.Accepted.{Accepted}
use Rattle.book.proofs.Accepted.{entries_within, book_within}
use Rattle.book.proofs.Pulled.{pull_accepted, pull_refused, entry_found}
use Rattle.book.proofs.pull.tune_place.Goals as goal
use Rattle.book.proofs.pull.tune_place.Goals.{In_ok-count}

-- the book was accepted, and the count is that of its tunes
opened : (c : In_ok-count) → let bs = c.args.book.now in
    Accepted bs × (c.in_ok-count.field-0 ≡ tunes bs)
opened c = reply_value _ _ _ _ c.in_ok-count.ensures

pub invariant_of-contents : goal.invariant_of-contents
invariant_of-contents c = let o = opened (goal.at.invariant_of-contents c).In_ok-count in record { count_is = o.1; entries_within = entries_within _ o.0 }

pub returns-in_err-count : goal.returns-in_err-count
returns-in_err-count c =
    let p = err_from_is_err_and c.from_residual.result c.from_residual.ensures.1 in
    let e = reply_refused _ _ _ _ c.in_err-count.ensures in
    rw (p.1, p.2) (refused_reply _ _ _ _ (e.0 ∙ sym (pull_refused _ c.args.number e.1)))

pub overflow_cast-result : goal.overflow_cast-result
overflow_cast-result c =
    let a = (opened (goal.at.overflow_cast-result c).In_ok-count).0 in
    omega (arith, (entry_found _ _ _ (sym c.in-Some.ensures)).0, entries_within _ a, book_within _ a)

pub returns-in-Some : goal.returns-in-Some
returns-in-Some c =
    let a = (opened (goal.at.returns-in-Some c).In_ok-count).0 in
    rw (pull_accepted _ c.args.number a, ← c.in-Some.ensures) (value_reply _ _ _ refl)

pub returns-in-None : goal.returns-in-None
returns-in-None c =
    let a = (opened (goal.at.returns-in-None c).In_ok-count).0 in
    rw (pull_accepted _ c.args.number a, ← c.in-None.ensures) (refused_reply 0 _ 0 NoSuchTune refl)
