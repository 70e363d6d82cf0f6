-- `book::entries::Entry::find` meets its contract: the place that was answered is that of an entry of an accepted book.
use mathlib.Core.Path.{◌≡◌, refl, sym, ap, ◌∙◌}
use Rattle.std.proofs.Math.Option.{some}
use Rattle.std.proofs.lemmas.Result.{err_from_is_err_and}
use Rattle.refusal.specs.Replies.{reply_value, reply_refused}
use Rattle.book.specs.Pull.{entry_of, pull_refusal}
use Rattle.book.proofs.Pulled.{entry_placed, found_there}
use Rattle.book.proofs.entries.Entry.find.Goals as goal
use Rattle.book.proofs.entries.Entry.find.Goals.{In_ok-place}

pub returns-in_err-place-clause-refusal : goal.returns-in_err-place-clause-refusal
returns-in_err-place-clause-refusal c =
    let p = err_from_is_err_and c.from_residual.result c.from_residual.ensures.1 in
    rw (p.1, p.2) ((reply_refused _ _ _ _ c.in_err-place.ensures).0)

-- nothing was refused, and the place is the entry's
placed : (c : In_ok-place) → let bs = c.args.book.now in let t = c.args.number in
    (pull_refusal bs t ≡ 0) × (entry_of bs t ≡ some c.in_ok-place.field-0)
placed c =
    let v = reply_value _ _ _ _ c.in_ok-place.ensures in
    (v.0, entry_placed _ _ v.0 ∙ ap some (sym v.1))

pub invariant_of-result : goal.invariant_of-result
invariant_of-result c =
    let p = placed (goal.at.invariant_of-result c).In_ok-place in
    record { accepted = (found_there _ _ _ p.0 p.1).held }

pub returns-clause-refusal : goal.returns-clause-refusal
returns-clause-refusal c = sym (placed (goal.at.returns-clause-refusal c).In_ok-place).0

pub returns-clause-found : goal.returns-clause-found
returns-clause-found c = (refl, (placed (goal.at.returns-clause-found c).In_ok-place).1)
