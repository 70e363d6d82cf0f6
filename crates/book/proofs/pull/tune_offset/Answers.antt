-- `book::pull::tune_offset` meets its contract: the entry that was found is in an accepted book and bears the number.
use mathlib.Core.Path.{sym, ◌∙◌}
use Rattle.refusal.specs.Replies.{refusal_some}
use Rattle.book.proofs.Pulled.{found_there, refused_from}
use Rattle.book.proofs.pull.tune_offset.Goals as goal

pub returns-in-Ok : goal.returns-in-Ok
returns-in-Ok c =
    let f = c.in-Ok.ensures.found in
    rw (c.offset.ensures, f.0) (sym (found_there _ _ _ (sym c.in-Ok.ensures.refusal) f.1).begins)

pub returns-in-Err : goal.returns-in-Err
returns-in-Err c = sym (refused_from _ _ (λ z. refusal_some _ (c.in-Err.ensures.refusal ∙ z)))
