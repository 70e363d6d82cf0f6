-- `book::entries::Entry::fields` meets its contract: the bytes of an entry of an accepted book are there.
use Rattle.book.proofs.Accepted.{entry_within}
use Rattle.book.proofs.entries.Entry.fields.Goals as goal

pub of_entry-requires : goal.of_entry-requires
of_entry-requires c = entry_within _ _ c.args.self.now.accepted
