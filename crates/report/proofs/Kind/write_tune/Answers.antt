-- `report::Kind::write_tune` meets its contract: the kind decides.
use Rattle.report.specs.Answers.{kind_listing, kind_wear}
use Rattle.report.proofs.Kind.write_tune.Goals as goal

pub write_tune-requires : goal.write_tune-requires
write_tune-requires c = rw (← kind_listing _ c.args.entry.now.book.now c.args.entry.now.place c.in-Listing.is) c.requires

pub write_tune-requires-in-Wear : goal.write_tune-requires-in-Wear
write_tune-requires-in-Wear c = rw (← kind_wear _ c.args.entry.now.book.now c.args.entry.now.place c.in-Wear.is) c.requires

pub returns-in-Listing : goal.returns-in-Listing
returns-in-Listing c = rw (kind_listing _ c.args.entry.now.book.now c.args.entry.now.place c.in-Listing.is) c.write_tune.ensures

pub returns-in-Wear : goal.returns-in-Wear
returns-in-Wear c = rw (kind_wear _ c.args.entry.now.book.now c.args.entry.now.place c.in-Wear.is) c.write_tune-in-Wear.ensures
