-- `report::Kind::write_tunes` meets its contract: the tunes before this place were written.
use Rattle.std.proofs.Common.{arith}
use Rattle.book.specs.Layout.{tunes}
use Rattle.text.proofs.WritingLaws.{joins_start, joins_room, joins_next, joins_end}
use Rattle.report.proofs.Kind.write_tunes.Goals as goal

pub loop-place-init : goal.loop-place-init
loop-place-init c = joins_start _ _ (omega (arith, c.requires.room))

pub write_tune-requires : goal.write_tune-requires
write_tune-requires c = joins_room c.loop-place.invariant (tunes c.args.book.now) (omega arith) c.requires.room

pub loop-place-preserved : goal.loop-place-preserved
loop-place-preserved c = joins_next c.loop-place.invariant c.write_tune.ensures

pub returns : goal.returns
returns c = joins_end c.loop-place.invariant (tunes c.args.book.now) (omega arith)
