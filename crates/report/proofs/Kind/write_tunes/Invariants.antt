-- `report::Kind::write_tunes` meets its contract: the tunes before place were written.
use Rattle.text.specs.Writing.{Joins}
use Rattle.report.specs.Reports.{tune_report}
use Rattle.report.proofs.Kind.write_tunes.Given as goal

abbrev pub invariant-loop-place : goal.invariant-loop-place
invariant-loop-place l = Joins (tune_report l.self l.book) l.fn.text l.text l.place
