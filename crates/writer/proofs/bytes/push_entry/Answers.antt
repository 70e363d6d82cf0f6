-- `writer::bytes::push_entry` meets its contract: the three numbers one after another.
use Rattle.std.proofs.Common.{arith, sym, ◌∙◌}
use Rattle.book.specs.Layout.{entry_bytes}
use Rattle.text.proofs.WritingLaws.{writes_then}
use Rattle.writer.proofs.Filled.{two_is, four_is}
use Rattle.writer.proofs.bytes.push_entry.Goals as goal

pub returns : goal.returns
unfolding entry_bytes
returns c =
    rw (sym (c.to_be_bytes.ensures ∙ two_is c.args.number (omega arith)), sym (c.to_be_bytes-2.ensures ∙ four_is c.args.offset (omega arith)), sym (c.to_be_bytes-3.ensures ∙ two_is c.args.cards (omega arith)))
    (writes_then (writes_then c.extend_from_slice.ensures c.extend_from_slice-2.ensures) c.extend_from_slice-3.ensures)
