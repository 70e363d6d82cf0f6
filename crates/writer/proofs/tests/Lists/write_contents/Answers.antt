-- `writer::tests::Lists::write_contents` meets its contract: what is written and the entries that are left are the contents.
use Rattle.std.proofs.Common.{◌≡◌, sym, ◌∙◌, inl, inr}
use Rattle.std.specs.Slice.Iter.{iter_rest}
use Rattle.std.specs.Iterator.Adapters.{zip_first, zip_second}
use Rattle.writer.proofs.Filled.{count_room, entries_start, entries_room, entries_next, entries_end}
use Rattle.writer.proofs.tests.Lists.write_contents.Goals as goal

pub extend_from_slice-requires : goal.extend_from_slice-requires
extend_from_slice-requires c = count_room c.args.self.now _ c.to_be_bytes.ensures c.args.book.now c.requires

pub loop-number-init : goal.loop-number-init
loop-number-init c =
    let l = c.args.self.now in
    let i = c.into_iter-number-iterator.ensures.into_iter_gives in
    let a : iter_rest (zip_first c.into_iter-number-iterator.result) ≡ l.numbers.now = cc in
    let b : iter_rest (zip_second c.into_iter-number-iterator.result) ≡ l.counts.now = cc in
    rw (a, b) (entries_start l _ c.to_be_bytes.ensures c.args.book.now c.requires c.extend_from_slice.ensures)

pub push_entry-requires : goal.push_entry-requires
push_entry-requires c =
    let s = c.in-Some.ensures.steps in
    entries_room c.loop-number.invariant s.0 s.1 c.requires

pub loop-number-preserved : goal.loop-number-preserved
loop-number-preserved c =
    let s = c.in-Some.ensures.steps in
    rw c.from.ensures (entries_next c.loop-number.invariant s.0 s.1 c.push_entry.ensures)

pub returns : goal.returns
returns c =
    let i = c.loop-number.invariant in
    entries_end i (elim c.in-None.ensures.steps [ inl s ↦ s.1.0 | inr s ↦ sym i.paired ∙ s.1.0 ])
