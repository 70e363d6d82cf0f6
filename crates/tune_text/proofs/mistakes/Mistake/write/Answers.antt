-- `tune_text::mistakes::Mistake::write` meets its contract: the parts of the line one after another.
use Rattle.std.proofs.Common.{arith, length-append}
use Rattle.text.proofs.WritingLaws.{writes_then, writes_at, writes_length}
use Rattle.tune_text.specs.MistakeLines.{mistake_line}
use Rattle.tune_text.proofs.mistakes.Mistake.write.Goals as goal

pub push_spaced-requires : goal.push_spaced-requires
unfolding mistake_line
push_spaced-requires c =
    let word = c.extend_from_slice.ensures in
    omega (arith, simp length-append at c.requires, writes_at word, writes_length word)

pub extend_from_slice-requires-2 : goal.extend_from_slice-requires-2
unfolding mistake_line
extend_from_slice-requires-2 c =
    let number = writes_then c.extend_from_slice.ensures c.push_spaced.ensures in
    omega (arith, simp length-append at c.requires, simp length-append at (writes_at number), writes_length number)

pub extend_from_slice-requires-3 : goal.extend_from_slice-requires-3
unfolding mistake_line
extend_from_slice-requires-3 c =
    let number = writes_then c.extend_from_slice.ensures c.push_spaced.ensures in
    let colon = writes_then number c.extend_from_slice-2.ensures in
    rw c.words.ensures (omega (arith, simp length-append at c.requires, simp length-append at (writes_at colon), writes_length colon))

pub push-requires : goal.push-requires
unfolding mistake_line
push-requires c =
    let number = writes_then c.extend_from_slice.ensures c.push_spaced.ensures in
    let fault = writes_then (writes_then number c.extend_from_slice-2.ensures) (rw c.words.ensures at c.extend_from_slice-3.ensures) in
    omega (arith, simp length-append at c.requires, simp length-append at (writes_at fault), writes_length fault)

pub returns : goal.returns
unfolding mistake_line
returns c =
    let number = writes_then c.extend_from_slice.ensures c.push_spaced.ensures in
    let fault = writes_then (writes_then number c.extend_from_slice-2.ensures) (rw c.words.ensures at c.extend_from_slice-3.ensures) in
    writes_then fault c.push.ensures
