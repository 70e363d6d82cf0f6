-- `book::contents::Contents::find` meets its contract: no entry before this one bears the number.
use mathlib.Core.Path.{◌≡◌, sym, ◌∙◌, ap}
use native.Mathlib.Omega.{arith}
use borrow.Author.Rules.{rules}
use borrow.Author.Tests.{eq-eqb, ne_eqb}
use Rattle.algebra.specs.Search.{none_next}
use Rattle.book.specs.declared.fields.Fields.{Fields}
use Rattle.book.specs.Layout.{tune_number}
use Rattle.book.specs.Pull.{bears}
use Rattle.book.specs.ContentsLoops.{entry_first, entry_none}
use Rattle.book.proofs.contents.Contents.find.Goals as goal
use Rattle.book.proofs.contents.Contents.find.Goals.{After-from}

-- what is compared is the tune number
compared : (c : After-from) → c.from.result ≡ tune_number c.args.self.now.book.now c.loop-e.e
compared c = c.from.ensures ∙ ap (λ (f : Fields). f.number) c.entry.ensures

pub loop-e-preserved : goal.loop-e-preserved
unfolding bears
loop-e-preserved c =
    let bs = c.args.self.now.book.now in
    let e = c.loop-e.e in
    let k = compared (goal.at.loop-e-preserved c).After-from in
    let n = ne_eqb (tune_number bs e) c.args.number (λ h. c.if-from-number.false (k ∙ h)) in
    (none_next (bears bs c.args.number) 0 e c.loop-e.invariant.0 n, search rules)

pub returns-then-self-e : goal.returns-then-self-e
returns-then-self-e c =
    sym ((entry_none c.args.self.now.book.now c.args.number).1 (λ i a b. c.loop-e.invariant.0 i a (omega arith)))

pub returns-then-from-number : goal.returns-then-from-number
unfolding bears
returns-then-from-number c =
    let bs = c.args.self.now.book.now in
    let e = c.loop-e.e in
    let k = compared (goal.at.returns-then-from-number c).After-from in
    sym ((entry_first bs c.args.number e).1 (record {
      low = omega arith;
      high = omega arith;
      passes = eq-eqb (tune_number bs e) c.args.number (sym k ∙ c.if-from-number.true);
      before = c.loop-e.invariant.0;
    }))
