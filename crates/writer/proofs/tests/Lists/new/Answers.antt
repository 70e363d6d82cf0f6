-- `writer::tests::Lists::new` meets its contract: each test decides, where those before it are passed.
use Rattle.std.proofs.Common.{arith}
use Rattle.std.proofs.lemmas.Bool.Decides.{nat_tests}
use Rattle.writer.specs.Writing.{book_length, lengths_good, write_refusal}
use Rattle.writer.proofs.Tested.{any_zero_is, size_is}
use Rattle.writer.proofs.tests.Lists.new.Goals as goal

pub returns-then-not-numbers_rise-clause-tested : goal.returns-then-not-numbers_rise-clause-tested
unfolding write_refusal
returns-then-not-numbers_rise-clause-tested c =
    let s = size_is _ _ c.in_ok-size.ensures in
    grind (arith, nat_tests)

pub returns-then-contains-clause-tested : goal.returns-then-contains-clause-tested
unfolding write_refusal
returns-then-contains-clause-tested c =
    let s = size_is _ _ c.in_ok-size.ensures in
    let z = any_zero_is c.args.counts.now in
    grind (arith, nat_tests)

pub overflow_sub-bodies : goal.overflow_sub-bodies
unfolding book_length
overflow_sub-bodies c = let s = size_is _ _ c.in_ok-size.ensures in omega arith

pub overflow_mul-bodies : goal.overflow_mul-bodies
unfolding book_length
overflow_mul-bodies c = let s = size_is _ _ c.in_ok-size.ensures in omega arith

pub overflow_sub-bodies-2 : goal.overflow_sub-bodies-2
unfolding book_length
overflow_sub-bodies-2 c = let s = size_is _ _ c.in_ok-size.ensures in omega arith

pub returns-then-strikes-bodies-clause-tested : goal.returns-then-strikes-bodies-clause-tested
unfolding write_refusal lengths_good book_length
returns-then-strikes-bodies-clause-tested c =
    let s = size_is _ _ c.in_ok-size.ensures in
    let z = any_zero_is c.args.counts.now in
    grind (arith, nat_tests)

pub invariant_of-result : goal.invariant_of-result
invariant_of-result c =
    let s = size_is _ _ c.in_ok-size.ensures in
    record { strikes_good = cc; same_length = omega arith; book_fits = omega arith }

pub returns-clause-tested : goal.returns-clause-tested
unfolding write_refusal lengths_good book_length
returns-clause-tested c =
    let s = size_is _ _ c.in_ok-size.ensures in
    let z = any_zero_is c.args.counts.now in
    grind (arith, nat_tests)
