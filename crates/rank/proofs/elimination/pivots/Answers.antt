-- `rank::elimination::pivots` meets its contract: as many rows as the pivot log is long. The outer loop: the rows chosen, and those that the pivot log from
-- here on chooses. The inner one: what is left to clear makes the rest.
use mathlib.Core.Path.{refl, sym, ap, ◌∙◌}
use mathlib.Core.List.{[]}
use Prim.Native.Nat.{◌+◌, ◌*◌}
use native.Mathlib.Omega.{arith}
use lib.ListN.{length, get_or, set}
use borrow.Author.Rules.{rules}
use Rattle.algebra.specs.Lists.{table}
use Rattle.rank.specs.Definitions.{subtract}
use Rattle.rank.specs.Arrays.{subtract_settles, set_settles, swap_settles, taken_set, taken_swap}
use Rattle.rank.specs.Elimination.{Digits, DigitRows, zeros, swap_rows, Taken, clear_row, clear_on, clear_step, pivot_log_on, pivot_log}
use Rattle.rank.specs.Loops.{column_nonzero, pivot_after, clear_step_on, clear_next, clear_end, pivot_log_passed, pivot_log_chosen, pivot_log_end}
use Rattle.rank.proofs.elimination.pivots.Goals as goal

pub loop-j-init : goal.loop-j-init
unfolding pivot_log Taken
loop-j-init c = (omega arith, omega arith, omega arith, c.requires, λ i l. absurd (omega arith))

pub loop-i-init : goal.loop-i-init
unfolding DigitRows swap_rows zeros table
loop-i-init c =
    let d = c.loop-j.invariant.3 in
    let f = c.in-Some.f in
    let n = c.loop-j.n in
    let r = c.loop-j.r in
    let t = c.loop-j.invariant.4 in
    let e = c.in-Some.ensures.0 ∙ column_nonzero r c.loop-j.j n (omega (arith, c.loop-j.invariant)) t in
    (refl, swap_settles r f n d, d f, refl, taken_swap r f n (omega (arith, e, pivot_after r c.loop-j.j n)) t, omega arith)

pub multiple-requires : goal.multiple-requires
unfolding DigitRows Digits
multiple-requires c =
    let v = c.loop-i.invariant in
    (v.1 c.loop-i.i c.loop-j.j, rw v.3 (v.2 c.loop-j.j))

pub row_less-requires : goal.row_less-requires
unfolding DigitRows
row_less-requires c =
    let v = c.loop-i.invariant in
    (v.1 c.loop-i.i, c.multiple.ensures.1, v.2)

pub loop-i-preserved : goal.loop-i-preserved
unfolding clear_row
loop-i-preserved c =
    let v = c.loop-i.invariant in
    let n = c.loop-i.n in
    let i = c.loop-i.i in
    let k = c.loop-j.j in
    let p = get_or c.loop-j.n c.in-Some.f [] in
    let y = get_or n i [] in
    let e = c.row_less.ensures in
    let d = c.multiple.ensures.0 ∙ ap (λ a. get_or y k 0 * a) v.3 in (
      v.0 ∙ clear_next i k p n c.loop-i-test.true
          ∙ ap (λ x. clear_on (i + 1) k p (set n i x)) (sym (e ∙ ap (λ a. subtract a y p) d)),
      set_settles n i _ v.1 (rw e (subtract_settles _ y p)),
      v.2,
      v.3,
      taken_set (c.loop-j.r + 1) i n _ v.5 v.4,
      omega (arith, v.5),
    )

pub loop-j-preserved : goal.loop-j-preserved
unfolding swap_rows zeros table
loop-j-preserved c =
    let v = c.loop-i.invariant in
    let n = c.loop-j.n in
    let r = c.loop-j.r in
    let j = c.loop-j.j in
    let f = c.in-Some.f in
    let e = c.in-Some.ensures.0 ∙ column_nonzero r j n (omega (arith, c.loop-j.invariant)) c.loop-j.invariant.4 in
    let q =
    sym (clear_step_on r f j n ∙ v.0 ∙ clear_end c.loop-i.i j (get_or n f []) c.loop-i.n c.loop-i-test.false) ∙ ap (λ f. clear_step r f j n) e in
    let t = pivot_log_chosen j r n c.loop-j-test.true
    (omega (arith, e, c.in-Some.ensures.1)) in
    (search rules, search rules, omega (arith, c.loop-j.invariant, ap length t, ap (λ y. length (pivot_log_on (j + 1) (r + 1) y)) q), v.1, v.4)

pub loop-j-preserved-in_default : goal.loop-j-preserved-in_default
unfolding table
loop-j-preserved-in_default c =
    let n = c.loop-j.n in
    let r = c.loop-j.r in
    let j = c.loop-j.j in
    let e = sym (column_nonzero r j n (omega (arith, c.loop-j.invariant)) c.loop-j.invariant.4) ∙ c.in_default.ensures in
    let t = pivot_log_passed j r n c.loop-j-test.true (omega (arith, e)) in
    (search rules, search rules, omega (arith, c.loop-j.invariant, ap length t), c.loop-j.invariant.3, c.loop-j.invariant.4)

pub returns : goal.returns
returns c =
    omega (arith, c.loop-j.invariant, ap length (pivot_log_end c.loop-j.j c.loop-j.r c.loop-j.n c.loop-j-test.false))
