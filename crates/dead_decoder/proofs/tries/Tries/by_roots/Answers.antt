-- `dead_decoder::tries::Tries::by_roots` meets its contract: the tries that are not made have no answer.
use native.Mathlib.Omega.{arith}
use Rattle.rank.specs.Definitions.{at}
use Rattle.dead_decoder.specs.Roots.{only_roots_sorted}
use Rattle.dead_decoder.proofs.tries.Tries.by_roots.Goals as goal

pub two-requires : goal.two-requires
unfolding at
two-requires c =
    let t = c.args.self in
    let d = t.card in
    let (p, q, r) = c.roots-r.ensures in
    rw (c.min.ensures, c.max.ensures) (
      omega arith,
      omega (arith, p, q),
      only_roots_sorted t.n d.k.value d.rows.bits d.columns.bits d.card.symbols (at t.shared.coefficients) t.shared.factor t.first _ _ _ t.even.0 t.even.1 t.factor_is t.first_is
          c.new-q.ensures c.roots-r.ensures,
    )
