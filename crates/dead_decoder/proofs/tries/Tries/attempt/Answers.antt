-- `dead_decoder::tries::Tries::attempt` meets its contract: the first coefficient decides, or else what is proposed.
use mathlib.Core.Path.{sym, ap, ◌∙◌}
use Rattle.rank.specs.Definitions.{at}
use Rattle.candidate.specs.Finding.{found_message}
use Rattle.dead_decoder.specs.Fractions.{fraction_at}
use Rattle.dead_decoder.specs.Solutions.{last_term_by, tried_by, attempt_dead_none, attempt_dead_some}
use Rattle.dead_decoder.proofs.tries.Tries.attempt.Goals as goal

pub returns-then-high-ne0 : goal.returns-then-high-ne0
unfolding found_message
returns-then-high-ne0 c =
    let t = c.args.self in
    let d = t.card in (
      sym (attempt_dead_none t.n d.k.value d.rows.bits d.columns.bits d.card.symbols (at t.shared.coefficients) c.args.b t.shared.factor t.first t.even.0 t.even.1 t.factor_is t.first_is _
          (c.at.ensures ∙ ap (fraction_at t.first) c.small_symbol-u.ensures) (λ z. c.if-high-ne0.true (c.high.ensures ∙ z))),
      tt,
    )

pub returns : goal.returns
unfolding at
returns c =
    let t = c.args.self in
    let d = t.card in (
      c.propose.ensures.0
          ∙ tried_by d.rows.bits d.columns.bits d.k.value d.k.within.1 d.card.symbols t.n c.args.b _ _ (at t.shared.coefficients) c.less_top-r.ensures
          (last_term_by t.n _ t.shared.factor _ c.args.b _ _ t.even.1 t.factor_is c.small_symbol-u.ensures c.conjugates-s.ensures c.product-last.ensures)
          ∙ attempt_dead_some t.n d.k.value d.rows.bits d.columns.bits d.card.symbols (at t.shared.coefficients) c.args.b t.shared.factor t.first t.even.0 t.even.1 t.factor_is t.first_is _
          (c.at.ensures ∙ ap (fraction_at t.first) c.small_symbol-u.ensures) (sym c.high.ensures ∙ c.if-high-ne0.false),
      c.propose.ensures.1,
    )
