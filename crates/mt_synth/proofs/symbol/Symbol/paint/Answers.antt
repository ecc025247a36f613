use Rattle.std.proofs.Common.{◌≤◌, ◌∙◌, sym, ap, subst, arith}
use Rattle.mt_packet.specs.declared.field.Field.TheVariants as of
use Rattle.mt_terms.specs.Terms.{term_form}
use Rattle.mt_trees.specs.Symbols.{term_at}
use Rattle.mt_synth.specs.Symbols.{IsPaint, symbol_form}
use Rattle.mt_synth.proofs.TermSet.{const_form}
use Rattle.mt_synth.proofs.symbol.Symbol.paint.Goals as goal

pub overflow_cast-result : goal.overflow_cast-result
overflow_cast-result c =
    let small : c.in-Const.paint ≤ 255 = subst IsPaint (ap (λ symbol. term_at (symbol_form symbol) of.Paint) c.self.view_is ∙ (sym c.term.ensures ∙ (ap term_form c.in-Const.is ∙ const_form c.in-Const.paint))) c.self.invariant.paint in
    omega (arith, small)
