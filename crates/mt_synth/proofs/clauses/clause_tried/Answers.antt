use Rattle.std.proofs.lemmas.Result.{IfOk-weaker}
use Rattle.mt_cuts.specs.View.{tree_of}
use Rattle.mt_synth.specs.Symbols.{symbol_form}
use Rattle.mt_synth.proofs.ClausesUnderWay.{clause_means}
use Rattle.mt_synth.proofs.clauses.clause_tried.Goals as goal

pub returns-clause-means : goal.returns-clause-means
returns-clause-means c = IfOk-weaker _ _ _
    (λ made means. clause_means c.args.devices c.args.trees.now c.value_tried.new.trees c.field_tested.new.trees (symbol_form c.args.symbol.now) c.args.clause (tree_of c.args.inside.now) (tree_of c.args.outside.now)
    (tree_of c.in_ok-other.other) (tree_of c.in_ok-has.has) (tree_of c.in_ok-other-2.other) (tree_of made)
    c.in_ok-other.ensures.value c.in_ok-other-2.ensures.value c.value_tried.ensures.grows c.in_ok-has.ensures.means means)
    c.field_tested.ensures.means
