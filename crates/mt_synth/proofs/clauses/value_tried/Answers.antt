use Rattle.std.proofs.lemmas.Result.{IfOk-weaker}
use Rattle.mt_cuts.specs.View.{tree_of}
use Rattle.mt_synth.specs.Symbols.{symbol_form}
use Rattle.mt_synth.proofs.ClausesUnderWay.{asked_means}
use Rattle.mt_synth.proofs.clauses.value_tried.Goals as goal

pub returns-clause-means : goal.returns-clause-means
returns-clause-means c = IfOk-weaker _ _ _
    (λ made means. asked_means c.args.devices c.args.trees.now c.field_tested.new.trees (symbol_form c.args.symbol.now) c.args.clause c.asked-field.result.0 c.asked-field.result.1 (tree_of c.args.inside.now) (tree_of c.args.outside) (tree_of made)
    c.asked-field.ensures means)
    c.field_tested.ensures.means
