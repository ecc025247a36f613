use Rattle.std.proofs.lemmas.Result.{IfOk-weaker}
use Rattle.mt_cuts.specs.View.{tree_of}
use Rattle.mt_trees.specs.Tests.{clauses_tried}
use Rattle.mt_synth.specs.Decided.{clauses_hold}
use Rattle.mt_synth.specs.Symbols.{symbol_form}
use Rattle.mt_synth.proofs.Meant.{selected_form}
use Rattle.mt_synth.proofs.ClausesDecided.{clauses_sides}
use Rattle.mt_synth.proofs.clauses.clauses_tried.Goals as goal

pub returns-then-are_decided-clause-means : goal.returns-then-are_decided-clause-means
returns-then-are_decided-clause-means c =
    let known = c.are_decided.ensures c.if-are_decided.true in
    IfOk-weaker _ _ _
    (λ made values. selected_form c.args.devices c.args.trees.now (tree_of c.in_ok-holds.holds) (tree_of c.args.inside.now) (tree_of c.args.outside) (tree_of made)
    (λ header. clauses_hold header (symbol_form c.args.symbol.now) c.args.clauses.now) (λ header. clauses_tried header (symbol_form c.args.symbol.now) c.args.clauses.now)
    (λ header. clauses_sides header (symbol_form c.args.symbol.now) known c.args.clauses.now) c.in_ok-holds.ensures.holds values)
    c.select.ensures.value
