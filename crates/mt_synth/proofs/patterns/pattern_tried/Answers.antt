use Rattle.std.proofs.Common.{◌≡◌, ◌∙◌, sym, true}
use Rattle.std.proofs.lemmas.Result.{IfOk-weaker}
use Rattle.mt_cuts.specs.View.{tree_of}
use Rattle.mt_trees.specs.Tests.{pattern_tried}
use Rattle.mt_synth.specs.Decided.{is_decided, pattern_holds}
use Rattle.mt_synth.specs.Symbols.{symbol_form}
use Rattle.mt_synth.proofs.Meant.{selected_form, from_copy}
use Rattle.mt_synth.proofs.PatternsDecided.{decided_sides}
use Rattle.mt_synth.proofs.patterns.pattern_tried.Goals as goal

pub returns-then-branch-clause-means : goal.returns-then-branch-clause-means
returns-then-branch-clause-means c =
    let decided : is_decided (symbol_form c.args.symbol.now) c.args.pattern.now ≡ true = sym c.in_ok-is_decided.ensures ∙ c.if-branch.true in
    IfOk-weaker _ _ _
    (λ made values. selected_form c.args.devices c.args.trees.now (tree_of c.in_ok-holds.holds) (tree_of c.args.inside.now) (tree_of c.args.outside) (tree_of made)
    (λ header. pattern_holds header (symbol_form c.args.symbol.now) c.args.pattern.now) (λ header. pattern_tried header (symbol_form c.args.symbol.now) c.args.pattern.now)
    (λ header. decided_sides header (symbol_form c.args.symbol.now) c.args.pattern.now decided) c.in_ok-holds.ensures.holds values)
    c.select.ensures.value

pub returns-clause-means : goal.returns-clause-means
returns-clause-means c = IfOk-weaker _ _ _
    (λ made means. from_copy c.args.devices c.args.trees.now c.tried.new.trees (tree_of c.args.inside.now) (tree_of c.in_ok-inside.inside) (tree_of c.args.outside) (tree_of made)
    (λ header. pattern_tried header (symbol_form c.args.symbol.now) c.args.pattern.now) c.in_ok-inside.ensures.value means)
    c.tried.ensures.means
