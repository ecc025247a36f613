use Rattle.std.proofs.Common.{◌∙◌, ap, Some}
use Rattle.std.proofs.lemmas.Result.{IfOk-weaker}
use Rattle.mt_packet.specs.declared.cause.Cause.TheVariants as cause
use Rattle.mt_cuts.specs.View.{tree_of}
use Rattle.mt_terms.specs.Trees.{drop}
use Rattle.mt_trees.specs.Tests.{pattern_tried}
use Rattle.mt_synth.specs.Decided.{pattern_holds}
use Rattle.mt_synth.specs.Symbols.{symbol_form}
use Rattle.mt_synth.proofs.Marks.{marks_condition, means_leaf, tree-drop}
use Rattle.mt_synth.proofs.PatternsDecided.{decided_sides}
use Rattle.mt_synth.proofs.patterns.decided.Goals as goal

pub returns-clause-holds : goal.returns-clause-holds
returns-clause-holds c =
    let first = c.in_ok-inside.ensures.number ∙ ap Some (tree-drop cause.Unported) in
    let second = c.in_ok-outside.ensures.number ∙ ap Some (tree-drop cause.Filtered) in
    let inside = means_leaf c.args.devices c.number-2.new.self (tree_of c.leaf.result) c.in_ok-inside.inside (drop cause.Unported) c.leaf.ensures.tree first in
    let outside = means_leaf c.args.devices c.number-2.new.self (tree_of c.leaf-2.result) c.in_ok-outside.outside (drop cause.Filtered) c.leaf-2.ensures.tree
    (c.number-2.ensures.grows c.in_ok-outside.outside (drop cause.Filtered) second) in
    IfOk-weaker _ _ _
    (λ made condition. marks_condition c.args.devices c.tried.new.trees (tree_of c.in_ok-cut.cut) (tree_of made) c.in_ok-inside.inside
    (λ header. pattern_holds header (symbol_form c.args.symbol.now) c.args.pattern.now)
    (λ header. pattern_tried header (symbol_form c.args.symbol.now) c.args.pattern.now (Some (drop cause.Unported)) (Some (drop cause.Filtered)))
    (λ header. decided_sides header (symbol_form c.args.symbol.now) c.args.pattern.now c.requires (Some (drop cause.Unported)) (Some (drop cause.Filtered)))
    (c.tried.ensures.grows c.in_ok-inside.inside (drop cause.Unported) first)
    (c.in_ok-cut.ensures.means (λ header. Some (drop cause.Unported)) (λ header. Some (drop cause.Filtered)) inside outside)
    condition)
    c.where_numbered.ensures.condition
