use Rattle.std.proofs.lemmas.Result.{IfOk-weaker}
use Rattle.mt_cuts.specs.View.{tree_of}
use Rattle.mt_trees.specs.Elements.{passage_tree}
use Rattle.mt_synth.specs.Symbols.{symbol_form}
use Rattle.mt_synth.proofs.Meant.{means_later}
use Rattle.mt_synth.proofs.joined.ported.Goals as goal

pub returns-clause-means : goal.returns-clause-means
returns-clause-means c =
    IfOk-weaker c.field_tested.result _ _
    (λ cut means chain along own specs spec unported_at are behind_them unported_means.
    means (λ header. passage_tree chain header (along header) c.args.at own (symbol_form c.args.symbol.now) specs spec) unported_at
    (c.in_ok-made.ensures.means chain along own specs spec are behind_them)
    (means_later c.args.devices c.args.trees.now c.passed.new.trees (tree_of c.args.unported) unported_at c.passed.ensures.grows unported_means))
    c.field_tested.ensures.means
