use Rattle.std.proofs.lemmas.Result.{IfOk-weaker}
use Rattle.mt_cuts.specs.View.{tree_of}
use Rattle.mt_terms.specs.Terms.{term_form}
use Rattle.mt_synth.proofs.TestsMeant.{decided_means, kept_means}
use Rattle.mt_synth.proofs.testing.tested.Goals as goal

pub returns-in-Some-clause-means : goal.returns-in-Some-clause-means
returns-in-Some-clause-means c =
    let known = rw c.in-Some.is at c.in_ok-holds.ensures.known in
    let holds = rw c.in-Some.is at c.in_ok-holds.ensures.holds in
    IfOk-weaker _ _ _
    (λ cut values. decided_means c.args.devices c.args.trees.now (term_form c.args.term.now) c.args.span (tree_of c.in-Some.holds) (tree_of c.args.inside.now) (tree_of c.args.outside) (tree_of cut) known holds values)
    c.select.ensures.value

pub returns-in-None-clause-means : goal.returns-in-None-clause-means
returns-in-None-clause-means c =
    let some = rw c.in-None.is at c.in_ok-holds.ensures.unknown in
    IfOk-weaker _ _ _
    (λ cut means. kept_means c.args.devices c.args.trees.now c.kept.new.trees (term_form c.args.term.now) c.args.span (tree_of c.args.inside.now) (tree_of c.args.outside) (tree_of cut) some means)
    c.kept.ensures.means
