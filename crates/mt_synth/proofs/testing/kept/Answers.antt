use Rattle.std.proofs.Common.{◌∙◌, ap, ℕ, List, get_or, slice_get}
use Rattle.std.proofs.lemmas.Result.{IfOk-weaker}
use Rattle.mt_cuts.specs.Tree.{value_of}
use Rattle.mt_cuts.specs.View.{tree_of}
use Rattle.mt_terms.specs.Terms.{term_form}
use Rattle.mt_synth.specs.Cuts.{tree_numbered}
use Rattle.mt_synth.proofs.TestsMeant.{tests_kept}
use Rattle.mt_synth.proofs.testing.kept.Goals as goal

pub returns-clause-means : goal.returns-clause-means
returns-clause-means c = IfOk-weaker _ _ _
    (λ cut values. tests_kept c.args.devices c.args.trees.now c.tests_of.new.trees (term_form c.args.term.now) c.args.span (tree_of c.args.inside.now) (tree_of c.args.outside.now) (tree_of c.in_ok-cut.cut) (tree_of cut)
    c.deref.result.now c.deref-2.result.now (λ header. ap (λ (ps : List (ℕ × ℕ)). slice_get ps (value_of (tree_of c.in_ok-cut.cut) header)) c.deref.ensures.value ∙ c.in_ok-cut.ensures.pairs header)
    (λ place pair is inside outside e e'. ap (λ (ns : List ℕ). tree_numbered c.tests_of.new.trees (get_or ns place 0)) c.deref-2.ensures.value ∙ c.in_ok-names.ensures.tests place pair is inside outside e e') values)
    c.renamed.ensures.value
