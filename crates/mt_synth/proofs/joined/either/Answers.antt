use Rattle.std.proofs.Common.{◌∙◌, sym, subst, length, refl}
use Rattle.std.proofs.lemmas.Option.{same_Some, slice_get_read}
use Rattle.std.proofs.lemmas.Result.{IfOk-weaker}
use Rattle.mt_cuts.specs.View.{tree_of}
use Rattle.mt_cuts.specs.declared.cut.Cut.{Cut}
use Rattle.mt_synth.specs.Cuts.{Means}
use Rattle.mt_synth.proofs.Meant.{means_values}
use Rattle.mt_synth.proofs.joined.either.Goals as goal

pub returns-clause-means : goal.returns-clause-means
returns-clause-means c =
    let first = slice_get_read c.args.cuts.now (length c.args.cuts.now) 0 c.index-cuts-0.result refl c.requires.some c.index-cuts-0.is in
    IfOk-weaker c.field_tested.result _ _
    (λ cut means inside outside inside_at outside_at is_inside is_outside inside_means outside_means.
    means inside_at outside_at
    (subst (λ (one : Cut). Means c.args.devices c.args.trees.now (tree_of one) inside_at) (sym (same_Some c.index-cuts-0.result inside (sym first ∙ is_inside))) inside_means)
    (means_values c.args.devices c.args.trees.now (tree_of outside) (tree_of c.in_ok-outside.outside) outside_at (c.in_ok-outside.ensures.value outside is_outside) outside_means))
    c.field_tested.ensures.means
