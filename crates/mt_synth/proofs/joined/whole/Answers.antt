use Rattle.std.proofs.Common.{◌∙◌, sym, subst, length, refl}
use Rattle.std.proofs.lemmas.Option.{same_Some, slice_get_read}
use Rattle.std.proofs.lemmas.Result.{IfOk-weaker}
use Rattle.mt_packet.specs.declared.cause.Cause.TheVariants.{Short}
use Rattle.mt_cuts.specs.View.{tree_of}
use Rattle.mt_cuts.specs.declared.cut.Cut.{Cut}
use Rattle.mt_trees.specs.Elements.{dropped}
use Rattle.mt_synth.specs.Cuts.{Means}
use Rattle.mt_synth.proofs.Meant.{means_later}
use Rattle.mt_synth.proofs.joined.whole.Goals as goal

pub field_tested-requires-clause-finished : goal.field_tested-requires-clause-finished
field_tested-requires-clause-finished c = c.in_ok-short.ensures.finishes c.args.devices

pub returns-clause-means : goal.returns-clause-means
returns-clause-means c =
    let first = slice_get_read c.args.cuts.now (length c.args.cuts.now) 0 c.index-cuts-0.result refl c.requires.some c.index-cuts-0.is in
    IfOk-weaker c.field_tested.result _ _
    (λ cut means inside inside_at is_inside inside_means.
    means inside_at (λ header. dropped Short)
    (means_later c.args.devices c.args.trees.now c.dropped.new.trees (tree_of c.index-cuts-0.result) inside_at c.dropped.ensures.grows
    (subst (λ (one : Cut). Means c.args.devices c.args.trees.now (tree_of one) inside_at) (sym (same_Some c.index-cuts-0.result inside (sym first ∙ is_inside))) inside_means))
    (c.in_ok-short.ensures.means c.args.devices))
    c.field_tested.ensures.means
