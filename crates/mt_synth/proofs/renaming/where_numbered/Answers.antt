use Rattle.std.proofs.lemmas.Result.{IfOk-weaker}
use Rattle.mt_cuts.specs.View.{tree_of}
use Rattle.mt_synth.proofs.Marks.{condition_numbered}
use Rattle.mt_synth.proofs.renaming.where_numbered.Goals as goal

pub returns-clause-condition : goal.returns-clause-condition
returns-clause-condition c = IfOk-weaker _ _ _
    (λ made values. condition_numbered c.args.devices c.args.trees.now (tree_of c.args.cut.now) (tree_of made) c.args.number c.as_slice.ensures.apart values)
    c.merge.ensures.value
