use Rattle.std.proofs.Common.{arith}
use Rattle.mt_pipeline.proofs.Few.{few_writes}
use Rattle.mt_pipeline.proofs.serving.sent.Goals as goal

pub returns-clause-few : goal.returns-clause-few
returns-clause-few c =
    let few = few_writes c.args.rewrite.now.writes c.list-list.ensures.ascending in
    let counted = c.apply.ensures.counted in
    omega (arith, few, counted)
