use Rattle.mt_pipeline.proofs.serving.take_head.Goals as goal

pub returns-clause-taken : goal.returns-clause-taken
returns-clause-taken c = c.in-Some.ensures.items
