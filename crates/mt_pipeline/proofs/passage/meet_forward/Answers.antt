use Rattle.mt_pipeline.proofs.Entries.{forward_answers, unmet_answers}
use Rattle.mt_pipeline.proofs.passage.meet_forward.Goals as goal

pub returns-clause-meets : goal.returns-clause-meets
returns-clause-meets c = forward_answers c.args.store.now c.args.key.now c.meet_forward.result c.keys_differ.ensures.forward c.meet_forward.ensures

pub returns-clause-unmet : goal.returns-clause-unmet
returns-clause-unmet c = unmet_answers c.args.store.now c.args.key.now c.meet_forward.result c.meet_forward.ensures
