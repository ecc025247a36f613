use Rattle.mt_pipeline.proofs.Entries.{reply_answers}
use Rattle.mt_pipeline.proofs.passage.meet_reply.Goals as goal

pub returns : goal.returns
returns c = reply_answers c.args.store.now c.args.key.now.element c.args.key.now.before c.meet_reply.result c.keys_differ.ensures.forward c.keys_differ.ensures.reply c.meet_reply.ensures
