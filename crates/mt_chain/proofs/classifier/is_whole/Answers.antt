use Rattle.mt_chain.proofs.TestsAgree.{whole_test}
use Rattle.mt_chain.proofs.classifier.is_whole.Goals as goal

pub returns-clause-value : goal.returns-clause-value
returns-clause-value c = whole_test c.has_whole_ethernet.result c.args.packet.now c.has_whole_ethernet.ensures
