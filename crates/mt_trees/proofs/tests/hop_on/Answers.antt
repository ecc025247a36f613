use Rattle.mt_trees.proofs.Applied.{hop_can}
use Rattle.mt_trees.proofs.tests.hop_on.Goals as goal

pub apply-requires-clause-allowed : goal.apply-requires-clause-allowed
apply-requires-clause-allowed c =
    hop_can c.header-header.result c.check_ip.new.self _ _ _ c.in_ok-set.ensures.ok c.new-list.ensures c.in_ok-less.ensures.form c.header-header.ensures.ranges c.if-not-check_ip.ensures.checked
