use Rattle.mt_trees.proofs.Applied.{one_written, one_counted}
use Rattle.mt_trees.proofs.leaf.write_all.Goals as goal

pub loop-rest-preserved : goal.loop-rest-preserved
loop-rest-preserved c =
    let behind = one_written _ _ c.loop-rest.rest.now c.write-item.result _ _ _ _ c.in-len1-up.len_at_least c.write-item.is c.write_field.ensures.written c.value.ensures.value c.loop-rest.invariant.0 c.loop-rest.invariant.1 in
    (behind.0, behind.1, one_counted c.loop-rest.rest.now _ _ _ c.in-len1-up.len_at_least c.write_field.ensures.counted c.loop-rest.invariant.2)
