use Rattle.std.proofs.Common.{arith}
use Rattle.mt_wiring.proofs.RingsCleared.{clear_more}
use Rattle.mt_wiring.proofs.clearing.clear_nodes.Goals as goal

pub loop-node-preserved : goal.loop-node-preserved
loop-node-preserved c = record {
  clear = clear_more c.args.graph.now c.loop-node.clear.items c.push.new.self.items c.loop-node.node c.rises.result c.loop-node.invariant.len c.in_ok-push.ensures.items c.rises.ensures c.loop-node.invariant.clear;
  len = let e = c.in_ok-push.ensures.len in let len = c.loop-node.invariant.len in omega (arith, e, len);
}
