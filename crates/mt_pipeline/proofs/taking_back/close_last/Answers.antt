use Rattle.std.proofs.Common.{arith}
use Rattle.mt_pipeline.proofs.Undone.{closed_since, none_since, since_opened}
use Rattle.mt_pipeline.proofs.taking_back.close_last.Goals as goal

pub loop-init : goal.loop-init
loop-init g c = record { ready = c.requires.ready; since = λ mappings since. since_opened mappings c.args.resources.now.store c.args.count since }

pub loop-preserved : goal.loop-preserved
loop-preserved g c = record {
  ready = c.close_one.ensures.ready;
  since = λ mappings since. closed_since mappings c.loop.resources.store c.close_one.new.resources.store c.close_one.ensures.closed c.args.count c.loop.counter (omega (arith, c.loop-test.true)) (c.loop.invariant.since mappings since);
}

pub returns-clause-ready : goal.returns-clause-ready
returns-clause-ready g c = c.loop.invariant.ready

pub returns-clause-closed : goal.returns-clause-closed
returns-clause-closed g c = λ mappings since. none_since mappings c.loop.resources.store c.args.count c.loop.counter (omega (arith, c.loop-test.false)) (c.loop.invariant.since mappings since)
