use Rattle.std.proofs.Common.{arith, subst, sym, ◌∙◌}
use Rattle.mt_pcap.specs.Filling.{heads_of}
use Rattle.mt_pcap.proofs.Best.{Best}
use Rattle.mt_pcap.proofs.MergeStreams.{no_head_yet, head_seen, head_skipped, head_found, no_head_found, head_there}
use Rattle.mt_pcap.proofs.merging.next_index.Goals as goal
use Rattle.mt_pcap.proofs.merging.next_index.Goals.{in-Some, in_default}

pub loop-index-init : goal.loop-index-init
loop-index-init c = no_head_yet c.args.queues.now

pub loop-index-preserved : goal.loop-index-preserved
loop-index-preserved c =
    elim c.match-first_stamp.branch [
      | in-Some w ↦ rw w.best-is (head_seen c.args.queues.now c.loop-index.index c.loop-index.best c.index-queues-index.result w.in-Some.stamp w.sooner.result (omega arith) c.index-queues-index.is (sym w.in-Some.is ∙ c.first_stamp.ensures) w.sooner.ensures c.loop-index.invariant)
      | in_default w ↦ rw w.best-is (head_skipped c.args.queues.now c.loop-index.index c.loop-index.best c.index-queues-index.result (omega arith) c.index-queues-index.is (sym w.in_default.is ∙ c.first_stamp.ensures) c.loop-index.invariant)
    ]

pub returns-in-Some-best-clause-least : goal.returns-in-Some-best-clause-least
returns-in-Some-best-clause-least c =
    head_found c.args.queues.now c.loop-index.index c.in-Some-best.index c.in-Some-best.field-0-1 (omega arith) (subst (Best (heads_of c.args.queues.now) c.loop-index.index) c.in-Some-best.is c.loop-index.invariant)

pub returns-in-Some-best-clause-there : goal.returns-in-Some-best-clause-there
returns-in-Some-best-clause-there c =
    head_there c.args.queues.now c.loop-index.index c.in-Some-best.index c.in-Some-best.field-0-1 (omega arith) (subst (Best (heads_of c.args.queues.now) c.loop-index.index) c.in-Some-best.is c.loop-index.invariant)

pub returns-in-None-clause-least : goal.returns-in-None-clause-least
returns-in-None-clause-least c = no_head_found c.args.queues.now c.loop-index.index (omega arith) (subst (Best (heads_of c.args.queues.now) c.loop-index.index) c.in-None.is c.loop-index.invariant)
