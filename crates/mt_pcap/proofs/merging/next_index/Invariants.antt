use Rattle.mt_pcap.specs.Filling.{heads_of}
use Rattle.mt_pcap.proofs.Best.{Best}
use Rattle.mt_pcap.proofs.merging.next_index.Given as goal

abbrev pub invariant-loop-index : goal.invariant-loop-index
invariant-loop-index l = Best (heads_of l.queues) l.index l.best
