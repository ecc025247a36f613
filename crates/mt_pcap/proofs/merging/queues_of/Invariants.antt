use Rattle.std.proofs.Common.{◌≡◌}
use Rattle.mt_pcap.specs.Sources.{begun}
use Rattle.mt_pcap.proofs.merging.queues_of.Given as goal

abbrev pub invariant-loop-reader : goal.invariant-loop-reader
invariant-loop-reader l = l.queues.items ≡ begun l.yielded
