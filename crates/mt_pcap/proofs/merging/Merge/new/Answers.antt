use Rattle.std.proofs.Common.{subst, sym}
use Rattle.mt_pcap.specs.Filling.{IsOfMerge}
use Rattle.mt_pcap.proofs.MergeStreams.{of_merge_begun}
use Rattle.mt_pcap.proofs.merging.Merge.new.Goals as goal

pub invariant_of-result : goal.invariant_of-result
invariant_of-result c =
    subst (λ l. IsOfMerge l 0) (sym c.in_ok-queues_of.ensures) (of_merge_begun c.args.readers.items c.requires.few c.requires.apart c.requires.none_given)
